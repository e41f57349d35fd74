-- The pointers in a block.
use Rattle.std.proofs.Common.{◌≡◌, ◌≢◌, ℕ, ◌+◌, ◌*◌, ◌^◌, ◌<◌, List, [], ◌∷◌, Bool, true, false, cond, length, set, get_or, replicate, refl, sym, ap, subst, ◌∙◌, inl, inr, arith}
use Rattle.std.specs.Prelude.{◌&&◌, nat_le, nat_lt}
use Rattle.std.specs.Int.{w32, to_be_bytes, from_be_bytes}
use Rattle.std.proofs.lemmas.Bool.{cases_lt, le-leb, lt-ltb, lt-leb, le-ltb}
use Rattle.std.proofs.lemmas.List.{length-set, get_or-set_same, get_or-set_other, get_or-replicate, get_or_past, length-replicate}
use Rattle.std.proofs.lemmas.Nat.{from_be_bytes-to_be_bytes_4}
use Rattle.pointer_tree.specs.Tree.{IsBlock, zeros, word_at, as_pointer, pointer}
use Rattle.pointer_tree.specs.Changes.{IsTop}
use Rattle.pointer_tree.specs.declared.node.Area.{Area}

-- four bytes written
abbrev pub four : List ℕ → ℕ → ℕ → ℕ → ℕ → ℕ → List ℕ
four xs i x y z w = set (set (set (set xs i x) (i + 1) y) (i + 2) z) (i + 3) w

four_other : (xs : List ℕ) (i x y z w k : ℕ) → k ≢ i → k ≢ i + 1 → k ≢ i + 2 → k ≢ i + 3 → get_or (four xs i x y z w)
    k 0 ≡ get_or xs k 0
four_other xs i x y z w k n0 n1 n2 n3 =
    get_or-set_other (set (set (set xs i x) (i + 1) y) (i + 2) z) (i + 3) k w 0 n3
    ∙ get_or-set_other (set (set xs i x) (i + 1) y) (i + 2) k z 0 n2
    ∙ get_or-set_other (set xs i x) (i + 1) k y 0 n1
    ∙ get_or-set_other xs i k x 0 n0

four_first : (xs : List ℕ) (i x y z w : ℕ) → i < length xs → get_or (four xs i x y z w) i 0 ≡ x
four_first xs i x y z w l =
    get_or-set_other (set (set (set xs i x) (i + 1) y) (i + 2) z) (i + 3) i w 0 (omega arith)
    ∙ get_or-set_other (set (set xs i x) (i + 1) y) (i + 2) i z 0 (omega arith)
    ∙ get_or-set_other (set xs i x) (i + 1) i y 0 (omega arith)
    ∙ get_or-set_same xs i x 0 l

four_second : (xs : List ℕ) (i x y z w : ℕ) → i + 1 < length xs → get_or (four xs i x y z w) (i + 1) 0 ≡ y
four_second xs i x y z w l =
    get_or-set_other (set (set (set xs i x) (i + 1) y) (i + 2) z) (i + 3) (i + 1) w 0 (omega arith)
    ∙ get_or-set_other (set (set xs i x) (i + 1) y) (i + 2) (i + 1) z 0 (omega arith)
    ∙ get_or-set_same (set xs i x) (i + 1) y 0 (omega (arith, l, length-set xs i x))

four_third : (xs : List ℕ) (i x y z w : ℕ) → i + 2 < length xs → get_or (four xs i x y z w) (i + 2) 0 ≡ z
four_third xs i x y z w l =
    get_or-set_other (set (set (set xs i x) (i + 1) y) (i + 2) z) (i + 3) (i + 2) w 0 (omega arith)
    ∙ get_or-set_same (set (set xs i x) (i + 1) y) (i + 2) z 0
    (omega (arith, l, length-set xs i x, length-set (set xs i x) (i + 1) y))

four_fourth : (xs : List ℕ) (i x y z w : ℕ) → i + 3 < length xs → get_or (four xs i x y z w) (i + 3) 0 ≡ w
four_fourth xs i x y z w l =
    get_or-set_same (set (set (set xs i x) (i + 1) y) (i + 2) z) (i + 3) w 0
    (omega (
      arith,
      l,
      length-set xs i x,
      length-set (set xs i x) (i + 1) y,
      length-set (set (set xs i x) (i + 1) y)
          (i + 2) z,
    ))

word : ℕ → ℕ → ℕ → ℕ → ℕ
word x y z w = from_be_bytes w32 (x ∷ y ∷ z ∷ w ∷ [])

same_word : (x y z w x' y' z' w' : ℕ) → x ≡ x' → y ≡ y' → z ≡ z' → w ≡ w' → from_be_bytes w32 (x ∷ y ∷ z ∷ w ∷ []) ≡
    from_be_bytes w32 (x' ∷ y' ∷ z' ∷ w' ∷ [])
same_word x y z w x' y' z' w' a b c d = ap (from_be_bytes w32)
    (let e : (x ∷ y ∷ z ∷ w ∷ []) ≡ (x' ∷ y' ∷ z' ∷ w' ∷ []) = cc in e)

-- the word written, and each other
pub word_written : (xs : List ℕ) (j x y z w : ℕ) → 4 * j + 3 < length xs → word_at (four xs (4 * j) x y z w)
    (4 * j) ≡ from_be_bytes w32 (x ∷ y ∷ z ∷ w ∷ [])
word_written xs j x y z w l =
    same_word _ _ _ _ _ _ _ _
    (four_first xs (4 * j) x y z w (omega arith)) (four_second xs (4 * j) x y z w (omega arith))
    (four_third xs (4 * j) x y z w (omega arith)) (four_fourth xs (4 * j) x y z w l)

pub word_kept : (xs : List ℕ) (j i x y z w : ℕ) → i ≢ j → word_at (four xs (4 * j) x y z w) (4 * i) ≡ word_at xs (4 * i)
word_kept xs j i x y z w ne =
    same_word _ _ _ _ _ _ _ _
    (four_other xs (4 * j) x y z w (4 * i) (omega arith) (omega arith) (omega arith) (omega arith))
    (four_other xs (4 * j) x y z w (4 * i + 1) (omega arith) (omega arith) (omega arith) (omega arith))
    (four_other xs (4 * j) x y z w (4 * i + 2) (omega arith) (omega arith) (omega arith) (omega arith))
    (four_other xs (4 * j) x y z w (4 * i + 3) (omega arith) (omega arith) (omega arith) (omega arith))

-- a block of the area is a pointer as it is
pub as_pointer-block : (area : Area) (p : ℕ) → IsBlock area p → as_pointer area p ≡ p
as_pointer-block area p is = rw (le-leb area.first p is.0, lt-ltb p area.end is.1) refl

none_is : (b : Bool) → cond {A = ℕ} b 0 0 ≡ 0
none_is true = refl
none_is false = refl

pub as_pointer-top : (area : Area) (p : ℕ) → IsTop area p → as_pointer area p ≡ p
as_pointer-top area p (inr is) = as_pointer-block area p is
as_pointer-top area p (inl e) = rw e (none_is (nat_le area.first 0 && nat_lt 0 area.end))

pub as_pointer_is : (area : Area) (w : ℕ) → IsTop area (as_pointer area w)
as_pointer_is area w = elim (cases_lt w area.first) [
  | inl l ↦ inl (rw (lt-leb area.first w l) refl)
  | inr h ↦ elim (cases_lt w area.end) [
    | inl l ↦ subst (λ (p : ℕ). IsTop area p) (sym (as_pointer-block area w (h, l))) (inr (h, l))
    | inr g ↦ inl (rw (le-leb area.first w h, le-ltb w area.end g) refl)
  ]
]

-- a pointer is none, or a block of the area
pub pointer_is : (area : Area) (bytes : List ℕ) (j : ℕ) → IsTop area (pointer area bytes j)
unfolding pointer
pointer_is area bytes j = as_pointer_is area (word_at bytes (4 * j))

pub pointer_written : (area : Area) (xs bytes : List ℕ) (j p : ℕ) → 4 * j + 3 < length xs → p < 2 ^ 32 →
    bytes ≡ to_be_bytes w32 p → IsTop area p → pointer area (four xs (4 * j) (get_or bytes 0 0) (get_or bytes 1 0)
    (get_or bytes 2 0) (get_or bytes 3 0)) j ≡ p
unfolding pointer
pointer_written area xs bytes j p l small e is =
    ap (as_pointer area) (word_written xs j _ _ _ _ l)
    ∙ ap (λ (bs : List ℕ). as_pointer area (from_be_bytes w32 (get_or bs 0 0 ∷ get_or bs 1 0 ∷ get_or bs 2 0 ∷ get_or
    bs 3 0 ∷ []))) e
    ∙ ap (as_pointer area) (from_be_bytes-to_be_bytes_4 p small)
    ∙ as_pointer-top area p is

pub pointer_kept : (area : Area) (xs : List ℕ) (j i x y z w : ℕ) → i ≢ j → pointer area (four xs (4 * j) x y z w)
    i ≡ pointer area xs i
unfolding pointer
pointer_kept area xs j i x y z w ne = ap (as_pointer area) (word_kept xs j i x y z w ne)

pub zeros_at : (k : ℕ) → get_or zeros k 0 ≡ 0
unfolding zeros
zeros_at k = elim (cases_lt k 512) [
  | inl l ↦ get_or-replicate 512 k 0 0 l
  | inr l ↦ get_or_past (replicate 512 0) k 0 (let n = length-replicate {A = ℕ} 512 0 in omega (arith, l, n))
]

-- a block of zeros has no pointers
pub pointer-zeros : (area : Area) (j : ℕ) → pointer area zeros j ≡ 0
unfolding pointer
pointer-zeros area j =
    ap (as_pointer area) (same_word _ _ _ _ 0 0 0 0 (zeros_at (4 * j)) (zeros_at (4 * j + 1)) (zeros_at (4 * j + 2))
    (zeros_at (4 * j + 3)))
    ∙ none_is (nat_le area.first 0 && nat_lt 0 area.end)
