-- Live records in parts: those that are told, the next one, and those behind it.
use Rattle.std.proofs.Common.{◌≡◌, ◌∙◌, ◌+◌, ◌++◌, ℕ, true, false, cond, List, [], ◌∷◌, length, drop, Option, Some, None, refl, sym, ap, subst, bytes_eq, arith}
use Rattle.std.proofs.lemmas.List.{append_assoc, append-nil, drop_all}
use Rattle.std.proofs.lemmas.Slice.Eq.{bytes_eq-Decides}
use Rattle.std.specs.Cmp.Lexicographic.{nat_list_eq_equiv}
use Rattle.log_segments.specs.Newest.{has_key, find, live}
use Rattle.log_segments.specs.Record.{key_of}
use Rattle.log_tree.specs.Held.{Records}
use Rattle.log_held.specs.Sound.{AreOnce}
use Rattle.log_held.proofs.Lists.{live_once}
use Rattle.log_index.specs.Memory.{Memory}
use Rattle.log_mount.specs.Told.{HasTold}

-- the first that there is
abbrev pub or_else : Option (List ℕ) → Option (List ℕ) → Option (List ℕ)
or_else None p = p
or_else (Some r) p = Some r

pub find-append : (k : List ℕ) (xs ys : Records) → find k (xs ++ ys) ≡ or_else (find k xs) (find k ys)
find-append k [] ys = refl
find-append k (x ∷ xs) ys = elim (bytes_eq (key_of x) k) as (λ b. cond b (Some x) (find k (xs ++ ys))
    ≡ or_else (cond b (Some x) (find k xs)) (find k ys)) [ true ↦ refl | false ↦ find-append k xs ys ]

-- one that is told is found among all
pub found_in : (k : List ℕ) (xs ys : Records) (r : List ℕ) → find k xs ≡ Some r → find k (xs ++ ys) ≡ Some r
found_in k xs ys r is = find-append k xs ys ∙ ap (λ o. or_else o (find k ys)) is

has_not : (k : List ℕ) (xs ys : Records) (b : List ℕ) → has_key k (xs ++ b ∷ ys) ≡ false → bytes_eq (key_of b) k ≡ false
has_not k [] ys b h = elim (bytes_eq (key_of b) k) as (λ t. cond t true (has_key k ys) ≡ false → t ≡ false)
    [ true ↦ (λ e. e) | false ↦ (λ e. refl) ] h
has_not k (x ∷ xs) ys b h = has_not k xs ys b (elim (bytes_eq (key_of x) k) as (λ t.
    cond t true (has_key k (xs ++ b ∷ ys)) ≡ false → has_key k (xs ++ b ∷ ys) ≡ false)
    [ true ↦ (λ e. cc) | false ↦ (λ e. e) ] h)

-- the key of the next one was not told
pub not_before : (xs ys : Records) (b : List ℕ) → AreOnce (xs ++ b ∷ ys) → find (key_of b) xs ≡ None
not_before [] ys b once = refl
not_before (x ∷ xs) ys b once =
    let other : bytes_eq (key_of x) (key_of b) ≡ false =
    nat_list_eq_equiv.symm (key_of x) (key_of b) ∙ has_not (key_of x) xs ys b once.0 in
    ap (λ t. cond t (Some x) (find (key_of b) xs)) other ∙ not_before xs ys b once.1

pub itself : (b : List ℕ) → bytes_eq (key_of b) (key_of b) ≡ true
itself b = (bytes_eq-Decides (key_of b) (key_of b)).1 refl

-- the next one is found among all
pub found_here : (xs ys : Records) (b : List ℕ) → AreOnce (xs ++ b ∷ ys) → find (key_of b) (xs ++ b ∷ ys) ≡ Some b
found_here xs ys b once =
    find-append (key_of b) xs (b ∷ ys)
    ∙ (ap (λ o. or_else o (find (key_of b) (b ∷ ys))) (not_before xs ys b once)
    ∙ ap (λ t. cond t (Some b) (find (key_of b) ys)) (itself b))

-- one more is told
pub told_here : (xs : Records) (b : List ℕ) → find (key_of b) xs ≡ None → find (key_of b) (xs ++ b ∷ []) ≡ Some b
told_here xs b none =
    find-append (key_of b) xs (b ∷ [])
    ∙ (ap (λ o. or_else o (find (key_of b) (b ∷ []))) none ∙ ap (λ t. cond t (Some b) None) (itself b))

or_none : (o : Option (List ℕ)) → or_else o None ≡ o
or_none None = refl
or_none (Some r) = refl

pub told_other : (xs : Records) (b k : List ℕ) → bytes_eq (key_of b) k ≡ false → find k (xs ++ b ∷ []) ≡ find k xs
told_other xs b k other =
    find-append k xs (b ∷ []) ∙ (ap (λ t. or_else (find k xs) (cond t (Some b) None)) other ∙ or_none (find k xs))

pub moved : (xs ys all rest : Records) (b : List ℕ) → xs ++ ys ≡ all → ys ≡ b ∷ rest → (xs ++ b ∷ []) ++ rest ≡ all
moved xs ys all rest b whole next = append_assoc xs (b ∷ []) rest ∙ (ap (λ zs. xs ++ zs) (sym next) ∙ whole)

-- ONE TURN

-- no record of the place is live
pub turn_none : (among : Records → Records → List ℕ → Option (List ℕ)) (records : Records) (n : ℕ) (x : Memory)
    → live (drop n records) ≡ live (drop (n + 1) records) → HasTold among records n x → HasTold among records (n + 1) x
turn_none among records n x same h = record {
  told = h.told;
  rest = ap (λ ys. h.told ++ ys) (sym same) ∙ h.rest;
  is = h.is;
}

-- the next of the live records
pub record IsNext (told all : Records) (b : List ℕ) : Type 0 where
  pub here : find (key_of b) all ≡ Some b
  pub fresh : find (key_of b) told ≡ None

pub is_next : (records told : Records) (n : ℕ) (b : List ℕ) → told ++ live (drop n records) ≡ live records
    → live (drop n records) ≡ b ∷ live (drop (n + 1) records) → IsNext told (live records) b
is_next records told n b rest next =
    let tail = live (drop (n + 1) records) in
    let whole : told ++ b ∷ tail ≡ live records = ap (λ ys. told ++ ys) (sym next) ∙ rest in
    let once : AreOnce (told ++ b ∷ tail) = subst AreOnce (sym whole) (live_once records) in
    record {
      here = ap (find (key_of b)) (sym whole) ∙ found_here told tail b once;
      fresh = not_before told tail b once;
    }

-- all is told at the end
pub told_all : (among : Records → Records → List ℕ → Option (List ℕ)) (records : Records) (n : ℕ) (x : Memory)
    → n ≡ length records → (h : HasTold among records n x) → h.told ≡ live records
told_all among records n x whole h =
    sym (append-nil h.told)
    ∙ (ap (λ ys. h.told ++ live ys) (sym (drop_all n records (omega arith))) ∙ h.rest)
