-- Pieces of one width: one more at the end, one in place of another, and fewer.
use Rattle.std.proofs.Common.{◌≡◌, ℕ, zero, suc, ◌+◌, ◌<◌, ◌≤◌, arith, List, [], ◌∷◌, ◌++◌, take, drop, set, length, slice_get, Some, refl, sym, ap, ◌∙◌}
use Rattle.std.proofs.lemmas.List.{take_all, drop_all, take-append-le, drop-append-le, length-drop, length-take-le, take-take, drop-take, drop-drop, nil_from_length, append_assoc}
use Rattle.std.proofs.Math.Seq.{take-add}
use Rattle.inode_dirs.specs.SlotBytes.{span, pieces, with_piece}

module _ {S : Type 0} (width : ℕ) (read : List ℕ → S) where
  -- one piece more
  pub pieces-append : (n : ℕ) (b s : List ℕ) → length b ≡ span width read n → length s ≡ width →
      pieces width read (suc n) (b ++ s) ≡ pieces width read n b ++ read s ∷ []
  unfolding span pieces
  pieces-append zero b s size fits =
      let none = nil_from_length b size in
      ap (λ (b : List ℕ). read (take width (b ++ s)) ∷ []) none ∙ ap (λ s. read s ∷ [])
      (take_all width s (omega (arith, fits)))
  pieces-append (suc n) b s size fits =
      let first : width ≤ length b = omega (arith, size) in
      let rest = length-drop width b in
      ap (λ x. read x ∷ pieces width read (suc n) (drop width (b ++ s))) (take-append-le width b s first)
      ∙ ap (λ x. read (take width b) ∷ pieces width read (suc n) x) (drop-append-le width b s first)
      ∙ ap (λ l. read (take width b) ∷ l) (pieces-append n (drop width b) s (omega (arith, rest, size)) fits)

  -- how many there are
  pub length-pieces : (n : ℕ) (b : List ℕ) → length (pieces width read n b) ≡ n
  unfolding pieces
  length-pieces zero b = refl
  length-pieces (suc n) b = ap suc (length-pieces n (drop width b))

  -- one of them
  pub pieces-get : (n k : ℕ) (b : List ℕ) → k < n →
      slice_get (pieces width read n b) k ≡ Some (read (take width (drop (span width read k) b)))
  unfolding span pieces
  pieces-get zero k b l = absurd (omega (arith, l))
  pieces-get (suc n) zero b l = refl
  pieces-get (suc n) (suc k) b l = pieces-get n k (drop width b) (omega (arith, l))
      ∙ ap (λ x. Some (read (take width x))) (drop-drop (span width read k) width b)

  -- fewer pieces
  pub pieces-cut : (n m : ℕ) (b : List ℕ) → n ≤ m → pieces width read n (take (span width read n) b) ≡ take n
      (pieces width read m b)
  unfolding span pieces
  pieces-cut zero m b l = refl
  pieces-cut (suc n) zero b l = absurd (omega (arith, l))
  pieces-cut (suc n) (suc m) b l =
      ap (λ x. read x ∷ pieces width read n (drop width (take (width + span width read n) b)))
      (take-take width (width + span width read n) b (omega arith))
      ∙ ap (λ x. read (take width b) ∷ pieces width read n x) (drop-take width (span width read n) b)
      ∙ ap (λ l. read (take width b) ∷ l) (pieces-cut n m (drop width b) (omega (arith, l)))

  -- one piece in place of another
  pub pieces-put : (n k : ℕ) (b s : List ℕ) → length b ≡ span width read n → length s ≡ width → k < n →
      pieces width read n (with_piece width read k s b) ≡ set (pieces width read n b) k (read s)
  unfolding span pieces
  pieces-put zero k b s size fits l = absurd (omega (arith, l))
  pieces-put (suc n) zero b s size fits l =
      let exact : width ≤ length s = omega (arith, fits) in
      let after : List ℕ = drop (width + 0) b in
      ap (λ x. read x ∷ pieces width read n (drop width (s ++ after))) (take-append-le width s after exact
      ∙ take_all width s (omega (arith, fits)))
      ∙ ap (λ x. read s ∷ pieces width read n x) (drop-append-le width s after exact ∙ ap (λ l. l ++ after)
      (drop_all width s (omega (arith, fits))))
      ∙ ap (λ x. read s ∷ pieces width read n x) (sym (drop-drop 0 width b))
  pieces-put (suc n) (suc k) b s size fits l =
      let first : width ≤ length b = omega (arith, size) in
      let rest = length-drop width b in
      let low : ℕ = span width read k in
      let tail : List ℕ = s ++ drop (width + (width + low)) b in
      let whole : with_piece width read (suc k) s b ≡ take width b ++ (take low (drop width b) ++ tail) =
      ap (λ l. l ++ tail) (take-add width low b) ∙ append_assoc (take width b) (take low (drop width b)) tail in
      let head : width ≤ length (take width b) = (let e = length-take-le width b first in omega (arith, e)) in
      let below : List ℕ = take low (drop width b) ++ tail in
      ap (pieces width read (suc n)) whole
      ∙ ap (λ x. read x ∷ pieces width read n (drop width (take width b ++ below)))
      (take-append-le width (take width b) below head ∙ take_all width (take width b)
      (omega (arith, length-take-le width b first)))
      ∙ ap (λ x. read (take width b) ∷ pieces width read n x) (drop-append-le width (take width b) below head
      ∙ ap (λ l. l ++ below) (drop_all width (take width b) (omega (arith, length-take-le width b first))))
      ∙ ap (λ x. read (take width b) ∷ pieces width read n (take low (drop width b) ++ (s ++ x)))
      (sym (drop-drop (width + low) width b))
      ∙ ap (λ l. read (take width b) ∷ l) (pieces-put n k (drop width b) s (omega (arith, rest, size)) fits
      (omega (arith, l)))
