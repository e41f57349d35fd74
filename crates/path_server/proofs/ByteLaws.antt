-- Bytes that are cut, filled and written over.
use Rattle.std.proofs.Common.{◌≡◌, ℕ, zero, suc, ◌+◌, ◌-◌, ◌≤◌, ◌<◌, cond, List, [], ◌∷◌, ◌++◌, length, take, drop, replicate, refl, sym, ap, ◌∙◌, arith}
use Rattle.std.specs.Prelude.{max}
use Rattle.std.specs.Cmp.{ranked}
use Rattle.std.specs.Ordering.{nat_cmp, ord_max, is_lt}
use Rattle.std.specs.declared.cmp.Ordering.TheVariants.{Less, Equal, Greater}
use Rattle.std.proofs.lemmas.List.{append-nil, take_all, take-replicate, drop-replicate, length-replicate, length-append, length-take, length-drop}
use Rattle.nfs2_types.specs.Bytes.{resized, overwritten}
use Rattle.path_server.specs.Bytes.{rewritten}

take_none : {X : Type 0} (n : ℕ) → take {A = X} n [] ≡ []
take_none zero = refl
take_none (suc n) = refl

drop_none : {X : Type 0} (n : ℕ) → drop {A = X} n [] ≡ []
drop_none zero = refl
drop_none (suc n) = refl

take_both : {X : Type 0} (n : ℕ) (xs ys : List X) → take n (xs ++ ys) ≡ take n xs ++ take (n - length xs) ys
take_both n [] ys = let same : n - 0 ≡ n = omega arith in ap (λ n. take n ys) (sym same)
    ∙ ap (λ l. l ++ take (n - 0) ys) (sym (take_none n))
take_both zero (x ∷ xs) ys = let none : zero - length (x ∷ xs) ≡ 0 = omega arith in ap (λ n. take n ys) (sym none)
take_both (suc n) (x ∷ xs) ys =
    let less : suc n - length (x ∷ xs) ≡ n - length xs = omega arith in
    ap (λ l. x ∷ l) (take_both n xs ys ∙ ap (λ m. take n xs ++ take m ys) (sym less))

drop_both : {X : Type 0} (n : ℕ) (xs ys : List X) → drop n (xs ++ ys) ≡ drop n xs ++ drop (n - length xs) ys
drop_both n [] ys = let same : n - 0 ≡ n = omega arith in ap (λ n. drop n ys) (sym same)
    ∙ ap (λ l. l ++ drop (n - 0) ys) (sym (drop_none n))
drop_both zero (x ∷ xs) ys = let none : zero - length (x ∷ xs) ≡ 0 = omega arith in
    ap (λ n. x ∷ xs ++ drop n ys) (sym none)
drop_both (suc n) (x ∷ xs) ys =
    let less : suc n - length (x ∷ xs) ≡ n - length xs = omega arith in
    drop_both n xs ys ∙ ap (λ m. drop n xs ++ drop m ys) (sym less)

-- a piece put into a file that is long enough for it
module _ (size offset : ℕ) (piece bytes : List ℕ) (is_size : size ≡ max (length bytes) (offset + length piece)) where
  longer : resized size bytes ≡ bytes ++ replicate (size - length bytes) 0
  longer = ap (λ l. l ++ replicate (size - length bytes) 0) (take_all size bytes (omega (arith, is_size)))

  front : take offset (resized size bytes) ≡ resized offset bytes
  front = ap (take offset) longer ∙ take_both offset bytes (replicate (size - length bytes) 0)
      ∙ ap (λ l. take offset bytes ++ l) (take-replicate (offset - length bytes) (size - length bytes) 0 (omega
      (arith, is_size)))

  abbrev end : ℕ
  end = offset + length piece

  no_zeros : replicate {A = ℕ} ((size - length bytes) - (end - length bytes)) 0 ≡ []
  no_zeros = let none : (size - length bytes) - (end - length bytes) ≡ 0 = omega (arith, is_size) in
      ap (λ n. replicate {A = ℕ} n 0) none

  no_gap : drop {A = ℕ} (end - length bytes) (replicate (size - length bytes) 0) ≡ []
  no_gap = drop-replicate (end - length bytes) (size - length bytes) 0 ∙ no_zeros

  back : drop end (resized size bytes) ≡ drop end bytes
  back = ap (drop end) longer ∙ drop_both end bytes (replicate (size - length bytes) 0)
      ∙ ap (λ l. drop end bytes ++ l) no_gap ∙ append-nil (drop end bytes)

  pub overwritten_is : rewritten size offset piece bytes ≡ overwritten offset (take (length piece) piece) bytes
  overwritten_is = ap (λ l. l ++ piece ++ drop (offset + length piece) (resized size bytes)) front
      ∙ ap (λ l. resized offset bytes ++ piece ++ l) back
      ∙ ap (λ l. overwritten offset l bytes) (sym (take_all (length piece) piece (omega arith)))

pub length-resized : (size : ℕ) (bytes : List ℕ) → length (resized size bytes) ≡ size
length-resized size bytes =
    let both = length-append (take size bytes) (replicate (size - length bytes) 0) in
    let first = length-take size bytes in
    let rest = length-replicate {A = ℕ} (size - length bytes) 0 in
    omega (arith, both, first, rest)

pub length-rewritten : (size offset : ℕ) (piece bytes : List ℕ) → offset + length piece ≤ size →
    length (rewritten size offset piece bytes) ≡ size
length-rewritten size offset piece bytes fits =
    let whole = length-resized size bytes in
    let all = length-append (take offset (resized size bytes) ++ piece) (drop (offset + length piece) (resized size
    bytes)) in
    let both = length-append (take offset (resized size bytes)) piece in
    let first = length-take offset (resized size bytes) in
    let last = length-drop (offset + length piece) (resized size bytes) in
    omega (arith, whole, all, both, first, last, fits)

pub ord_max_is : (a b : ℕ) → ord_max nat_cmp a b ≡ max a b
ord_max_is a b = elim (nat_cmp b a) as (λ r. r ≡ nat_cmp b a → cond (is_lt r) a b ≡ max a b) [
  | Less ↦ λ e. let is : b < a = ranked b a Less e in omega (arith, is)
  | Equal ↦ λ e. let is : b ≡ a = ranked b a Equal e in omega (arith, is)
  | Greater ↦ λ e. let is : a < b = ranked b a Greater e in omega (arith, is)
] refl
