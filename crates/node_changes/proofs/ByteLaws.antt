-- Bytes that are cut, filled and written over, piece after piece.
use Rattle.std.proofs.Common.{◌≡◌, inl, inr, ℕ, zero, ◌+◌, ◌-◌, ◌≤◌, max, arith, List, [], ◌++◌, length, take, drop, replicate, sym, ap, ◌∙◌, add-zero, append_assoc, length-append, length-take, length-drop}
use Rattle.std.proofs.lemmas.Bool.{cases_lt}
use Rattle.std.proofs.lemmas.List.{append-nil, length-replicate, length-take-le, take-append-drop}
use Rattle.std.proofs.lemmas.Slice.{drop-append-drop}
use Rattle.std.proofs.Math.ListN.{drop_of_length-le}
use Rattle.std.proofs.Math.Seq.{take-add, take-append_seam, take-length}
use Rattle.nfs2_types.specs.Bytes.{resized, overwritten}

-- LENGTHS

pub length-resized : (n : ℕ) (b : List ℕ) → length (resized n b) ≡ n
length-resized n b =
    let zeros = length-replicate {A = ℕ} (n - length b) 0 in
    omega (arith, length-append (take n b) (replicate (n - length b) 0), length-take n b, zeros)

pub length-overwritten : (o : ℕ) (p b : List ℕ) → length (overwritten o p b) ≡ max (length b) (o + length p)
length-overwritten o p b =
    let front = length-append (resized o b) p in
    let all = length-append (resized o b ++ p) (drop (o + length p) b) in
    let start = length-resized o b in
    let rest = length-drop (o + length p) b in
    omega (arith, front, all, start, rest)

-- SIZES

-- bytes that are cut
pub resized_short : (n : ℕ) (b : List ℕ) → n ≤ length b → resized n b ≡ take n b
resized_short n b short = ap (λ k. take n b ++ replicate k 0) (let none : n - length b ≡ zero = omega arith in none)
    ∙ append-nil (take n b)

-- bytes that have the size already
pub resized_same : (n : ℕ) (b : List ℕ) → n ≡ length b → resized n b ≡ b
resized_same n b same = resized_short n b (omega arith) ∙ ap (λ n. take n b) same ∙ take-length b

-- PIECES

-- no bytes change nothing
pub overwritten_none : (o : ℕ) (b : List ℕ) → o ≤ length b → overwritten o [] b ≡ b
overwritten_none o b within =
    ap (λ l. l ++ [] ++ drop (o + length (let none : List ℕ = [] in none)) b) (resized_short o b within)
    ∙ ap (λ l. l ++ drop (o + length (let none : List ℕ = [] in none)) b) (append-nil (take o b))
    ∙ ap (λ n. take o b ++ drop n b) (add-zero o)
    ∙ take-append-drop o b

-- a gap may be filled before
pub overwritten_filled : (o : ℕ) (p b : List ℕ) → overwritten o p (resized (max (length b) o) b) ≡ overwritten o p b
overwritten_filled o p b = elim (cases_lt (length b) o) [
  | inl short ↦
      let size : max (length b) o ≡ o = omega arith in
      let long = length-resized o b in
      ap (λ n. overwritten o p (resized n b)) size
      ∙ ap (λ l. l ++ p ++ drop (o + length p) (resized o b)) (resized_same o (resized o b) (sym long))
      ∙ ap (λ l. resized o b ++ p ++ l)
      (drop_of_length-le (resized o b) (omega (arith, long)) ∙ sym (drop_of_length-le b (omega arith)))
  | inr long ↦ ap (overwritten o p) (resized_same (max (length b) o) b (omega arith))
]

-- one part of a piece after another
module _ (o k c : ℕ) (p b : List ℕ) (below : k + c ≤ length p) where
  abbrev first : List ℕ
  first = overwritten o (take k p) b

  abbrev next : List ℕ
  next = take c (drop k p)

  long_first : length (take k p) ≡ k
  long_first = length-take-le k p (omega arith)

  long_next : length next ≡ c
  long_next = length-take-le c (drop k p) (let rest = length-drop k p in omega (arith, rest))

  long_both : length (take (k + c) p) ≡ k + c
  long_both = length-take-le (k + c) p below

  long_front : length (resized o b ++ take k p) ≡ o + k
  long_front = let front = length-append (resized o b) (take k p) in let start = length-resized o b in
      omega (arith, front, start, long_first)

  front : resized (o + k) first ≡ resized o b ++ take k p
  front =
      let all = length-overwritten o (take k p) b in
      resized_short (o + k) first (omega (arith, all, long_first))
      ∙ ap (λ n. take n first) (sym long_front)
      ∙ take-append_seam (resized o b ++ take k p) (drop (o + length (take k p)) b)

  rest : drop (o + k + length next) first ≡ drop (o + length (take (k + c) p)) b
  rest =
      drop-append-drop (o + length (take k p)) b (resized o b ++ take k p) (o + k + length next)
      (omega (arith, long_first)) (omega (arith, long_front, long_first))
      ∙ ap (λ n. drop n b) (omega (arith, long_next, long_both))

  pub overwritten_more : overwritten (o + k) next first ≡ overwritten o (take (k + c) p) b
  overwritten_more =
      ap (λ l. l ++ next ++ drop (o + k + length next) first) front
      ∙ ap (λ l. l ++ drop (o + k + length next) first)
      (append_assoc (resized o b) (take k p) next ∙ ap (λ l. resized o b ++ l) (sym (take-add k c p)))
      ∙ ap (λ l. resized o b ++ take (k + c) p ++ l) rest
