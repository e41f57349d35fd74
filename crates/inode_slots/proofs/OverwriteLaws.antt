-- Bytes written over others: behind them, in the place of a slot, and in two parts.
use Rattle.std.proofs.Common.{◌≡◌, ℕ, suc, ◌+◌, ◌-◌, ◌*◌, ◌≤◌, max, List, ◌++◌, length, get_or, take, drop, replicate, sym, ap, ◌∙◌, inl, inr, arith}
use Rattle.std.proofs.lemmas.Bool.{cases_lt}
use Rattle.std.proofs.lemmas.List.{append-nil, append_assoc, take_all, drop_all, length-take-le, length-drop, get_or-take, get_or-drop}
use Rattle.nfs2_types.specs.Bytes.{resized, overwritten}
use Rattle.inode_dirs.specs.SlotBytes.{span, with_piece, slot_in}
use Rattle.inode_dirs.proofs.FileLaws.{span-times}
use Rattle.inode_store.proofs.ByteLaws.{same_bytes, length-overwritten, overwritten_here, overwritten_there}

pub resized-cut : (n : ℕ) (b : List ℕ) → n ≤ length b → resized n b ≡ take n b
resized-cut n b l =
    let none : n - length b ≡ 0 = omega arith in
    ap (λ (k : ℕ). take n b ++ replicate k 0) none ∙ append-nil (take n b)

-- behind the last byte
pub overwritten-end : (n : ℕ) (p b : List ℕ) → n ≡ length b → overwritten n p b ≡ b ++ p
overwritten-end n p b e =
    ap (λ (x : List ℕ). x ++ p ++ drop (n + length p) b)
    (resized-cut n b (omega (arith, e)) ∙ take_all n b (omega (arith, e)))
    ∙ ap (λ (x : List ℕ). b ++ p ++ x) (drop_all (n + length p) b (omega (arith, e))) ∙ append-nil (b ++ p)

-- over a slot
pub overwritten-slot : (k : ℕ) (s b : List ℕ) → length s ≡ 288 → 288 * k + 288 ≤ length b →
    overwritten (288 * k) s b ≡ with_piece 288 slot_in k s b
overwritten-slot k s b fits l =
    let low = span-times k in
    let high = span-times (suc k) in
    let end : 288 * k + length s ≡ span 288 slot_in (suc k) = omega (arith, high, fits) in
    ap (λ (x : List ℕ). x ++ s ++ drop (288 * k + length s) b)
    (resized-cut (288 * k) b (omega (arith, l)) ∙ ap (λ (n : ℕ). take n b) (sym low))
    ∙ ap (λ (n : ℕ). take (span 288 slot_in k) b ++ s ++ drop n b) end
    ∙ append_assoc (take (span 288 slot_in k) b) s (drop (span 288 slot_in (suc k)) b)

-- in two parts
module _ (offset n : ℕ) (p b : List ℕ) (inside : offset ≤ length b) (part : n ≤ length p) where
  abbrev first : List ℕ
  first = overwritten offset (take n p) b

  length-first : length first ≡ max (length b) (offset + n)
  length-first =
      let l = length-overwritten offset (take n p) b inside in
      let t = length-take-le n p part in
      omega (arith, l, t)

  within : offset + n ≤ length first
  within = let l = length-first in omega (arith, l)

  rest : length (drop n p) ≡ length p - n
  rest = length-drop n p

  byte : (k : ℕ) → get_or (overwritten (offset + n) (drop n p) first) k 0 ≡ get_or (overwritten offset p b) k 0
  byte k = elim (cases_lt k offset) [
    | inl u ↦
        overwritten_there (offset + n) (drop n p) first within k (inl (omega (arith, u)))
        ∙ overwritten_there offset (take n p) b inside k (inl u)
        ∙ sym (overwritten_there offset p b inside k (inl u))
    | inr u ↦ elim (cases_lt k (offset + n)) [
      | inl v ↦
          overwritten_there (offset + n) (drop n p) first within k (inl v)
          ∙ overwritten_here offset (take n p) b inside k u
          (let t = length-take-le n p part in omega (arith, t, v))
          ∙ get_or-take n p (k - offset) 0 (omega (arith, u, v))
          ∙ sym (overwritten_here offset p b inside k u (omega (arith, v, part)))
      | inr v ↦ elim (cases_lt k (offset + length p)) [
        | inl w ↦
            let at : n + (k - (offset + n)) ≡ k - offset = omega (arith, v) in
            overwritten_here (offset + n) (drop n p) first within k v (let r = rest in omega (arith, r, w, v, part))
            ∙ get_or-drop n p (k - (offset + n)) 0 ∙ ap (λ (i : ℕ). get_or p i 0) at
            ∙ sym (overwritten_here offset p b inside k u w)
        | inr w ↦
            overwritten_there (offset + n) (drop n p) first within k
            (inr (let r = rest in omega (arith, r, w, part)))
            ∙ overwritten_there offset (take n p) b inside k
            (inr (let t = length-take-le n p part in omega (arith, t, v)))
            ∙ sym (overwritten_there offset p b inside k (inr w))
      ]
    ]
  ]

  pub overwritten-twice : overwritten (offset + n) (drop n p) first ≡ overwritten offset p b
  overwritten-twice =
      let one = length-overwritten (offset + n) (drop n p) first within in
      let all = length-overwritten offset p b inside in
      let f = length-first in
      let r = rest in
      same_bytes _ _ (max (length b) (offset + length p)) (omega (arith, one, f, r, part)) all (λ k l. byte k)
