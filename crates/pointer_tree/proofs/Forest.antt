-- Many trees beside the free blocks: what befalls one leaves the others.
use Rattle.std.proofs.Common.{◌≡◌, ◌≢◌, ℕ, ◌+◌, ◌^◌, ◌<◌, ◌≤◌, List, Bool, sym, ap, ◌∙◌, arith}
use Rattle.pointer_tree.specs.Tree.{Content, sum_to, block, uses}
use Rattle.pointer_tree.specs.Changes.{free, Moves}
use Rattle.pointer_tree.specs.declared.node.Area.{Area}
use Rattle.pointer_tree.proofs.Sums.{sum_term, sum_two, sum_change}
use Rattle.pointer_tree.proofs.Trees.{same_uses, same_block}

module _ (area : Area) (n : ℕ) (ds tops : ℕ → ℕ) (c c1 : Content) (m m1 : List Bool) (i d1 top1 : ℕ)
    (apart : (b : ℕ) → sum_to n (λ j. uses area c (ds j) (tops j) b) + free m b ≤ 1)
    (there : i < n)
    (moves : Moves area (ds i) (tops i) c m d1 top1 c1 m1) where
  -- no block of another tree was written
  pub other_kept : (j : ℕ) → j < n → j ≢ i → (q : ℕ) → 1 ≤ uses area c (ds j) (tops j) q → c1 q ≡ c q
  other_kept j l nj q u =
      let two = sum_two n (λ (k : ℕ). uses area c (ds k) (tops k) q) i j there l (λ e. nj (sym e)) in
      moves.frame q (omega (arith, u, two, apart q))

  pub other_uses : (j : ℕ) → j < n → j ≢ i → (b : ℕ) → uses area c1 (ds j) (tops j) b ≡ uses area c (ds j) (tops j) b
  other_uses j l nj b = same_uses area c c1 (ds j) (tops j) (other_kept j l nj) b

  pub other_block : (j : ℕ) → j < n → j ≢ i → (k : ℕ) → k < 128 ^ ds j → block area c1 (ds j) (tops j) k ≡ block area
      c (ds j) (tops j) k
  other_block j l nj k lk = same_block area c c1 (ds j) (tops j) (other_kept j l nj) k lk

  -- each block is used, or free, as often as before
  pub all_kept : (ds' tops' : ℕ → ℕ) → ds' i ≡ d1 → tops' i ≡ top1 → ((j : ℕ) → j ≢ i → ds' j ≡ ds j) →
      ((j : ℕ) → j ≢ i → tops' j ≡ tops j) → (b : ℕ)
      → sum_to n (λ j. uses area c1 (ds' j) (tops' j) b) + free m1 b ≡ sum_to n (λ j. uses area c (ds j) (tops j) b) +
      free m b
  all_kept ds' tops' ed et od ot b =
      let f : ℕ → ℕ = λ j. uses area c1 (ds' j) (tops' j) b in
      let g : ℕ → ℕ = λ j. uses area c (ds j) (tops j) b in
      let same : (j : ℕ) → j < n → j ≢ i → f j ≡ g j =
      λ j l nj. ap (λ (x : ℕ). uses area c1 x (tops' j) b) (od j nj) ∙ ap (λ (x : ℕ). uses area c1 (ds j) x b)
      (ot j nj) ∙ other_uses j l nj b in
      let changed = sum_change n f g i there same in
      let new : f i ≡ uses area c1 d1 top1 b = ap (λ (x : ℕ). uses area c1 x (tops' i) b) ed
      ∙ ap (λ (x : ℕ). uses area c1 d1 x b) et in
      omega (arith, changed, new, moves.kept b)

  pub each_below : (b : ℕ) → uses area c (ds i) (tops i) b ≤ sum_to n (λ j. uses area c (ds j) (tops j) b)
  each_below b = sum_term n (λ (k : ℕ). uses area c (ds k) (tops k) b) i there
