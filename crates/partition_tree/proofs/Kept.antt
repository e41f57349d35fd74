-- The digest of a level with a number, read off what is kept.
use Rattle.std.proofs.Common.{◌≡◌, ℕ, suc, ◌+◌, ◌-◌, ◌^◌, ◌<◌, ◌≤◌, List, [], length, take, get_or, sym, ap, subst, ◌∙◌, arith}
use Rattle.std.proofs.lemmas.List.{get_or_default}
use Rattle.partition_tree.specs.Digests.{digest_at, IsDigest}
use Rattle.partition_tree.specs.Levels.{width, start, IsTree}
use Rattle.partition_tree.proofs.Places.{start_le}
use Rattle.partition_tree.proofs.Nodes.{kept_are, levels_is}

module _ (levels leaves : ℕ) (kept : List (List ℕ)) (size : leaves ≡ 16 ^ levels) (t : IsTree levels kept)
    (level number : ℕ) (d : IsDigest (length (take leaves kept)) level number) where
  same : d.levels ≡ levels
  same = levels_is levels leaves kept size t d.levels d.size

  pub in_levels : level ≤ levels
  in_levels = let h = d.below in omega (arith, h, same)

  within : number < width levels level
  within = subst (λ (l : ℕ). number < 16 ^ (l - level)) same d.within

  pub is_inside : (below : ℕ) → below ≡ start levels level → below + number < length kept
  is_inside below at =
      let h = within in
      let whole = t.size in
      let le = start_le levels (suc level) (suc levels) (let low = in_levels in omega (arith, low)) in
      omega (arith, at, h, whole, le)

  -- what is read there is that digest
  pub digest_read : (below : ℕ) (x : List ℕ) → below ≡ start levels level → x ≡ get_or kept (below + number) x →
      x ≡ digest_at (take leaves kept) level number
  digest_read below x at read =
      read ∙ get_or_default kept (below + number) x [] (is_inside below at)
      ∙ ap (λ (p : ℕ). get_or kept (p + number) []) at
      ∙ kept_are levels kept t.right level number in_levels within
      ∙ ap (λ (n : ℕ). digest_at (take n kept) level number) (sym size)
