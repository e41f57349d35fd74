use Rattle.std.proofs.Common.{◌≡◌, ℕ, ◌+◌, ◌*◌, ◌^◌, length, drop}
use Rattle.partition_tree.specs.Digests.{updated}
use Rattle.partition_tree.proofs.tree.Tree.update.Given as goal

abbrev pub invariant-loop-c : goal.invariant-loop-c
invariant-loop-c g l = record {
  done : updated (drop l.c-index l.changed) l.self ≡ updated l.changed l.initial.self;
  size : length l.self ≡ length l.initial.self;
  cost : (levels : ℕ) → length l.initial.self ≡ 16 ^ levels →
      l.steps ≡ l.initial.steps + l.c-index * (levels + 1);
}
