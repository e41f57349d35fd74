use Rattle.std.proofs.Common.{◌≡◌, length, take}
use Rattle.abs_model.specs.Array.{empty_array}
use Rattle.partition_tree.specs.Digests.{digests as digests_over}
use Rattle.replica.specs.Replicas.{digests_of}
use Rattle.replica.proofs.beginning.empty_texts.Given as goal

-- the texts so far
abbrev pub invariant-loop-index : goal.invariant-loop-index
invariant-loop-index l = record {
  digests : digests_over l.texts.items ≡ digests_of (take l.index (empty_array l.n));
  size : length l.texts.items ≡ l.index;
}
