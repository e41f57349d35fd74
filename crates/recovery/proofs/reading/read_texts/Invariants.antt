use Rattle.std.proofs.Common.{◌≡◌, List, length, take}
use Rattle.abs_model.specs.declared.Entry.{Entry}
use Rattle.conf_map.specs.Stands.{StandValid}
use Rattle.partition_tree.specs.Digests.{digests as digests_over}
use Rattle.replica.specs.Replicas.{digests_of}
use Rattle.recovery.proofs.reading.read_texts.Given as goal

-- the texts so far, of a server that is as it was
abbrev pub invariant-loop-index : goal.invariant-loop-index
invariant-loop-index g l =
    let old = (goal.FileServer-dyn g (l.fn.server.vtable, l.fn.server.value)).state l.fn.server.value in
    let now = (goal.FileServer-dyn g (l.server.vtable, l.server.value)).state l.server.value in
    record {
      digests : (A : List Entry) → StandValid old.tree l.table A →
          digests_over l.texts.items ≡ digests_of (take l.index A);
      size : length l.texts.items ≡ l.index;
      same : now.tree ≡ old.tree;
      limits : now.limits ≡ old.limits;
      faults : now.faults ≡ old.faults;
    }
