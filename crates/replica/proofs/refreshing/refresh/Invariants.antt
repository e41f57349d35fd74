use Rattle.std.proofs.Common.{◌≡◌, List, length, take}
use Rattle.abs_model.specs.declared.Entry.{Entry}
use Rattle.conf_map.specs.Stands.{StandValid}
use Rattle.replica.specs.Replicas.{refreshed}
use Rattle.replica.proofs.refreshing.refresh.Given as goal

-- the digests so far, of a server that is as it was
abbrev pub invariant-loop-index : goal.invariant-loop-index
invariant-loop-index g l =
    let old = (goal.FileServer-dyn g (l.fn.server.vtable, l.fn.server.value)).state l.fn.server.value in
    let now = (goal.FileServer-dyn g (l.server.vtable, l.server.value)).state l.server.value in
    record {
      refreshed : (A : List Entry) → StandValid old.tree l.table A →
          l.tree ≡ refreshed A (take l.index-index l.indexes) l.fn.tree;
      size : length l.tree ≡ length l.fn.tree;
      same : now.tree ≡ old.tree;
      limits : now.limits ≡ old.limits;
      faults : now.faults ≡ old.faults;
    }
