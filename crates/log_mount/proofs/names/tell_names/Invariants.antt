use Rattle.std.proofs.Common.{◌≡◌}
use Rattle.log_store.specs.Store.{IsStore, medium_of, records_in}
use Rattle.log_index.specs.Memory.{memory_of}
use Rattle.log_mount.specs.Told.{HasTold, among_names}
use Rattle.log_mount.proofs.names.tell_names.Given as goal

abbrev pub invariant-loop-place : goal.invariant-loop-place
invariant-loop-place g l =
    let content = g.M.Medium.content in
    let size = g.M.Medium.size in
    record {
      told : HasTold among_names (records_in content size l.fn.store) l.place (memory_of l.index);
      store : IsStore content size l.store;
      content_is : content (medium_of l.store) ≡ content (medium_of l.fn.store);
      size_is : size (medium_of l.store) ≡ size (medium_of l.fn.store);
      faults : g.M.Medium.faults (medium_of l.store) ≡ g.M.Medium.faults (medium_of l.fn.store);
    }
