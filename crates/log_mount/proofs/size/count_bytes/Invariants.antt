use Rattle.std.proofs.Common.{◌≡◌, ◌*◌, length}
use Rattle.std.specs.Prelude.{min}
use Rattle.log_tree.specs.Held.{bytes_of}
use Rattle.log_store.specs.Store.{IsStore, live_in, medium_of}
use Rattle.log_mount.proofs.size.count_bytes.Given as goal

abbrev pub invariant-loop-place : goal.invariant-loop-place
invariant-loop-place g l =
    let content = g.M.Medium.content in
    let size = g.M.Medium.size in
    record {
      counted : l.size ≡ min (length (bytes_of (live_in content size l.fn.store) l.id)) (480 * l.place);
      store : IsStore content size l.store;
      content_is : content (medium_of l.store) ≡ content (medium_of l.fn.store);
      size_is : size (medium_of l.store) ≡ size (medium_of l.fn.store);
      faults : g.M.Medium.faults (medium_of l.store) ≡ g.M.Medium.faults (medium_of l.fn.store);
    }
