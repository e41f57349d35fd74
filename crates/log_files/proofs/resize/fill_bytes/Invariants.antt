use Rattle.std.proofs.Common.{◌≡◌, ◌*◌}
use Rattle.std.specs.Prelude.{max, min}
use Rattle.log_store.specs.Store.{IsStore, live_in, medium_of}
use Rattle.log_files.specs.Chunked.{ResizedBytes}
use Rattle.log_files.proofs.resize.fill_bytes.Given as goal

abbrev pub invariant-loop-place : goal.invariant-loop-place
invariant-loop-place g l =
    let content = g.M.Medium.content in
    let size = g.M.Medium.size in
    record {
      now_is : l.now ≡ max l.size (min l.to (480 * l.place));
      store : IsStore content size l.store;
      size_is : size (medium_of l.store) ≡ size (medium_of l.fn.store);
      faults : g.M.Medium.faults (medium_of l.store) ≡ g.M.Medium.faults (medium_of l.fn.store);
      grown : ResizedBytes (live_in content size l.fn.store) (live_in content size l.store) l.id l.size l.now;
    }
