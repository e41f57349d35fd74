use Rattle.std.proofs.Common.{◌≡◌, ◌*◌, ◌-◌}
use Rattle.std.specs.Prelude.{min}
use Rattle.log_store.specs.Store.{IsStore, live_in, medium_of}
use Rattle.log_files.specs.Chunked.{ResizedBytes}
use Rattle.log_files.proofs.resize.drop_chunks.Given as goal

abbrev pub invariant-loop-gone : goal.invariant-loop-gone
invariant-loop-gone g l =
    let content = g.M.Medium.content in
    let size = g.M.Medium.size in
    record {
      store : IsStore content size l.store;
      size_is : size (medium_of l.store) ≡ size (medium_of l.fn.store);
      faults : g.M.Medium.faults (medium_of l.store) ≡ g.M.Medium.faults (medium_of l.fn.store);
      cut : ResizedBytes (live_in content size l.fn.store) (live_in content size l.store) l.id l.size
          (min l.size (480 * (l.chunks - l.gone)));
    }
