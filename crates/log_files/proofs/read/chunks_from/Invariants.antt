use Rattle.std.proofs.Common.{◌≡◌}
use Rattle.log_tree.specs.Held.{bytes_from}
use Rattle.log_store.specs.Store.{IsStore, live_in, medium_of}
use Rattle.log_files.proofs.read.chunks_from.Given as goal

abbrev pub invariant-loop-step : goal.invariant-loop-step
invariant-loop-step g l =
    let content = g.M.Medium.content in
    let size = g.M.Medium.size in
    record {
      all : l.all.items ≡ bytes_from l.step (live_in content size l.fn.store) l.id l.first;
      store : IsStore content size l.store;
      content_is : content (medium_of l.store) ≡ content (medium_of l.fn.store);
      size_is : size (medium_of l.store) ≡ size (medium_of l.fn.store);
      faults : g.M.Medium.faults (medium_of l.store) ≡ g.M.Medium.faults (medium_of l.fn.store);
    }
