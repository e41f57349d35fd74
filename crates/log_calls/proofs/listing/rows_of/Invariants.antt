use Rattle.std.proofs.Common.{◌≡◌, map, take}
use Rattle.log_store.specs.Store.{IsStore, medium_of, records_in}
use Rattle.log_calls.specs.Rows.{row_from}
use Rattle.log_calls.proofs.listing.rows_of.Given as goal

abbrev pub invariant-loop-place : goal.invariant-loop-place
invariant-loop-place g l =
    let content = g.M.Medium.content in
    let size = g.M.Medium.size in
    record {
      rows : l.rows.items ≡ map (row_from (records_in content size l.fn.store)) (take l.place-index l.place-items);
      store : IsStore content size l.store;
      content_is : content (medium_of l.store) ≡ content (medium_of l.fn.store);
      size_is : size (medium_of l.store) ≡ size (medium_of l.fn.store);
      faults : g.M.Medium.faults (medium_of l.store) ≡ g.M.Medium.faults (medium_of l.fn.store);
    }
