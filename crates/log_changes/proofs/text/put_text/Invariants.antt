use Rattle.std.proofs.Common.{◌≡◌, ◌-◌, ◌≤◌, length, take}
use Rattle.log_store.specs.Store.{IsStore, live_in, medium_of}
use Rattle.log_changes.specs.Made.{TextPut}
use Rattle.log_changes.proofs.text.put_text.Given as goal

abbrev pub invariant-loop-done : goal.invariant-loop-done
invariant-loop-done g l =
    let content = g.M.Medium.content in
    let size = g.M.Medium.size in
    record {
      within : l.done ≤ length l.text;
      store : IsStore content size l.store;
      size_is : size (medium_of l.store) ≡ size (medium_of l.fn.store);
      faults : g.M.Medium.faults (medium_of l.store) ≡ g.M.Medium.faults (medium_of l.fn.store);
      put : TextPut (live_in content size l.fn.store) (live_in content size l.store) l.id (take l.done l.text);
    }

abbrev pub decreases-loop-done : goal.decreases-loop-done
decreases-loop-done g l = length l.text - l.done
