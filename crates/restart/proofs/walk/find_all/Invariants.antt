use Rattle.std.proofs.Common.{◌≡◌, List}
use Rattle.server_trait.specs.declared.bench.ConfTable.{ConfTable}
use Rattle.abs_model.specs.declared.entry.Entry.{Entry}
use Rattle.restart.specs.Walk.{Restarts, IsGoing, Grows}
use Rattle.restart.proofs.Turns.{AreDone}
use Rattle.restart.proofs.walk.find_all.Given as goal

-- the directories at the first places were gone through, and the server is as it was
abbrev pub invariant-loop-turn : goal.invariant-loop-turn
invariant-loop-turn g l =
    let old = (goal.FileServer-dyn g (l.fn.server.vtable, l.fn.server.value)).state l.fn.server.value in
    let now = (goal.FileServer-dyn g (l.server.vtable, l.server.value)).state l.server.value in
    record {
      same : now.tree ≡ old.tree;
      limits : now.limits ≡ old.limits;
      faults : now.faults ≡ old.faults;
      steps : (table : ConfTable) (A : List Entry) (k : Restarts old.tree table A) → IsGoing table k.new A l.fn.found →
          IsGoing table k.new A l.found × AreDone A l.found l.turn;
      grows : Grows l.fn.found l.found;
    }
