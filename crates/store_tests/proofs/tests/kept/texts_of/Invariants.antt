use Rattle.std.proofs.Common.{◌≡◌, length}
use Rattle.store_tests.proofs.tests.kept.texts_of.Given as goal

-- a text for each index so far, and the server is as it was
abbrev pub invariant-loop-index : goal.invariant-loop-index
invariant-loop-index g l =
    let old = (goal.FileServer-dyn g (l.fn.server.vtable, l.fn.server.value)).state l.fn.server.value in
    let now = (goal.FileServer-dyn g (l.server.vtable, l.server.value)).state l.server.value in
    record {
      size : length l.texts.items ≡ l.index;
      same : now.tree ≡ old.tree;
      limits : now.limits ≡ old.limits;
    }
