use Rattle.std.proofs.Common.{◌≡◌, ◌++◌, map}
use Rattle.path_store.specs.Walks.{entry_of}
use Rattle.path_store.proofs.keys.PathKeys.under.Given as goal

abbrev pub invariant-loop-path : goal.invariant-loop-path
invariant-loop-path l = map entry_of l.found.items ++ l.path-iterator ≡ map entry_of
    l.initial.found.items ++ l.initial.path-iterator
