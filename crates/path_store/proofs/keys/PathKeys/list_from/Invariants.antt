use Rattle.std.proofs.Common.{◌≡◌, ◌++◌, List, ℕ, map, length}
use Rattle.path_store.specs.Walks.{pair, listed_of}
use Rattle.path_store.proofs.keys.PathKeys.list_from.Given as goal

abbrev pub invariant-loop-path : goal.invariant-loop-path
invariant-loop-path l =
    (map pair l.listed.items ++ listed_of l.rows l.dir (length l.top) l.path-iterator
    ≡ map pair l.initial.listed.items ++ listed_of l.rows l.dir (length l.top) l.initial.path-iterator)
    × ((done : List (List ℕ × ℕ)) × (done ++ l.path-iterator ≡ l.initial.path-iterator))
