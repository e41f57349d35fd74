use Rattle.std.proofs.Common.{◌≡◌, ◌++◌, ◌+◌, [], ◌∷◌, map, length, IfSome, option_map, unwrap_or}
use Rattle.std.specs.FinMap.{entries}
use Rattle.path_store.specs.Walks.{pair, names_left, names_from, paths_from, GoesOn}
use Rattle.path_store.proofs.keys.PathKeys.list.Given as goal

abbrev pub invariant-loop-next : goal.invariant-loop-next
invariant-loop-next l =
    (map pair l.listed.items ++ names_left l.rows l.dir l.top l.self l.next
    ≡ names_from l.rows l.dir l.top l.self (l.top ++ 47 ∷ [])) × IfSome l.next (GoesOn l.top)

abbrev pub decreases-loop-next : goal.decreases-loop-next
decreases-loop-next l =
    unwrap_or (option_map (λ low. length (paths_from l.top low (entries l.self)) + 1) l.next) 0
