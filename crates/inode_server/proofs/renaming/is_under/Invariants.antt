use Rattle.std.proofs.Common.{◌≡◌}
use Rattle.inode_tree.specs.Kept.{tables_of}
use Rattle.inode_tree.specs.Tables.{climb}
use Rattle.inode_server.specs.Found.{IsWay}
use Rattle.inode_server.proofs.UnderLaws.{Misses}
use Rattle.inode_server.proofs.renaming.is_under.Given as goal

abbrev pub invariant-loop-step : goal.invariant-loop-step
invariant-loop-step l =
    (climb (tables_of l.tables) l._step l.fn.dir ≡ l.at)
    × IsWay (tables_of l.tables) l._step l.fn.dir
    × Misses (tables_of l.tables) l.top l.fn.dir l._step
