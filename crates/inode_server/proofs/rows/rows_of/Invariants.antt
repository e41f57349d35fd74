use Rattle.std.proofs.Common.{◌≡◌, ◌/◌, length, map, take}
use Rattle.inode_dirs.specs.SlotBytes.{slots_in}
use Rattle.inode_tree.specs.Kept.{tables_of}
use Rattle.inode_server.specs.Rows.{row_of}
use Rattle.inode_server.proofs.rows.rows_of.Given as goal

abbrev pub invariant-loop-slot : goal.invariant-loop-slot
invariant-loop-slot l =
    l.rows.items ≡ map (row_of (tables_of l.tables).handle) (take l.slot (slots_in (length l.bytes / 288) l.bytes))
