use Rattle.std.proofs.Common.{◌≡◌, vec_len}
use Rattle.inode_tree.proofs.tables.no_names.Given as goal

abbrev pub invariant-loop-inode : goal.invariant-loop-inode
invariant-loop-inode l = vec_len l.dirs ≡ l._inode
