-- What a tree is before its medium is read or wiped.
use Rattle.std.specs.Prelude.{ℕ, ◌+◌, ◌*◌, ◌/◌, max}
use Rattle.server_trait.specs.declared.server.ServerLimits.{ServerLimits}
use Rattle.inode_tree.specs.declared.tables.InodeTables.{InodeTables}

-- how many blocks of a medium the limits ask for
abbrev pub blocks_for : ServerLimits → ℕ
blocks_for limits = 64 + 8 * max 1 limits.nodes + limits.bytes / 256

-- the number that the handles of tables carry
abbrev pub epoch_of : InodeTables → ℕ
epoch_of t = t.epoch
