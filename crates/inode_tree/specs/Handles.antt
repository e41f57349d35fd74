-- The handles of inodes.
use Rattle.std.specs.Prelude.{ℕ, List, ◌++◌, replicate}
use Rattle.std.specs.Int.{w32, w64, to_be_bytes}

-- the handle of an inode: its number in 4 bytes, the epoch of the server and the inode's salt in 8 each, and zeros
unfoldable pub handle_bytes : ℕ → ℕ → ℕ → List ℕ
handle_bytes inode epoch salt = to_be_bytes w32 inode ++ (to_be_bytes w64 epoch ++ (to_be_bytes w64 salt ++
    replicate 12 0))
