-- The table that files hold: each inode's kind, attributes and bytes.
use Rattle.std.specs.Prelude.{◌≡◌, ℕ, ◌/◌, ◌%◌, List, [], length, Option, None, Some}
use Rattle.std.specs.Option.{option_map}
use Rattle.nfs2_types.specs.declared.fattr.Kind.{Kind}
use Rattle.nfs2_types.specs.declared.fattr.Kind.TheVariants.{File as AFile, Dir, Link}
use Rattle.inode_dirs.specs.SlotBytes.{slots_in}
use Rattle.inode_dirs.specs.Slots.{Slots}
use Rattle.inode_dirs.specs.Table.{Body, FileBytes, LinkText, DirSlots, Entry, Table}

-- a used inode as a store of inodes has it
pub record File : Type 0 where
  pub kind : Kind
  pub mode : ℕ
  pub uid : ℕ
  pub gid : ℕ
  pub bytes : List ℕ

-- what bytes are, by the kind
abbrev pub body_of : Kind → List ℕ → Body
body_of AFile bytes = FileBytes bytes
body_of Dir bytes = DirSlots (slots_in (length bytes / 288) bytes)
body_of Link bytes = LinkText bytes

-- an inode with its bytes read
abbrev pub entry_of : File → Entry
entry_of f = record { mode = f.mode; uid = f.uid; gid = f.gid; body = body_of f.kind f.bytes }

-- the used inodes with their bytes read
abbrev pub table_of : (ℕ → Option File) → Table
table_of files i = option_map entry_of (files i)

-- the slots that bytes hold
abbrev pub slots_of : File → Slots
slots_of f = slots_in (length f.bytes / 288) f.bytes

-- the slots of an inode, if it is used
abbrev pub slots_at : Option File → Slots
slots_at None = []
slots_at (Some f) = slots_of f

-- a directory, whose bytes are whole slots
pub record IsDirectory (f : File) : Type 0 where
  pub kind : f.kind ≡ Dir
  pub whole : length f.bytes % 288 ≡ 0
