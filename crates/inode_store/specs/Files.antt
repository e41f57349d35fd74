-- What calls do to one file.
use Rattle.std.specs.Prelude.{ℕ, List, []}
use Rattle.nfs2_types.specs.declared.fattr.Kind.{Kind}
use Rattle.inode_dirs.specs.Files.{File}

-- a file as a call makes it
abbrev pub new_file : Kind → File
new_file kind = record { kind = kind; mode = 0; uid = 0; gid = 0; bytes = [] }

-- a file with other attributes
abbrev pub with_attr : ℕ → ℕ → ℕ → File → File
with_attr mode uid gid f = record f { mode = mode; uid = uid; gid = gid }

-- a file with other bytes
abbrev pub with_bytes : (List ℕ → List ℕ) → File → File
with_bytes g f = record f { bytes = g f.bytes }
