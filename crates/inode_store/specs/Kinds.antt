-- The kinds of inodes as a medium has them.
use Rattle.std.specs.Prelude.{ℕ, ◌==◌, if◌then◌else◌, Option, None, Some}
use Rattle.nfs2_types.specs.declared.fattr.Kind.{Kind}
use Rattle.nfs2_types.specs.declared.fattr.Kind.TheVariants.{File, Dir, Link}

-- the kind of an inode, where it is used
abbrev pub kind_in : ℕ → Option Kind
kind_in word = if word == 1 then Some File else if word == 2 then Some Dir else if word == 3 then Some Link else None

-- the number of a kind
abbrev pub word_of : Kind → ℕ
word_of File = 1
word_of Dir = 2
word_of Link = 3
