-- The numbers of the protocol (RFC 1094, 2.3.1, 2.3.2 and 2.3.5) and of this service.
use Rattle.std.specs.Prelude.{ℕ}

-- the largest file: a mebibyte
abbrev pub file_limit : ℕ
file_limit = 1048576

-- the longest text of a symbolic link (RFC 1094, 2.3.11)
abbrev pub text_limit : ℕ
text_limit = 1024

-- the most bytes of one READ or READDIR (RFC 1094, 2.3.1)
abbrev pub transfer_limit : ℕ
transfer_limit = 8192

-- a name takes a block of this many bytes
abbrev pub name_space : ℕ
name_space = 512

-- THE KINDS: THE TYPE WORDS OF FTYPE, AND THE BITS THAT EACH ADDS TO A MODE

-- nothing
abbrev pub no_type : ℕ
no_type = 0

-- a regular file: 0100000
abbrev pub file_type : ℕ
file_type = 1

abbrev pub file_mode : ℕ
file_mode = 0x8000

-- a directory: 0040000
abbrev pub dir_type : ℕ
dir_type = 2

abbrev pub dir_mode : ℕ
dir_mode = 0x4000

-- a symbolic link: 0120000
abbrev pub link_type : ℕ
link_type = 5

abbrev pub link_mode : ℕ
link_mode = 0xa000

-- THE MODES OF WHAT IS MADE WITHOUT ONE

-- a file: 0644
abbrev pub new_file_mode : ℕ
new_file_mode = 420

-- a directory: 0755
abbrev pub new_dir_mode : ℕ
new_dir_mode = 493

-- a link and the first root: 0777
abbrev pub open_mode : ℕ
open_mode = 511
