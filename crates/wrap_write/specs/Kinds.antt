-- The calls that write a file or set attributes (RFC 1094, 2.2).
use Rattle.std.specs.Prelude.{Bool, true, false}
use Rattle.nfs2_types.specs.Call.{Call, set_attr, write}

-- SETATTR and WRITE
abbrev pub is_write_call : Call → Bool
is_write_call (set_attr node sattr) = true
is_write_call (write file offset bytes) = true
is_write_call _ = false
