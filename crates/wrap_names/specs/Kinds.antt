-- The calls on names (RFC 1094, 2.2).
use Rattle.std.specs.Prelude.{Bool, true, false}
use Rattle.nfs2_types.specs.Call.{Call, create, remove, rename, link, symlink, make_dir, remove_dir}

-- CREATE, REMOVE, RENAME, LINK, SYMLINK, MKDIR and RMDIR
abbrev pub is_names_call : Call → Bool
is_names_call (create dir name sattr) = true
is_names_call (remove dir name) = true
is_names_call (rename from name to to_name) = true
is_names_call (link node dir name) = true
is_names_call (symlink dir name text sattr) = true
is_names_call (make_dir dir name sattr) = true
is_names_call (remove_dir dir name) = true
is_names_call _ = false
