-- The one spelling of the result of a call of MOUNT (RFC 1094, A.4 and A.5).
use Rattle.std.specs.Prelude.{ℕ, List, [], ◌++◌, Bool, true, false, ◌||◌, bytes_eq, codes, if◌then◌else◌}
use Rattle.xdr_core.specs.Items.{spell_word, spell_bool, spell_fixed, spell_opaque}
use Rattle.mount1_proto.specs.Calls.{MountCall, null, mnt, dump, umnt, umnt_all, export}

-- the path of the root, and its name among the exports
abbrev pub root_path : List ℕ
root_path = codes "/"

abbrev pub export_path : List ℕ
export_path = codes "/export"

-- a path that leads to the root
abbrev pub is_exported : List ℕ → Bool
is_exported path = bytes_eq path root_path || bytes_eq path export_path

-- fhstatus: 0 and the root's handle, or the status 2, the ENOENT of UNIX, alone (A.4.2)
abbrev pub mnt_text : (path root : List ℕ) → List ℕ
mnt_text path root = if is_exported path then spell_word 0 ++ spell_fixed root else spell_word 2

-- exportlist: a word 1 before the one export, its path, the word 0 that ends its groups, and the word 0 that ends the
-- list (A.5.6)
abbrev pub exports_text : List ℕ
exports_text = spell_bool true ++ (spell_opaque export_path ++ (spell_bool false ++ spell_bool false))

-- the result of a call where the root has this handle; NULL, UMNT and UMNTALL have none, and DUMP's list is empty
abbrev pub mount_text : MountCall → (root : List ℕ) → List ℕ
mount_text null root = []
mount_text (mnt path) root = mnt_text path root
mount_text dump root = spell_bool false
mount_text (umnt path) root = []
mount_text umnt_all root = []
mount_text export root = exports_text
