-- The arguments of each procedure of MOUNT (RFC 1094, A.5) as formats of items.
use Rattle.std.specs.Prelude.{ℕ, ◌==◌, if◌then◌else◌}
use Rattle.nfs2_types.specs.Sizes.{max_path}
use Rattle.xdr_core.specs.Items.{Item, any_opaque}
use Rattle.xdr_core.specs.Grammar.{Grammar, gives, item}
use Rattle.mount1_proto.specs.Calls.{MountCall, null, mnt, dump, umnt, umnt_all, export}

-- dirpath; MNTPATHLEN is the MAXPATHLEN of NFS (RFC 1094, A.4.3 and A.3)
abbrev pub path : Item
path = any_opaque max_path

-- MNT: dirpath (RFC 1094, A.5.2)
unfoldable pub mnt_form : Grammar MountCall
mnt_form = item path λ p. gives (mnt p)

-- UMNT: dirpath (RFC 1094, A.5.4)
unfoldable pub umnt_form : Grammar MountCall
umnt_form = item path λ p. gives (umnt p)

-- by the number of the procedure, 0 to 5; NULL, DUMP, UMNTALL and EXPORT have no arguments
abbrev pub mount_form : ℕ → Grammar MountCall
mount_form proc =
    if proc == 1 then mnt_form else
    if proc == 2 then gives dump else
    if proc == 3 then umnt_form else
    if proc == 4 then gives umnt_all else
    if proc == 5 then gives export else
    gives null
