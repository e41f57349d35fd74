-- What a client sees of a node (RFC 1094, 2.3.5), from what its server tells of it and what its row keeps.
use Rattle.std.specs.Prelude.{◌≡◌, ℕ, ◌+◌, ◌*◌, ◌≤◌, ◌<◌, List, Some, slice_get}
use Rattle.nfs2_types.specs.declared.fattr.Kind.TheVariants.{File, Dir, Link}
use Rattle.nfs2_types.specs.declared.Fattr.{Fattr}
use Rattle.server_trait.specs.declared.server.NodeAttr.{NodeAttr}
use Rattle.server_trait.specs.declared.bench.ConfEntry.{ConfEntry}
use Rattle.abs_model.specs.declared.entry.Attr.{Attr}
use Rattle.abs_model.specs.declared.entry.Entry.{Entry}
use Rattle.abs_model.specs.Array.{fattr_by, fattr}
use Rattle.abs_model.specs.Numbers.{file_limit, file_type, file_mode, dir_type, dir_mode, link_type, link_mode}

-- mode and owners are the node's, and the times are the row's
abbrev pub attr_by : NodeAttr → ConfEntry → Attr
attr_by a r = record {
  mode = a.mode;
  uid = a.uid;
  gid = a.gid;
  atime = r.atime;
  mtime = r.mtime;
  ctime = r.ctime;
}

-- the words of fattr by the node's kind: a directory counts itself twice, and 32 bytes a name
abbrev pub shown : NodeAttr → ConfEntry → ℕ → Fattr
shown a r i = elim a.kind [
  | File ↦ fattr_by (attr_by a r) file_type file_mode a.links a.size i
  | Dir ↦ fattr_by (attr_by a r) dir_type dir_mode (2 + a.links) (512 + 32 * a.size) i
  | Link ↦ fattr_by (attr_by a r) link_type link_mode a.links a.size i
]

-- numbers that leave the words of fattr below 2^32
pub record AreSmall (a : NodeAttr) (i : ℕ) : Type 0 where
  pub mode : a.mode < 4096
  pub size : a.size ≤ file_limit
  pub links : a.links ≤ 32768
  pub index : i < 4096

-- what a server told of the object of a row shows what the array says of it
pub record IsTold (A : List Entry) (rows : List ConfEntry) (i : ℕ) (a : NodeAttr) : Type 0 where
  pub shows : (r : ConfEntry) → slice_get rows i ≡ Some r → shown a r i ≡ fattr A i
  pub small : AreSmall a i
