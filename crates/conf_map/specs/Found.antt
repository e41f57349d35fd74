-- What a procedure finds on its way, said of the array (RFC 1094, 2.2).
use Rattle.std.specs.Prelude.{◌≡◌, ℕ, length, List, ◌∷◌, [], ◌++◌, Bool, true, false, Option, Some, None, Result, Ok, Err}
use Rattle.nfs2_types.specs.declared.fattr.Kind.{Kind}
use Rattle.nfs2_types.specs.declared.fattr.Kind.TheVariants.{File, Dir, Link}
use Rattle.nfs2_types.specs.declared.Stat.{Stat}
use Rattle.nfs2_types.specs.Names.{is_bad, is_dot, is_name}
use Rattle.server_trait.specs.declared.server.NodeAttr.{NodeAttr}
use Rattle.server_trait.specs.declared.bench.ConfEntry.{ConfEntry}
use Rattle.abs_model.specs.declared.entry.Entry.{Entry}
use Rattle.abs_model.specs.Objects.{is_file, is_dir, is_link, attr_of, bytes_of}
use Rattle.abs_model.specs.Array.{entry_at, live, target, has_name}
use Rattle.abs_model.specs.Machine.{Refusal, ◌answers◌, first_of, in_dir}
use Rattle.conf_map.specs.declared.name.Named.{Named}
use Rattle.conf_map.specs.declared.table.Located.{Located}
use Rattle.conf_map.specs.Tables.{IsLive}

-- a node of this kind is a file, a directory, a link
abbrev pub is_file_kind : Kind → Bool
is_file_kind File = true
is_file_kind Dir = false
is_file_kind Link = false

abbrev pub is_dir_kind : Kind → Bool
is_dir_kind File = false
is_dir_kind Dir = true
is_dir_kind Link = false

abbrev pub is_link_kind : Kind → Bool
is_link_kind File = false
is_link_kind Dir = false
is_link_kind Link = true

-- what a server tells of an object: its kind, its mode and owners, and how many bytes a file or a link's text
-- has
pub record IsSeen (e : Entry) (a : NodeAttr) : Type 0 where
  pub file : is_file_kind a.kind ≡ is_file e
  pub dir : is_dir_kind a.kind ≡ is_dir e
  pub link : is_link_kind a.kind ≡ is_link e
  pub mode : a.mode ≡ (attr_of e).mode
  pub uid : a.uid ≡ (attr_of e).uid
  pub gid : a.gid ≡ (attr_of e).gid
  pub size : is_dir e ≡ false → a.size ≡ length (bytes_of e)

-- FOUND, OR REFUSED

-- what a search comes to: where none of the tests holds it finds what is so, else it gives the status of the
-- first
pub record Finds {X : Type 0} (tests : List Refusal) (IsFound : X → Type 0) (r : Result X Stat) : Type 0 where
  pub found : (x : X) → r ≡ Ok x → (first_of tests ≡ None) × IsFound x
  pub refused : (s : Stat) → r ≡ Err s → first_of tests ≡ Some s

-- the handle is that of a directory, and the name is one that may be looked for
pub record IsDirCall (A : List Entry) (rows : List ConfEntry) (dir name : List ℕ) (d : Located) : Type 0 where
  pub is_index : live A dir ≡ Some d.index
  pub live : IsLive rows d
  pub is_dir : is_dir (entry_at A d.index) ≡ true
  pub good : is_bad name ≡ false

-- a name of a directory leads to a live object
pub record IsLed (A : List Entry) (rows : List ConfEntry) (d : ℕ) (name : List ℕ) (at : Located) : Type 0 where
  pub has : has_name A d name ≡ true
  pub target : target A d name ≡ at.index
  pub live : IsLive rows at

-- where a name of a directory leads, if it is there
abbrev pub NameFound : List Entry → List ConfEntry → ℕ → List ℕ → Option Located → Type 0
NameFound A rows d name None = has_name A d name ≡ false
NameFound A rows d name (Some at) = IsLed A rows d name at

-- the tests of a directory and of a name in it, where a dot has a status of its own
abbrev pub name_tests : List Entry → List ℕ → List ℕ → Stat → List Refusal
name_tests A dir name dot = in_dir A dir name ++ (is_dot name answers dot) ∷ []

-- the directory of a call, and where its name leads
pub record IsNamed (A : List Entry) (rows : List ConfEntry) (dir name : List ℕ) (n : Named) : Type 0 where
  pub in_dir : IsDirCall A rows dir name n.dir
  pub no_dot : is_dot name ≡ false
  pub good : is_name name ≡ true
  pub found : NameFound A rows n.dir.index name n.at
