-- Which inode a handle is of, and what a node tells.
use Rattle.std.specs.Prelude.{◌≡◌, ◌≢◌, ℕ, ◌/◌, ◌<◌, ◌≤◌, List, Some, Result, Ok, Err}
use Rattle.nfs2_types.specs.declared.fattr.Kind.{Kind}
use Rattle.nfs2_types.specs.declared.fattr.Kind.TheVariants.{File, Dir, Link}
use Rattle.server_trait.specs.Tree.{Tree}
use Rattle.server_trait.specs.Step.{IsStale}
use Rattle.server_trait.specs.Calls.{IsDir}
use Rattle.server_trait.specs.declared.server.NodeAttr.{NodeAttr}
use Rattle.server_trait.specs.declared.server.SrvErr.{SrvErr}
use Rattle.server_trait.specs.declared.server.SrvErr.TheVariants.{Stale, WrongKind}
use Rattle.inode_store.specs.declared.inode.Inode.{Inode}
use Rattle.inode_tree.specs.Tables.{Tables, climb}

-- the handle is that of this inode, which is of this kind
pub record IsFound (t : Tables) (h : List ℕ) (kind : Kind) (i : ℕ) : Type 0 where
  pub within : i < t.counts.inodes
  pub handle : t.handle i ≡ h
  pub kind_is : t.kind i ≡ Some kind

-- the inode of a handle is found, or an error applies
abbrev pub FindsAs : Tables → (SrvErr → Type 0) → List ℕ → Kind → Result ℕ SrvErr → Type 0
FindsAs t applies h kind (Ok i) = IsFound t h kind i
FindsAs t applies h kind (Err e) = applies e

-- the inode of a file or a link is found, or the node is a directory, or there is none
abbrev pub FindsLeaf : Tables → Tree → List ℕ → Result (ℕ × Kind) SrvErr → Type 0
FindsLeaf t tree h (Ok found) = IsFound t h found.1 found.0 × (found.1 ≢ Dir)
FindsLeaf t tree h (Err Stale) = IsStale tree h
FindsLeaf t tree h (Err WrongKind) = IsDir tree h
FindsLeaf t tree h (Err e) = ⊥

-- the size of a node whose inode has so many bytes, and the count that is its links
abbrev pub size_told : Kind → ℕ → ℕ
size_told File size = size
size_told Dir size = size / 288
size_told Link size = size

abbrev pub links_told : Tables → ℕ → Kind → ℕ
links_told t i File = t.counts.links i
links_told t i Dir = t.counts.subdirs i
links_told t i Link = t.counts.links i

-- what is told of an inode
abbrev pub attr_told : Tables → ℕ → Inode → NodeAttr
attr_told t i x = record {
  kind = x.kind;
  number = i;
  mode = x.mode;
  uid = x.uid;
  gid = x.gid;
  size = size_told x.kind x.size;
  links = links_told t i x.kind;
  time = record { secs = 0; micros = 0 };
}

-- the first so many directories above one have names
abbrev pub IsWay : Tables → ℕ → ℕ → Type 0
IsWay t k i = (j : ℕ) → j < k → 1 ≤ t.counts.links (climb t j i)
