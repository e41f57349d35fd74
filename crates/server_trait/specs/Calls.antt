-- What each call of a file server may do: which errors apply to it, and what its Ok has done.
use Rattle.std.specs.Prelude.{◌≡◌, ◌≢◌, ◌⊎◌, max, ℕ, ◌+◌, ◌≤◌, ◌<◌, List, [], length, take, drop, Option, Some, None, option_map, Result, Ok, Err, IsSome, IsSomeAnd, slice_get, Vec, if◌then◌else◌, bytes_eq}
use Rattle.std.specs.FinMap.{get, insert, empty}
use Rattle.std.specs.declared.alloc.Global.{Global}
use Rattle.nfs2_types.specs.Bytes.{resized, overwritten}
use Rattle.server_trait.specs.Tree.{Tree, Node, Names, Content, BytesOf, TextOf, NamesOf, Server, node_at, bytes_in, text_in, names_in, bytes_at, text_at, names_at, target, kind_of, size_of, links_of, new_node, with_attr, with_bytes, with_node, edited, named, unnamed, let_go}
use Rattle.server_trait.specs.Step.{Counts, Outcome, Called, IsStale, IsNo, HasName, LacksName, HasNames, IsAtOrBelow, NoRoom}
use Rattle.server_trait.specs.declared.server.TheConstants.{NAME_BYTES}
use Rattle.server_trait.specs.declared.server.SrvErr.{SrvErr}
use Rattle.server_trait.specs.declared.server.SrvErr.TheVariants.{Stale, NoEnt, Exists, NotDir, WrongKind, NotEmpty, Subtree, Refused, Full, Fault, NoMemory}
use Rattle.server_trait.specs.declared.server.ServerLimits.{ServerLimits}
use Rattle.server_trait.specs.declared.server.NodeAttr.{NodeAttr}
use Rattle.server_trait.specs.declared.server.Listed.{Listed}

-- CALLS ON ANY NODE

-- the errors of a call on a node of any kind
abbrev pub NodeErr : List ℕ → Tree → SrvErr → Type 0
NodeErr h t Stale = IsStale t h
NodeErr h t e = ⊥

-- what a server tells of a node; its time is free
pub record IsAttr (t : Tree) (h : List ℕ) (a : NodeAttr) (n : Node) : Type 0 where
  pub kind : a.kind ≡ kind_of n.content
  pub number : a.number ≡ n.number
  pub mode : a.mode ≡ n.mode
  pub uid : a.uid ≡ n.uid
  pub gid : a.gid ≡ n.gid
  pub size : a.size ≡ size_of n.content
  pub links : a.links ≡ links_of t h n.content

-- `attr`
abbrev pub Attr : Server → List ℕ → Result NodeAttr SrvErr → Server → Type 0
Attr old h r new = Called (λ t. Outcome (λ a after. IsSomeAnd (node_at t h) (IsAttr t h a) × (after ≡ Some t))
    (NodeErr h t) t) old r new

-- `set_attr`
abbrev pub SetAttr : Server → List ℕ → ℕ → ℕ → ℕ → Result Unit SrvErr → Server → Type 0
SetAttr old h mode uid gid r new =
    Called (λ t. Outcome (λ _ after. after ≡ Some (edited t h (with_attr mode uid gid)))
    (NodeErr h t) t) old r new

-- FILES AND LINKS

-- the errors of a call on a node whose content is of one kind
abbrev pub ContentErr : {X : Type 0} → (Content → Option X) → List ℕ → Tree → SrvErr → Type 0
ContentErr view h t Stale = IsStale t h
ContentErr view h t WrongKind = IsNo view t h
ContentErr view h t e = ⊥

-- `read`: all bytes from the offset up to the count or the end
abbrev pub Read : Server → List ℕ → ℕ → ℕ → Result (Vec ℕ Global) SrvErr → Server → Type 0
Read old h offset count r new =
    Called (λ t. Outcome (λ v after.
    (option_map (λ b. take count (drop offset b)) (bytes_at t h) ≡ Some v.items) ×
    (after ≡ Some t)) (ContentErr bytes_in h t) t) old r new

-- `read_link`: the text
abbrev pub ReadLink : Server → List ℕ → Result (Vec ℕ Global) SrvErr → Server → Type 0
ReadLink old h r new = Called (λ t. Outcome (λ v after. (text_at t h ≡ Some v.items) × (after ≡ Some t))
    (ContentErr text_in h t) t) old r new

-- the errors of a call that writes so many bytes at an offset
abbrev pub WriteErr : ServerLimits → List ℕ → ℕ → ℕ → Tree → SrvErr → Type 0
WriteErr limits h offset count t Refused = IsSomeAnd (bytes_at t h) (λ b. length b < offset)
WriteErr limits h offset count t Full =
    IsSomeAnd (bytes_at t h) (λ b. NoRoom limits t 0 (length b) (max (length b) (offset + count)))
WriteErr limits h offset count t e = ContentErr bytes_in h t e

-- so many bytes of the piece stand at the offset, at least one
pub record Wrote (t : Tree) (h : List ℕ) (offset : ℕ) (piece : List ℕ) (count : ℕ)
    (new : Option Tree) : Type 0 where
  pub some : 1 ≤ count
  pub most : count ≤ length piece
  pub after : new ≡ Some (edited t h (with_bytes (overwritten offset (take count piece))))

-- `write`
abbrev pub Write : Server → List ℕ → ℕ → List ℕ → Result ℕ SrvErr → Server → Type 0
Write old h offset piece r new =
    Called (λ t. Outcome (Wrote t h offset piece) (WriteErr old.limits h offset (length piece) t) t) old r new

-- the errors of a call that gives a file a size
abbrev pub SetSizeErr : ServerLimits → List ℕ → ℕ → Tree → SrvErr → Type 0
SetSizeErr limits h size t Full = IsSomeAnd (bytes_at t h) (λ b. NoRoom limits t 0 (length b) size)
SetSizeErr limits h size t e = ContentErr bytes_in h t e

-- `set_size`: the file is cut, or filled with zeros
abbrev pub SetSize : Server → List ℕ → ℕ → Result Unit SrvErr → Server → Type 0
SetSize old h size r new = Called
    (λ t. Outcome (λ _ after. after ≡ Some (edited t h (with_bytes (resized size))))
    (SetSizeErr old.limits h size t)
    t) old r new

-- NAMES

-- the errors of a call on a directory
abbrev pub DirErr : List ℕ → Tree → SrvErr → Type 0
DirErr dir t Stale = IsStale t dir
DirErr dir t NotDir = IsNo names_in t dir
DirErr dir t e = ⊥

-- the errors of a call on a name that a directory should have
abbrev pub LookupErr : List ℕ → List ℕ → Tree → SrvErr → Type 0
LookupErr dir name t NoEnt = LacksName t dir name
LookupErr dir name t e = DirErr dir t e

-- `lookup`
abbrev pub Lookup : Server → List ℕ → List ℕ → Result (List ℕ) SrvErr → Server → Type 0
Lookup old dir name r new = Called
    (λ t. Outcome (λ h after. (target t dir name ≡ Some h) × (after ≡ Some t))
    (LookupErr dir name t) t) old r new

-- each name of the directory stands in the list once, in any order
pub record Lists (rows : List Listed) (names : Names) : Type 0 where
  pub sound : (k : ℕ) (row : Listed) → slice_get rows k ≡ Some row → get names row.name ≡ Some row.handle
  pub complete : (name h : List ℕ) → get names name ≡ Some h → (k : ℕ) ×
      (slice_get rows k ≡ Some (record { name = name; handle = h }))
  pub once : (j k : ℕ) (a b : Listed) → slice_get rows j ≡ Some a → slice_get rows k ≡ Some b →
      a.name ≡ b.name → j ≡ k

-- `list`
abbrev pub ListNames : Server → List ℕ → Result (Vec Listed Global) SrvErr → Server → Type 0
ListNames old dir r new = Called
    (λ t. Outcome (λ rows after. IsSomeAnd (names_at t dir) (Lists rows.items) × (after ≡ Some t))
    (DirErr dir t) t)
    old r new

-- NEW NAMES

-- the errors of a call that makes a node of so many bytes under a new name
abbrev pub MakeErr : ServerLimits → List ℕ → List ℕ → ℕ → Tree → SrvErr → Type 0
MakeErr limits dir name bytes t Exists = HasName t dir name
MakeErr limits dir name bytes t Full = NoRoom limits t 1 0 (NAME_BYTES + bytes)
MakeErr limits dir name bytes t e = DirErr dir t e

-- no node has the number
abbrev pub IsNewNumber : Tree → ℕ → Type 0
IsNewNumber t number = (q : List ℕ) (n : Node) → node_at t q ≡ Some n → n.number ≢ number

-- the name leads to a new node, whose handle and number are new
pub record Made (t : Tree) (dir name : List ℕ) (content : Content) (h : List ℕ)
    (new : Option Tree) : Type 0 where
  pub number : ℕ
  pub new_number : IsNewNumber t number
  pub new_handle : node_at t h ≡ None
  pub after : new ≡ Some (named (with_node t h (new_node number content)) dir name h)

-- a new node whose content has so many bytes
abbrev pub Make : Content → ℕ → Server → List ℕ → List ℕ → Result (List ℕ) SrvErr → Server → Type 0
Make content bytes old dir name r new =
    Called (λ t. Outcome (Made t dir name content) (MakeErr old.limits dir name bytes t) t) old r new

-- `create`: a file without bytes
abbrev pub Create : Server → List ℕ → List ℕ → Result (List ℕ) SrvErr → Server → Type 0
Create old dir name r new = Make (BytesOf []) 0 old dir name r new

-- `mkdir`: a directory without names
abbrev pub Mkdir : Server → List ℕ → List ℕ → Result (List ℕ) SrvErr → Server → Type 0
Mkdir old dir name r new = Make (NamesOf empty) 0 old dir name r new

-- `symlink`: a link with its text
abbrev pub Symlink : Server → List ℕ → List ℕ → List ℕ → Result (List ℕ) SrvErr → Server → Type 0
Symlink old dir name text r new = Make (TextOf text) (length text) old dir name r new

-- there is a directory under the handle
abbrev pub IsDir : Tree → List ℕ → Type 0
IsDir t h = IsSome (names_at t h)

-- the errors of a call that gives a node one name more
abbrev pub LinkErr : ServerLimits → List ℕ → List ℕ → List ℕ → Tree → SrvErr → Type 0
LinkErr limits h dir name t Stale = IsStale t h ⊎ IsStale t dir
LinkErr limits h dir name t NotDir = IsNo names_in t dir
LinkErr limits h dir name t WrongKind = IsDir t h
LinkErr limits h dir name t Exists = HasName t dir name
LinkErr limits h dir name t Full = NoRoom limits t 0 0 NAME_BYTES
LinkErr limits h dir name t e = ⊥

-- `link`: the name leads to the node
abbrev pub Link : Server → List ℕ → List ℕ → List ℕ → Result Unit SrvErr → Server → Type 0
Link old h dir name r new = Called
    (λ t. Outcome (λ _ after. after ≡ Some (named t dir name h)) (LinkErr old.limits h dir name t) t) old r new

-- NAMES THAT GO

-- the name goes, and with its last name the node
abbrev pub Removed : Tree → List ℕ → List ℕ → Option Tree → Type 0
Removed t dir name new = IsSomeAnd (target t dir name) (λ h. new ≡ Some (let_go (unnamed t dir name) h))

-- the errors of a call that takes out a name of a file or a link
abbrev pub RemoveErr : List ℕ → List ℕ → Tree → SrvErr → Type 0
RemoveErr dir name t WrongKind = IsSomeAnd (target t dir name) (IsDir t)
RemoveErr dir name t e = LookupErr dir name t e

-- `remove`
abbrev pub Remove : Server → List ℕ → List ℕ → Result Unit SrvErr → Server → Type 0
Remove old dir name r new = Called (λ t. Outcome (λ _. Removed t dir name) (RemoveErr dir name t) t) old r new

-- the errors of a call that takes out the name of a directory
abbrev pub RmdirErr : List ℕ → List ℕ → Tree → SrvErr → Type 0
RmdirErr dir name t NotDir = IsNo names_in t dir ⊎ IsSomeAnd (target t dir name) (IsNo names_in t)
RmdirErr dir name t NotEmpty = IsSomeAnd (target t dir name) (HasNames t)
RmdirErr dir name t e = LookupErr dir name t e

-- `rmdir`
abbrev pub Rmdir : Server → List ℕ → List ℕ → Result Unit SrvErr → Server → Type 0
Rmdir old dir name r new = Called (λ t. Outcome (λ _. Removed t dir name) (RmdirErr dir name t) t) old r new

-- NAMES THAT MOVE

-- a name leads to one node, and another name, to which it is to move, to another
pub record Replaces (P : List ℕ → List ℕ → Type 0) (t : Tree) (from name to to_name : List ℕ) : Type 0 where
  pub moved : List ℕ
  pub replaced : List ℕ
  pub is_moved : target t from name ≡ Some moved
  pub is_replaced : target t to to_name ≡ Some replaced
  pub apart : replaced ≢ moved
  pub holds : P moved replaced

-- the errors of a call that moves a name: a directory replaces only an empty directory, and does not move below
-- itself
abbrev pub RenameErr : List ℕ → List ℕ → List ℕ → List ℕ → Tree → SrvErr → Type 0
RenameErr from name to to_name t Stale = IsStale t from ⊎ IsStale t to
RenameErr from name to to_name t NotDir = (IsNo names_in t from ⊎ IsNo names_in t to) ⊎
    Replaces (λ h r. IsDir t h × IsNo names_in t r) t from name to to_name
RenameErr from name to to_name t NoEnt = LacksName t from name
RenameErr from name to to_name t WrongKind = Replaces
    (λ h r. IsNo names_in t h × IsDir t r) t from name to to_name
RenameErr from name to to_name t NotEmpty = Replaces (λ _ r. HasNames t r) t from name to to_name
RenameErr from name to to_name t Subtree = IsSomeAnd (target t from name) (λ h. IsDir t h × IsAtOrBelow t h to)
RenameErr from name to to_name t Refused = HasName t to to_name
RenameErr from name to to_name t e = ⊥

-- The first name goes and the second leads to its node. A node that it led to loses this name. Where both names are
-- of one node nothing changes.
abbrev pub renamed : Tree → List ℕ → List ℕ → List ℕ → List ℕ → List ℕ → Tree
renamed t from name to to_name h = elim (target t to to_name) [
  | None ↦ named (unnamed t from name) to to_name h
  | Some r ↦ if bytes_eq r h then t else let_go (named (unnamed t from name) to to_name h) r
]

-- `rename`
abbrev pub Rename : Server → List ℕ → List ℕ → List ℕ → List ℕ → Result Unit SrvErr → Server → Type 0
Rename old from name to to_name r new =
    Called (λ t. Outcome (λ _ after. IsSomeAnd (target t from name)
    (λ h. after ≡ Some (renamed t from name to to_name h))) (RenameErr from name to to_name t) t) old r new

-- THE WHOLE SERVER

-- `root`
abbrev pub RootIs : Server → List ℕ → Type 0
RootIs s h = (t : Tree) → s.tree ≡ Some t → h ≡ t.root

-- the content, where each handle is another
abbrev pub IsMovedContent : (List ℕ → List ℕ) → Content → Content → Type 0
IsMovedContent new (BytesOf b) c = c ≡ BytesOf b
IsMovedContent new (TextOf x) c = c ≡ TextOf x
IsMovedContent new (NamesOf m) c =
    IsSomeAnd (names_in c) (λ m'. (name : List ℕ) → get m' name ≡ option_map new (get m name))

-- the node, where each handle is another; its number is as it was
pub record IsMovedNode (new : List ℕ → List ℕ) (n n' : Node) : Type 0 where
  pub number : n'.number ≡ n.number
  pub mode : n'.mode ≡ n.mode
  pub uid : n'.uid ≡ n.uid
  pub gid : n'.gid ≡ n.gid
  pub content : IsMovedContent new n.content n'.content

-- the tree, where each node is under a new handle, and no two are under one
pub record IsMovedTree (new : List ℕ → List ℕ) (t t' : Tree) : Type 0 where
  pub root : t'.root ≡ new t.root
  pub there : (q : List ℕ) (n : Node) → node_at t q ≡ Some n →
      IsSomeAnd (node_at t' (new q)) (IsMovedNode new n)
  pub back : (q : List ℕ) → IsSome (node_at t' q) → (p : List ℕ) × (q ≡ new p) × IsSome (node_at t p)
  pub apart : (p q : List ℕ) → IsSome (node_at t p) → IsSome (node_at t q) → new p ≡ new q → p ≡ q

-- the same tree stands, each node under a handle that may be another
pub record Rebooted (t : Tree) (after : Option Tree) : Type 0 where
  pub tree : Tree
  pub new : List ℕ → List ℕ
  pub moved : IsMovedTree new t tree
  pub has_tree : after ≡ Some tree

-- `reboot`
abbrev pub Reboot : Server → Result Unit SrvErr → Server → Type 0
Reboot old r new = Called (λ t. Outcome (λ _. Rebooted t) (λ _. ⊥) t) old r new

-- an empty root
pub record IsFresh (new : Option Tree) : Type 0 where
  pub root : List ℕ
  pub number : ℕ
  pub after : new ≡ Some (record { root = root; nodes = insert empty root (new_node number (NamesOf empty)) })

-- what stands after a wipe
abbrev pub WipeOutcome : Result Unit SrvErr → Option Tree → Type 0
WipeOutcome (Ok _) after = IsFresh after
WipeOutcome (Err Fault) after = after ≡ None
WipeOutcome (Err NoMemory) after = after ≡ None
WipeOutcome (Err e) after = ⊥

-- it works in any state
pub record Wipe (old : Server) (r : Result Unit SrvErr) (new : Server) : Type 0 where
  pub tree : WipeOutcome r new.tree
  pub limits : new.limits ≡ old.limits
  pub faults : Counts old.faults new.faults r
