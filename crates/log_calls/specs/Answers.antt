-- Answers of the parts of a server.
use Rattle.std.specs.Prelude.{◌≡◌, ℕ, Bool, true, false, List, length, Option, None, Some, Result, Ok, Err, IsSomeAnd}
use Rattle.std.specs.Int.{from_be_bytes, w64}
use Rattle.outside.specs.declared.medium.MediumErr.{MediumErr}
use Rattle.outside.specs.declared.medium.MediumErr.TheVariants.{Failed, NoMemory as Spent}
use Rattle.server_trait.specs.Tree.{Tree, node_at}
use Rattle.server_trait.specs.Step.{IsStale}
use Rattle.server_trait.specs.Calls.{IsDir}
use Rattle.server_trait.specs.declared.server.NodeAttr.{NodeAttr}
use Rattle.server_trait.specs.declared.server.SrvErr.{SrvErr}
use Rattle.server_trait.specs.declared.server.SrvErr.TheVariants.{Stale, NoEnt, Exists, NotDir, WrongKind, NotEmpty, Subtree, Refused, Full, Fault, NoMemory}
use Rattle.log_tree.specs.Held.{handle_of}
use Rattle.log_index.specs.Memory.{IsInfo}
use Rattle.log_calls.specs.declared.found.Found.{Found}

-- what an error of the medium is to a caller
abbrev pub fault_of : MediumErr → SrvErr
fault_of Failed = Fault
fault_of Spent = NoMemory

-- the answer of a change to a caller
abbrev pub answer_of : {T : Type 0} → Result T MediumErr → Result T SrvErr
answer_of (Ok x) = Ok x
answer_of (Err e) = Err (fault_of e)

-- whether the server has a tree after an error
abbrev pub is_kept : SrvErr → Bool
is_kept Stale = true
is_kept NoEnt = true
is_kept Exists = true
is_kept NotDir = true
is_kept WrongKind = true
is_kept NotEmpty = true
is_kept Subtree = true
is_kept Refused = true
is_kept Full = true
is_kept Fault = false
is_kept NoMemory = false

-- whether the server has a tree after an answer
abbrev pub stands : {T : Type 0} → Result T SrvErr → Bool
stands (Ok x) = true
stands (Err e) = is_kept e

-- a handle is that of an id, or of none
abbrev pub IsIdOf : List ℕ → Option (List ℕ) → Type 0
IsIdOf h None = (id : List ℕ) → length id ≡ 8 → h ≡ handle_of id → ⊥
IsIdOf h (Some id) = h ≡ handle_of id

-- a node of the tree with what is kept of it, or none
abbrev pub IsFound : Tree → List ℕ → Option Found → Type 0
IsFound t h None = node_at t h ≡ None
IsFound t h (Some f) = (h ≡ handle_of f.id) × IsSomeAnd (node_at t h) (λ n. IsInfo t h n f.info)

-- the attributes of a node; its time is zero
abbrev pub attr_of : Found → NodeAttr
attr_of f = record {
  kind = f.info.kind;
  number = from_be_bytes w64 f.id;
  mode = f.info.mode;
  uid = f.info.uid;
  gid = f.info.gid;
  size = f.info.size;
  links = f.info.links;
  time = record { secs = 0; micros = 0 };
}

-- the errors of a call on a file or a link
abbrev pub LeafErr : List ℕ → Tree → SrvErr → Type 0
LeafErr h t Stale = IsStale t h
LeafErr h t WrongKind = IsDir t h
LeafErr h t e = ⊥

-- a node with a fact, or an error that applies
abbrev pub FindsAs : (Found → Type 0) → (SrvErr → Type 0) → Result Found SrvErr → Type 0
FindsAs there applies (Ok f) = there f
FindsAs there applies (Err e) = applies e
