-- What all calls of a file server share: what stands after each answer, and what each error says.
use Rattle.std.specs.Prelude.{◌≡◌, ◌≢◌, ◌⊎◌, ℕ, zero, suc, ◌+◌, ◌-◌, ◌≤◌, ◌<◌, List, Option, None, Some, Result, Ok, Err, IsSome, IsSomeAnd, ⊤}
use Rattle.std.specs.FinMap.{get, empty, len}
use Rattle.nfs2_types.specs.Counts.{Rose}
use Rattle.server_trait.specs.Tree.{Tree, Content, Server, node_at, names_at, target, used}
use Rattle.server_trait.specs.declared.server.SrvErr.{SrvErr}
use Rattle.server_trait.specs.declared.server.SrvErr.TheVariants.{Refused, Full, Fault, NoMemory}
use Rattle.server_trait.specs.declared.server.ServerLimits.{ServerLimits}

-- FAULTS

-- only a call that answers Fault raises the count, and it does
abbrev pub Counts : {T : Type 0} → ℕ → ℕ → Result T SrvErr → Type 0
Counts before now (Err Fault) = (before ≤ now) × Rose before now
Counts before now r = now ≡ before

-- ANSWERS

-- the errors in whose place a call may do its work all the same
abbrev pub IsSoft : SrvErr → Type 0
IsSoft Refused = ⊤
IsSoft Full = ⊤
IsSoft e = ⊥

-- the server has failed, and has no tree
abbrev pub IsBroken : SrvErr → Type 0
IsBroken Fault = ⊤
IsBroken NoMemory = ⊤
IsBroken e = ⊥

-- no error applies that a call has to answer
abbrev pub OnlySoft : (SrvErr → Type 0) → Type 0
OnlySoft applies = (e : SrvErr) → applies e → IsSoft e

-- What stands after an answer. After Ok the work is `done`, and no error applied but soft ones.
-- After Fault and NoMemory there is no tree. Any other error applied, and left the tree as it was.
abbrev pub Outcome : {T : Type 0} → (T → Option Tree → Type 0) → (SrvErr → Type 0) → Tree → Result T SrvErr →
    Option Tree → Type 0
Outcome done applies t (Ok x) new = done x new × OnlySoft applies
Outcome done applies t (Err Fault) new = new ≡ None
Outcome done applies t (Err NoMemory) new = new ≡ None
Outcome done applies t (Err e) new = applies e × (new ≡ Some t)

-- a call of a server that has a tree
pub record Called {T : Type 0} (outcome : Tree → Result T SrvErr → Option Tree → Type 0) (old : Server)
    (r : Result T SrvErr) (new : Server) : Type 0 where
  pub tree : (t : Tree) → old.tree ≡ Some t → outcome t r new.tree
  pub limits : new.limits ≡ old.limits
  pub faults : Counts old.faults new.faults r

-- the server has a tree
abbrev pub HasTree : Server → Type 0
HasTree s = IsSome s.tree

-- WHAT THE ERRORS SAY

-- the handle names no node
abbrev pub IsStale : Tree → List ℕ → Type 0
IsStale t h = node_at t h ≡ None

-- the node has no content of this kind
abbrev pub IsNo : {X : Type 0} → (Content → Option X) → Tree → List ℕ → Type 0
IsNo view t h = IsSomeAnd (node_at t h) (λ n. view n.content ≡ None)

-- the directory has the name
abbrev pub HasName : Tree → List ℕ → List ℕ → Type 0
HasName t dir name = IsSome (target t dir name)

-- it is a directory, and lacks the name
abbrev pub LacksName : Tree → List ℕ → List ℕ → Type 0
LacksName t dir name = IsSomeAnd (names_at t dir) (λ m. get m name ≡ None)

-- the directory has names
abbrev pub HasNames : Tree → List ℕ → Type 0
HasNames t h = IsSomeAnd (names_at t h) (λ m. m ≢ empty)

-- so many names lead from one node to the other
abbrev pub LeadsIn : Tree → ℕ → List ℕ → List ℕ → Type 0
LeadsIn t zero h q = h ≡ q
LeadsIn t (suc k) h q = (name : List ℕ) × (x : List ℕ) × (target t h name ≡ Some x) × LeadsIn t k x q

-- a node is the other or lies below it
abbrev pub IsAtOrBelow : Tree → List ℕ → List ℕ → Type 0
IsAtOrBelow t h q = (k : ℕ) × LeadsIn t k h q

-- so many nodes and bytes would pass the limits
abbrev pub IsOver : ServerLimits → ℕ → ℕ → Type 0
IsOver limits nodes bytes = (limits.nodes < nodes) ⊎ (limits.bytes < bytes)

-- with so many nodes more, and `more` bytes in place of `less`, the tree would pass the limits
abbrev pub NoRoom : ServerLimits → Tree → ℕ → ℕ → ℕ → Type 0
NoRoom limits t nodes less more = IsOver limits (len t.nodes + nodes) ((used t - less) + more)
