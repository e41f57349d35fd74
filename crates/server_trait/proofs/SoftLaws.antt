-- Where a call can do its work: then no error applies but soft ones. A server cites this at Ok, and a caller at Err.
use Rattle.std.proofs.Common.{true, false, ◌≡◌, ℕ, List, Option, Some, None, IsSome, Ok, Err, refl, sym, ap, ◌∙◌}
use Rattle.std.specs.Option.{option_and_then}
use Rattle.std.specs.FinMap.{get, insert}
use Rattle.server_trait.specs.Tree.{Tree, named, with_node, with_names, new_node, Node, Names, Content, node_at, bytes_in, text_in, names_in, bytes_at, text_at, names_at, target}
use Rattle.server_trait.specs.Step.{OnlySoft, Outcome, IsBroken, IsStale, IsNo, LacksName}
use Rattle.server_trait.specs.Calls.{NodeErr, Made, ContentErr, WriteErr, SetSizeErr, DirErr, LookupErr, MakeErr}
use Rattle.server_trait.proofs.TreeLaws.{node_at-edited_other, get-insert_same, some_and, some_none, some_same, and_then_some}
use Rattle.server_trait.specs.declared.server.SrvErr.{SrvErr}
use Rattle.server_trait.specs.declared.server.SrvErr.TheVariants.{Stale, NoEnt, Exists, NotDir, WrongKind, Refused, Full, Fault, NoMemory}
use Rattle.server_trait.specs.declared.server.ServerLimits.{ServerLimits}

pub some_of : {A : Type 0} (o : Option A) → IsSome o → (x : A) × (o ≡ Some x)
some_of None h = absurd (let bad : false ≡ true = h in cc)
some_of (Some x) h = (x, refl)

module _ {X : Type 0} (view : Content → Option X) (t : Tree) (h : List ℕ) (x : X)
    (is : option_and_then (λ (n : Node). view n.content) (node_at t h) ≡ Some x) where
  pub not_stale : IsStale t h → ⊥
  not_stale s = let n = and_then_some (λ (n : Node). view n.content) (node_at t h) x is in some_none n.1 s

  pub not_other : IsNo view t h → ⊥
  not_other s =
      let n = and_then_some (λ (n : Node). view n.content) (node_at t h) x is in
      let m = some_and (node_at t h) (λ (n : Node). view n.content ≡ None) s in
      some_none n.2 (ap (λ (n : Node). view n.content) (some_same n.1 m.1) ∙ m.2)

pub node_soft : (t : Tree) (h : List ℕ) (n : Node) → node_at t h ≡ Some n → OnlySoft (NodeErr h t)
node_soft t h n is Stale a = some_none is a
node_soft t h n is e a = absurd a

pub read_soft : (t : Tree) (h b : List ℕ) → bytes_at t h ≡ Some b → OnlySoft (ContentErr bytes_in h t)
read_soft t h b is Stale a = not_stale bytes_in t h b is a
read_soft t h b is WrongKind a = not_other bytes_in t h b is a
read_soft t h b is e a = absurd a

pub read_link_soft : (t : Tree) (h b : List ℕ) → text_at t h ≡ Some b → OnlySoft (ContentErr text_in h t)
read_link_soft t h b is Stale a = not_stale text_in t h b is a
read_link_soft t h b is WrongKind a = not_other text_in t h b is a
read_link_soft t h b is e a = absurd a

pub write_soft : (limits : ServerLimits) (t : Tree) (h b : List ℕ) (offset count : ℕ) → bytes_at t h ≡ Some b →
    OnlySoft (WriteErr limits h offset count t)
write_soft limits t h b offset count is Stale a = not_stale bytes_in t h b is a
write_soft limits t h b offset count is WrongKind a = not_other bytes_in t h b is a
write_soft limits t h b offset count is Refused a = tt
write_soft limits t h b offset count is Full a = tt
write_soft limits t h b offset count is e a = absurd a

pub set_size_soft : (limits : ServerLimits) (t : Tree) (h b : List ℕ) (size : ℕ) → bytes_at t h ≡ Some b →
    OnlySoft (SetSizeErr limits h size t)
set_size_soft limits t h b size is Stale a = not_stale bytes_in t h b is a
set_size_soft limits t h b size is WrongKind a = not_other bytes_in t h b is a
set_size_soft limits t h b size is Full a = tt
set_size_soft limits t h b size is e a = absurd a

pub dir_soft : (t : Tree) (dir : List ℕ) (m : Names) → names_at t dir ≡ Some m → OnlySoft (DirErr dir t)
dir_soft t dir m is Stale a = not_stale names_in t dir m is a
dir_soft t dir m is NotDir a = not_other names_in t dir m is a
dir_soft t dir m is e a = absurd a

pub dir_of_target : (t : Tree) (dir name h : List ℕ) → target t dir name ≡ Some h →
    (m : Names) × (names_at t dir ≡ Some m) × (get m name ≡ Some h)
dir_of_target t dir name h is = and_then_some (λ (m : Names). get m name) (names_at t dir) h is

pub has_not_lacks : (t : Tree) (dir name h : List ℕ) → target t dir name ≡ Some h → LacksName t dir name → ⊥
has_not_lacks t dir name h is l =
    let m = dir_of_target t dir name h is in
    let k = some_and (names_at t dir) (λ m. get m name ≡ None) l in
    some_none m.2 (ap (λ m. get m name) (some_same m.1 k.1) ∙ k.2)

pub lookup_soft : (t : Tree) (dir name h : List ℕ) → target t dir name ≡ Some h → OnlySoft (LookupErr dir name t)
lookup_soft t dir name h is Stale a = let m = dir_of_target t dir name h is in not_stale names_in t dir m.0 m.1 a
lookup_soft t dir name h is NotDir a = let m = dir_of_target t dir name h is in not_other names_in t dir m.0 m.1 a
lookup_soft t dir name h is NoEnt a = has_not_lacks t dir name h is a
lookup_soft t dir name h is e a = absurd a

pub make_soft : (limits : ServerLimits) (t : Tree) (dir name : List ℕ) (bytes : ℕ) → LacksName t dir name →
    OnlySoft (MakeErr limits dir name bytes t)
make_soft limits t dir name bytes l Stale a = let m = some_and (names_at t dir) (λ m. get m name ≡ None) l in
    not_stale names_in t dir m.0 m.1 a
make_soft limits t dir name bytes l NotDir a = let m = some_and (names_at t dir) (λ m. get m name ≡ None) l in
    not_other names_in t dir m.0 m.1 a
make_soft limits t dir name bytes l Exists a = let h = some_of (target t dir name) a in
    has_not_lacks t dir name h.0 h.1 l
make_soft limits t dir name bytes l Full a = tt
make_soft limits t dir name bytes l e a = absurd a

-- where no error applies only a failure is answered
pub failed : {T : Type 0} (done : T → Option Tree → Type 0) (applies : SrvErr → Type 0) (t : Tree) (e : SrvErr)
    (new : Option Tree) → ((e : SrvErr) → ¬ (applies e)) → Outcome done applies t (Err e) new → IsBroken e
failed done applies t Fault new none o = tt
failed done applies t NoMemory new none o = tt
failed done applies t e new none o = none e o.0

pub node_none : (t : Tree) (h : List ℕ) (n : Node) → node_at t h ≡ Some n → (e : SrvErr) → ¬ (NodeErr h t e)
node_none t h n is Stale a = some_none is a
node_none t h n is e a = absurd a

-- a node that was just made
pub made_node : (t : Tree) (dir name : List ℕ) (content : Content) (h : List ℕ) (new : Option Tree)
    (m : Made t dir name content h new) → LacksName t dir name →
    node_at (named (with_node t h (new_node m.number content)) dir name h) h ≡ Some (new_node m.number content)
made_node t dir name content h new m l =
    let k = some_and (names_at t dir) (λ m. get m name ≡ None) l in
    let d = and_then_some (λ (n : Node). names_in n.content) (node_at t dir) k.0 k.1 in
    node_at-edited_other (with_node t h (new_node m.number content)) dir (with_names (λ k. insert k name h)) h
    (λ e. some_none d.1 (ap (node_at t) (sym e) ∙ m.new_handle))
    ∙ get-insert_same t.nodes h (new_node m.number content)
