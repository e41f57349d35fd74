-- What calls on a tree of a medium answer, from what its changes say.
use Rattle.std.proofs.Common.{◌≡◌, ℕ, ◌≤◌, Bool, true, false, List, Option, Some, None, Result, Ok, Err, refl, sym, ap, ◌∙◌, subst}
use Rattle.std.specs.Prelude.{if◌then◌else◌}
use Rattle.outside.specs.Causes.{WriteHasCause}
use Rattle.outside.specs.declared.medium.MediumErr.{MediumErr}
use Rattle.outside.specs.declared.medium.MediumErr.TheVariants.{Failed, NoMemory as Spent}
use Rattle.nfs2_types.specs.Counts.{Rose}
use Rattle.server_trait.specs.Tree.{Tree, Server}
use Rattle.server_trait.specs.Step.{Called, Counts, OnlySoft, Outcome}
use Rattle.server_trait.specs.declared.server.SrvErr.{SrvErr}
use Rattle.server_trait.specs.declared.server.SrvErr.TheVariants.{Stale, NoEnt, Exists, NotDir, WrongKind, NotEmpty, Subtree, Refused, Full, Fault, NoMemory}
use Rattle.server_trait.specs.declared.server.ServerLimits.{ServerLimits}
use Rattle.server_trait.proofs.TreeLaws.{some_same}
use Rattle.inode_store.specs.Held.{held}
use Rattle.inode_tree.specs.Kept.{tables_of}
use Rattle.inode_tree.specs.Whole.{tree_in, IsWhole}
use Rattle.inode_tree.specs.declared.tree.InodeTree.{InodeTree}
use Rattle.inode_server.specs.Answers.{srv_err, is_kept, stands}
use Rattle.inode_server.specs.State.{Does, Stays, server_of}

no : {A : Type 0} → false ≡ true → A
no bad = absurd (let b : false ≡ true = bad in cc)

-- ERRORS

err_outcome : {T : Type 0} (done : T → Option Tree → Type 0) (applies : SrvErr → Type 0) (t : Tree) (u : Option Tree)
    (e : SrvErr) → is_kept e ≡ true → applies e → u ≡ Some t → Outcome {T = T} done applies t (Err e) u
err_outcome done applies t u Stale kept a is = (a, is)
err_outcome done applies t u NoEnt kept a is = (a, is)
err_outcome done applies t u Exists kept a is = (a, is)
err_outcome done applies t u NotDir kept a is = (a, is)
err_outcome done applies t u WrongKind kept a is = (a, is)
err_outcome done applies t u NotEmpty kept a is = (a, is)
err_outcome done applies t u Subtree kept a is = (a, is)
err_outcome done applies t u Refused kept a is = (a, is)
err_outcome done applies t u Full kept a is = (a, is)
err_outcome done applies t u Fault kept a is = no kept
err_outcome done applies t u NoMemory kept a is = no kept

err_counts : (T : Type 0) (before now : ℕ) (e : SrvErr) → is_kept e ≡ true → now ≡ before →
    Counts {T = T} before now (Err e)
err_counts T before now Stale kept is = is
err_counts T before now NoEnt kept is = is
err_counts T before now Exists kept is = is
err_counts T before now NotDir kept is = is
err_counts T before now WrongKind kept is = is
err_counts T before now NotEmpty kept is = is
err_counts T before now Subtree kept is = is
err_counts T before now Refused kept is = is
err_counts T before now Full kept is = is
err_counts T before now Fault kept is = no kept
err_counts T before now NoMemory kept is = is

down : (e : MediumErr) → is_kept (srv_err e) ≡ false
down Failed = refl
down Spent = refl

-- the causes of a failure, after other calls that raised no count
pub fail_counts : {R : Type 0} (T : Type 0) (before mid now : ℕ) (e : MediumErr) → mid ≡ before →
    WriteHasCause {T = R} mid now (Err e) → Counts {T = T} before now (Err (srv_err e))
fail_counts T before mid now Failed same cause = (
  subst (λ n. n ≤ now) same cause.later,
  subst (λ n. Rose n now) same (cause.failed refl),
)
fail_counts T before mid now Spent same cause = cause.no_memory refl ∙ same

fail_outcome : {T : Type 0} (done : T → Option Tree → Type 0) (applies : SrvErr → Type 0) (t : Tree) (u : Option Tree)
    (e : MediumErr) → u ≡ None → Outcome {T = T} done applies t (Err (srv_err e)) u
fail_outcome done applies t u Failed is = is
fail_outcome done applies t u Spent is = is

-- WHAT STAYS

-- the limits and the plan of the medium stay
pub record IsAlike {M : Type 0} (size : M → ℕ) (old new : InodeTree M) : Type 0 where
  pub limits : new.limits ≡ old.limits
  pub area : new.store.area ≡ old.store.area
  pub inodes : new.store.inodes ≡ old.store.inodes
  pub on_medium : size new.store.medium ≡ size old.store.medium

-- nothing that a caller sees has changed
pub record IsSame {M : Type 0} (content : M → ℕ → List ℕ) (size faults : M → ℕ) (old new : InodeTree M) : Type 0 where
  pub alike : IsAlike size old new
  pub tables : new.tables ≡ old.tables
  pub blocks : content new.store.medium ≡ content old.store.medium
  pub count : faults new.store.medium ≡ faults old.store.medium

pub alike_refl : {M : Type 0} (size : M → ℕ) (s : InodeTree M) → IsAlike size s s
alike_refl size s = record { limits = refl; area = refl; inodes = refl; on_medium = refl }

pub alike_trans : {M : Type 0} (size : M → ℕ) (a b c : InodeTree M) → IsAlike size a b → IsAlike size b c → IsAlike size a c
alike_trans size a b c x y = record {
  limits = y.limits ∙ x.limits;
  area = y.area ∙ x.area;
  inodes = y.inodes ∙ x.inodes;
  on_medium = y.on_medium ∙ x.on_medium;
}

pub same_refl : {M : Type 0} (content : M → ℕ → List ℕ) (size faults : M → ℕ) (s : InodeTree M) →
    IsSame content size faults s s
same_refl content size faults s = record { alike = alike_refl size s; tables = refl; blocks = refl; count = refl }

pub tree-same : {M : Type 0} (content : M → ℕ → List ℕ) (size faults : M → ℕ) (old new : InodeTree M) →
    IsSame content size faults old new → tree_in content new ≡ tree_in content old
tree-same content size faults old new same =
    ap (λ t. held (tables_of t).handle new.store.area new.store.inodes (content new.store.medium)) same.tables
    ∙ ap (λ a. held (tables_of old.tables).handle a new.store.inodes (content new.store.medium)) same.alike.area
    ∙ ap (λ n. held (tables_of old.tables).handle old.store.area n (content new.store.medium)) same.alike.inodes
    ∙ ap (λ c. held (tables_of old.tables).handle old.store.area old.store.inodes c) same.blocks

server-same : {M : Type 0} (content : M → ℕ → List ℕ) (size faults : M → ℕ) (old new : InodeTree M) →
    IsSame content size faults old new → server_of content faults true new ≡ server_of content faults true old
server-same content size faults old new same =
    let mk : Tree → ServerLimits → ℕ → Server = λ t l f. record { tree = Some t; limits = l; faults = f } in
    ap (λ t. mk t new.limits (faults new.store.medium)) (tree-same content size faults old new same)
    ∙ ap (λ l. mk (tree_in content old) l (faults new.store.medium)) same.alike.limits
    ∙ ap (λ f. mk (tree_in content old) old.limits f) same.count

stays : {M : Type 0} (content : M → ℕ → List ℕ) (size : M → ℕ) (up : Bool) (old new : InodeTree M) →
    IsAlike size old new → (up ≡ true → IsWhole content size new) →
    (up ≡ true → content new.store.medium 0 ≡ content old.store.medium 0) → Stays content size up old new
stays content size up old new alike whole first = record {
  limits = alike.limits;
  area = alike.area;
  inodes = alike.inodes;
  on_medium = alike.on_medium;
  whole = whole;
  name = first;
}

-- CALLS

-- what a call of a server is, at a tree: what Ok has done, and which errors apply
pub record IsCall {M T : Type 0} (content : M → ℕ → List ℕ) (faults : M → ℕ)
    (call : Server → Result T SrvErr → Server → Type 0) (old : InodeTree M) : Type 1 where
  pub done : Tree → T → Option Tree → Type 0
  pub applies : Tree → SrvErr → Type 0
  pub is : (r : Result T SrvErr) (new : InodeTree M) → Called (λ t. Outcome (done t) (applies t) t)
      (server_of content faults true old) r (server_of content faults (stands r) new) →
      call (server_of content faults true old) r (server_of content faults (stands r) new)

module _ {M T : Type 0} (content : M → ℕ → List ℕ) (size faults : M → ℕ)
    (call : Server → Result T SrvErr → Server → Type 0) (old : InodeTree M) (k : IsCall content faults call old)
    (new : InodeTree M) where
  told : (r : Result T SrvErr) → Outcome (k.done (tree_in content old)) (k.applies (tree_in content old))
      (tree_in content old) r (server_of content faults (stands r) new).tree → new.limits ≡ old.limits →
      Counts (faults old.store.medium) (faults new.store.medium) r →
      call (server_of content faults true old) r (server_of content faults (stands r) new)
  told r o l f = k.is r new (record {
    tree = λ t e. subst (λ t. Outcome (k.done t) (k.applies t) t r (server_of content faults (stands r) new).tree)
        (some_same refl e) o;
    limits = l;
    faults = f;
  })

  -- an error that applies leaves the tree as it was
  pub refused_at : (e : SrvErr) → is_kept e ≡ true → k.applies (tree_in content old) e →
      tree_in content new ≡ tree_in content old → IsAlike size old new →
      faults new.store.medium ≡ faults old.store.medium → IsWhole content size new →
      content new.store.medium 0 ≡ content old.store.medium 0 → Does content size faults call old (Err e) new
  refused_at e kept a same alike count whole first = record {
    answers = told (Err e) (err_outcome (k.done (tree_in content old)) (k.applies (tree_in content old))
        (tree_in content old) (server_of content faults (is_kept e) new).tree e kept a
        (ap (λ (b : Bool). if b then Some (tree_in content new) else None) kept ∙ ap Some same))
        alike.limits (err_counts T (faults old.store.medium) (faults new.store.medium) e kept count);
    stays = stays content size (is_kept e) old new alike (λ _. whole) (λ _. first);
  }

  pub refused : (e : SrvErr) → is_kept e ≡ true → k.applies (tree_in content old) e →
      IsSame content size faults old new → IsWhole content size new → Does content size faults call old (Err e) new
  refused e kept a same whole = refused_at e kept a (tree-same content size faults old new same) same.alike same.count
      whole (ap (λ c. c 0) same.blocks)

  -- the medium failed, or memory is wanting
  fails : {R : Type 0} (e : MediumErr) (mid : ℕ) → mid ≡ faults old.store.medium → IsAlike size old new →
      WriteHasCause {T = R} mid (faults new.store.medium) (Err e) →
      Does content size faults call old (Err (srv_err e)) new
  fails e mid same alike cause = record {
    answers = told (Err (srv_err e)) (fail_outcome (k.done (tree_in content old)) (k.applies (tree_in content old))
        (tree_in content old) (server_of content faults (is_kept (srv_err e)) new).tree e
        (ap (λ (b : Bool). if b then Some (tree_in content new) else None) (down e)))
        alike.limits (fail_counts T (faults old.store.medium) mid (faults new.store.medium) e same cause);
    stays = stays content size (is_kept (srv_err e)) old new alike (λ up. no (sym (down e) ∙ up))
        (λ up. no (sym (down e) ∙ up));
  }

  pub broke : {R : Type 0} (e : MediumErr) (r : SrvErr) → r ≡ srv_err e → (mid : ℕ) → mid ≡ faults old.store.medium →
      IsAlike size old new → WriteHasCause {T = R} mid (faults new.store.medium) (Err e) →
      Does content size faults call old (Err r) new
  broke e r is mid same alike cause = subst (λ r. Does content size faults call old (Err r) new) (sym is)
      (fails e mid same alike cause)

  -- memory is wanting
  pub spent : IsAlike size old new → faults new.store.medium ≡ faults old.store.medium →
      Does content size faults call old (Err NoMemory) new
  spent alike count = record {
    answers = told (Err NoMemory) refl alike.limits count;
    stays = stays content size false old new alike (λ up. no up) (λ up. no up);
  }

  -- the work is done
  pub did : (x : T) → k.done (tree_in content old) x (Some (tree_in content new)) →
      OnlySoft (k.applies (tree_in content old)) → IsAlike size old new → faults new.store.medium ≡ faults old.store.medium →
      IsWhole content size new → content new.store.medium 0 ≡ content old.store.medium 0 →
      Does content size faults call old (Ok x) new
  did x done soft alike count whole first = record {
    answers = told (Ok x) (done, soft) alike.limits count;
    stays = stays content size true old new alike (λ _. whole) (λ _. first);
  }

-- a call after another that changed nothing
pub after-same : {M T : Type 0} (content : M → ℕ → List ℕ) (size faults : M → ℕ)
    (call : Server → Result T SrvErr → Server → Type 0) (old mid : InodeTree M) (r : Result T SrvErr)
    (new : InodeTree M) → IsSame content size faults old mid → Does content size faults call mid r new →
    Does content size faults call old r new
after-same content size faults call old mid r new same d = record {
  answers = subst (λ a. call a r (server_of content faults (stands r) new)) (server-same content size faults old mid same)
      d.answers;
  stays = record {
    limits = d.stays.limits ∙ same.alike.limits;
    area = d.stays.area ∙ same.alike.area;
    inodes = d.stays.inodes ∙ same.alike.inodes;
    on_medium = d.stays.on_medium ∙ same.alike.on_medium;
    whole = d.stays.whole;
    name = λ up. d.stays.name up ∙ ap (λ c. c 0) same.blocks;
  };
}
