-- What a tree on a log shows, and how the parts of a call make its answer.
use Rattle.std.proofs.Common.{Bool, true, false, cond, ◌≡◌, ◌∙◌, ℕ, List, Option, Some, None, refl, sym, ap, subst}
use Rattle.std.specs.Prelude.{Result, Ok, Err, IfErr, IfOk, OnOk}
use Rattle.outside.specs.Causes.{WriteHasCause}
use Rattle.outside.specs.declared.medium.MediumErr.{MediumErr}
use Rattle.outside.specs.declared.medium.MediumErr.TheVariants.{Failed, NoMemory as Spent}
use Rattle.server_trait.specs.Tree.{Server, Tree}
use Rattle.server_trait.specs.Step.{Called, Counts, IsBroken, OnlySoft, Outcome}
use Rattle.server_trait.specs.Calls.{IsFresh, Wipe}
use Rattle.server_trait.specs.declared.server.SrvErr.{SrvErr}
use Rattle.server_trait.specs.declared.server.SrvErr.TheVariants.{Stale, NoEnt, Exists, NotDir, WrongKind, NotEmpty, Subtree, Refused, Full, Fault, NoMemory}
use Rattle.server_trait.proofs.TreeLaws.{some_same}
use Rattle.log_segments.specs.Segments.{live_records, records}
use Rattle.log_tree.specs.Held.{held}
use Rattle.log_held.proofs.HeldLaws.{sound_held}
use Rattle.log_held.proofs.Lists.{live_once}
use Rattle.log_changes.specs.Kept.{Changes, IsKept, log_medium, log_tree}
use Rattle.log_changes.specs.declared.tree.LogTree.{LogTree}
use Rattle.log_calls.specs.Answers.{answer_of, fault_of, is_kept, stands}
use Rattle.log_calls.specs.State.{Does, IsOff, IsOn, Stays, server_of}

-- ANSWERS

pub on_ok : {T E : Type 0} (P : Type 0) (r : Result T E) (x : T) → OnOk r P → r ≡ Ok x → P
on_ok P r x h e = subst (λ q. OnOk q P) e h

pub if_ok : {T E : Type 0} (P : T → Type 0) (r : Result T E) (x : T) → IfOk r P → r ≡ Ok x → P x
if_ok P r x h e = subst (λ q. IfOk q P) e h

pub all_ok : {T E : Type 0} {P : Type 0} (r : Result T E) → P → OnOk r P
all_ok (Ok x) p = p
all_ok (Err e) p = tt

-- the answer is that of what went well
pub ok_answer : {T : Type 0} (r : Result T MediumErr) (x : T) → answer_of r ≡ Ok x → r ≡ Ok x
ok_answer (Ok y) x e = cc
ok_answer (Err f) x e = absurd cc

pub refused : {T : Type 0} (done : T → Option Tree → Type 0) (applies : SrvErr → Type 0) (t : Tree) (e : SrvErr)
    (new : Option Tree) → applies e → (IsBroken e → ⊥) → new ≡ Some t → Outcome done applies t (Err e) new
refused done applies t Fault new a whole is = absurd (whole tt)
refused done applies t NoMemory new a whole is = absurd (whole tt)
refused done applies t e new a whole is = (a, is)

pub broke : {T : Type 0} (done : T → Option Tree → Type 0) (applies : SrvErr → Type 0) (t : Tree) (e : SrvErr)
    (new : Option Tree) → IsBroken e → new ≡ None → Outcome done applies t (Err e) new
broke done applies t Fault new b none = none
broke done applies t NoMemory new b none = none
broke done applies t e new b none = absurd b

pub counts_stay : (T : Type 0) (before now : ℕ) (e : SrvErr) → (IsBroken e → ⊥) → now ≡ before
    → Counts {T = T} before now (Err e)
counts_stay T before now Fault whole is = absurd (whole tt)
counts_stay T before now e whole is = is

pub counts_as : (T U : Type 0) (before now : ℕ) (e : SrvErr) → Counts {T = T} before now (Err e)
    → Counts {T = U} before now (Err e)
counts_as T U before now Fault c = c
counts_as T U before now e c = c

pub fault_broken : (e : MediumErr) → IsBroken (fault_of e)
fault_broken Failed = tt
fault_broken Spent = tt

pub counts_fault : (T U : Type 0) (before now : ℕ) (e : MediumErr) → WriteHasCause {T = T} before now (Err e)
    → Counts {T = U} before now (Err (fault_of e))
counts_fault T U before now Failed c = (c.later, c.failed refl)
counts_fault T U before now Spent c = c.no_memory refl

-- an answer has the cause of what it answers
pub counts_answer : {T : Type 0} (before now : ℕ) (r : Result T MediumErr) → WriteHasCause before now r
    → Counts before now (answer_of r)
counts_answer before now (Ok x) c = c.ok
counts_answer {T} before now (Err f) c = counts_fault T T before now f c

pub answer_broken : {T : Type 0} (r : Result T MediumErr) → IfErr (answer_of r) IsBroken
answer_broken (Ok x) = tt
answer_broken (Err f) = fault_broken f

pub kept_after : (e : SrvErr) → (IsBroken e → ⊥) → is_kept e ≡ true
kept_after Fault whole = absurd (whole tt)
kept_after NoMemory whole = absurd (whole tt)
kept_after Stale whole = refl
kept_after NoEnt whole = refl
kept_after Exists whole = refl
kept_after NotDir whole = refl
kept_after WrongKind whole = refl
kept_after NotEmpty whole = refl
kept_after Subtree whole = refl
kept_after Refused whole = refl
kept_after Full whole = refl

pub gone_after : (e : SrvErr) → IsBroken e → is_kept e ≡ false
gone_after Fault b = refl
gone_after NoMemory b = refl
gone_after e b = absurd b

module _ {M : Type 0} (content : M → ℕ → List ℕ) (size faults : M → ℕ) where
  abbrev holds : LogTree M → Option Tree
  holds t = held (content (log_medium t)) (size (log_medium t)) t.limits

  -- WHAT A SERVER SHOWS

  pub shows : (t : LogTree M) → IsKept content size t → holds t ≡ Some (log_tree content size t)
  shows t kept =
      let m = log_medium t in
      sound_held t.limits (live_records (content m) (size m)) (live_once (records (content m) (size m))) kept.sound

  -- FAILURES

  pub off_of : {T : Type 0} (old new : LogTree M) (f : MediumErr) → Changes {T = T} size faults old new (Err f)
      → IsOff content size faults old (fault_of f) new
  off_of {T} old new f c = record {
    broken = fault_broken f;
    limits = c.limits;
    size_is = c.size_is;
    counts = counts_fault T (Unit {0}) (faults (log_medium old)) (faults (log_medium new)) f c.cause;
  }

  pub off_after : (old mid new : LogTree M) (t : Tree) (e : SrvErr) → IsOn content size faults old t mid
      → IsOff content size faults mid e new → IsOff content size faults old e new
  off_after old mid new t e on off = record {
    broken = off.broken;
    limits = off.limits ∙ on.limits;
    size_is = off.size_is ∙ on.size_is;
    counts = subst (λ (n : ℕ). Counts {T = Unit {0}} n (faults (log_medium new)) (Err e)) on.faults_are off.counts;
  }

  -- an error of an answer is one of the medium
  pub off_answer : {T : Type 0} (old new : LogTree M) (r : Result T MediumErr) (e : SrvErr)
      → Changes size faults old new r → answer_of r ≡ Err e → IsOff content size faults old e new
  off_answer old new (Ok x) e c is = absurd cc
  off_answer old new (Err f) e c is = subst (λ q. IsOff content size faults old q new) (same (fault_of f) e is)
      (off_of old new f c)
    where
      same : {T : Type 0} (a b : SrvErr) → ◌≡◌ {A = Result T SrvErr} (Err a) (Err b) → a ≡ b
      same a b e = cc

  -- THE END OF A CALL

  module _ {T : Type 0} (call : Server → Result T SrvErr → Server → Type 0) (done : Tree → T → Option Tree → Type 0)
      (applies : Tree → SrvErr → Type 0)
      (old new : LogTree M) (into : (r : Result T SrvErr) (b : Server)
      → Called (λ t. Outcome (done t) (applies t) t) (server_of content size faults true old) r b
      → call (server_of content size faults true old) r b) (kept : IsKept content size old) where
    abbrev t : Tree
    t = log_tree content size old

    abbrev st : Server
    st = server_of content size faults true old

    along : (r : Result T SrvErr) (new : Option Tree) → Outcome (done t) (applies t) t r new → (u : Tree)
        → st.tree ≡ Some u → Outcome (done u) (applies u) u r new
    along r new o u is = subst (λ v. Outcome (done v) (applies v) v r new) (some_same (shows old kept) is) o

    -- it went well, and left a tree
    pub did : (x : T) → IsKept content size new → new.limits ≡ old.limits
        → size (log_medium new) ≡ size (log_medium old) → faults (log_medium new) ≡ faults (log_medium old)
        → done t x (Some (log_tree content size new)) → OnlySoft (applies t) → Does content size faults call old (Ok x) new
    did x k limits same counts d soft = record {
      answers = into (Ok x) (server_of content size faults true new) (record {
        tree = along (Ok x) (holds new) (subst (done t x) (sym (shows new k)) d, soft);
        limits = limits;
        faults = counts;
      });
      stays = record { limits = limits; size_is = same; kept = λ _. k };
    }

    -- a part failed
    pub fell : (e : SrvErr) → IsOff content size faults old e new → Does content size faults call old (Err e) new
    fell e off =
        let gone = gone_after e off.broken in
        record {
          answers = into (Err e) (server_of content size faults (is_kept e) new) (record {
            tree = along (Err e) (cond (is_kept e) (holds new) None) (broke (done t) (applies t) t e
                (cond (is_kept e) (holds new) None) off.broken (ap (λ b. cond b (holds new) None) gone));
            limits = off.limits;
            faults = counts_as (Unit {0}) T (faults (log_medium old)) (faults (log_medium new)) e off.counts;
          });
          stays = record {
            limits = off.limits;
            size_is = off.size_is;
            kept = λ up. absurd (let bad : false ≡ true = sym gone ∙ up in cc);
          };
        }

    -- an error applied, and the tree stands
    pub stayed : (e : SrvErr) → IsOn content size faults old t new → applies t e → (IsBroken e → ⊥)
        → Does content size faults call old (Err e) new
    stayed e on a whole =
        let up = kept_after e whole in
        record {
          answers = into (Err e) (server_of content size faults (is_kept e) new) (record {
            tree = along (Err e) (cond (is_kept e) (holds new) None) (refused (done t) (applies t) t e
                (cond (is_kept e) (holds new) None) a whole (ap (λ b. cond b (holds new) None) up
                ∙ (shows new on.kept ∙ ap Some on.tree_is)));
            limits = on.limits;
            faults = counts_stay T (faults (log_medium old)) (faults (log_medium new)) e whole on.faults_are;
          });
          stays = record { limits = on.limits; size_is = on.size_is; kept = λ _. on.kept };
        }

    -- the answer is there, and the tree stands
    pub told : (x : T) → IsOn content size faults old t new → done t x (Some t) → OnlySoft (applies t)
        → Does content size faults call old (Ok x) new
    told x on d soft = did x on.kept on.limits on.size_is on.faults_are
        (subst (λ v. done t x (Some v)) (sym on.tree_is) d) soft

    -- a last change went well or failed
    pub ended : (mid : LogTree M) → IsOn content size faults old t mid → (r : Result T MediumErr)
        → Changes size faults mid new r → OnOk r (IsKept content size new)
        → ((x : T) → r ≡ Ok x → done t x (Some (log_tree content size new))) → OnlySoft (applies t)
        → Does content size faults call old (answer_of r) new
    ended mid on r changes k d soft =
        elim r as (λ q. r ≡ q → OnOk q (IsKept content size new) → Changes size faults mid new q
        → Does content size faults call old (answer_of q) new) [
          | Ok x ↦ (λ e k c. did x k (c.limits ∙ on.limits) (c.size_is ∙ on.size_is) (c.cause.ok ∙ on.faults_are) (d x e)
              soft)
          | Err f ↦ (λ e k c. fell (fault_of f) (off_after old mid new t (fault_of f) on (off_of mid new f c)))
        ] refl k changes

  -- WIPES AND MOUNTS

  pub stays_after : (old new : LogTree M) (r : Result (Unit {0}) MediumErr) → Changes size faults old new r
      → OnOk r (IsKept content size new) → Stays content size faults (stands (answer_of r)) old new
  stays_after old new (Ok x) c k = record { limits = c.limits; size_is = c.size_is; kept = λ _. k }
  stays_after old new (Err Failed) c k = record {
    limits = c.limits;
    size_is = c.size_is;
    kept = λ up. absurd (let bad : false ≡ true = up in cc);
  }
  stays_after old new (Err Spent) c k = record {
    limits = c.limits;
    size_is = c.size_is;
    kept = λ up. absurd (let bad : false ≡ true = up in cc);
  }

  pub wiped : (old new : LogTree M) (r : Result (Unit {0}) MediumErr) (up : Bool) → Changes size faults old new r
      → OnOk r (IsKept content size new) → OnOk r (IsFresh (Some (log_tree content size new)))
      → Wipe (server_of content size faults up old) (answer_of r)
      (server_of content size faults (stands (answer_of r)) new)
  wiped old new (Ok x) up c k f = record {
    tree = subst IsFresh (sym (shows new k)) f;
    limits = c.limits;
    faults = c.cause.ok;
  }
  wiped old new (Err Failed) up c k f = record {
    tree = refl;
    limits = c.limits;
    faults = (c.cause.later, c.cause.failed refl);
  }
  wiped old new (Err Spent) up c k f = record { tree = refl; limits = c.limits; faults = c.cause.no_memory refl }

  -- a tree that was not touched
  pub still : (t : LogTree M) → IsKept content size t → IsOn content size faults t (log_tree content size t) t
  still t k = record { kept = k; tree_is = refl; limits = refl; size_is = refl; faults_are = refl }

  -- one part after another
  pub on_after : (old mid new : LogTree M) (t : Tree) → IsOn content size faults old t mid
      → IsOn content size faults mid (log_tree content size mid) new → IsOn content size faults old t new
  on_after old mid new t first second = record {
    kept = second.kept;
    tree_is = second.tree_is ∙ first.tree_is;
    limits = second.limits ∙ first.limits;
    size_is = second.size_is ∙ first.size_is;
    faults_are = second.faults_are ∙ first.faults_are;
  }
