-- the step of the machine, by whether the call is refused, only reads, or changes the array
use Rattle.std.proofs.Common.{◌≡◌, ℕ, List, [], true, refl, sym, ◌∙◌, ap, subst, Option, Some, None}
use Rattle.nfs2_types.specs.declared.Limits.{Limits}
use Rattle.nfs2_types.specs.declared.Cred.{Cred}
use Rattle.nfs2_types.specs.declared.Time.{Time}
use Rattle.nfs2_types.specs.declared.Stat.{Stat}
use Rattle.nfs2_types.specs.declared.NfsResult.{NfsResult}
use Rattle.nfs2_types.specs.declared.NfsResult.TheVariants as Result
use Rattle.nfs2_types.specs.Call.{Call, call_fits, null, root, write_cache, get_attr, set_attr, lookup, read_link, read, write, create, remove, rename, link, symlink, make_dir, remove_dir, read_dir, stat_fs}
use Rattle.std.specs.Prelude.{is_some, if◌then◌else◌}
use Rattle.abs_model.specs.declared.Entry.{Entry}
use Rattle.abs_model.specs.declared.Change.{Change}
use Rattle.abs_model.specs.Array.{changed}
use Rattle.abs_model.specs.Machine.{first_of, refusals, changes, effect, answer, array_after, result_of}
use Rattle.nfs2_types.specs.Times.{is_time}
use Rattle.abs_model.specs.Bounds.{HasBounds}
use Rattle.abs_plain.proofs.Ready.{IsAllowed, place_bounds}
use Rattle.abs_plain.specs.Steps.{read_answer, place_of, write_answer}

-- this result, and this array after the call
pub record Steps (limits : Limits) (A : List Entry) (cred : Cred) (t : Time) (call : Call) (r : NfsResult) (B : List Entry) : Type 0 where
  pub answers : r ≡ result_of A limits cred t call
  pub becomes : B ≡ array_after A limits cred t call

pub refused : (limits : Limits) (A : List Entry) (cred : Cred) (t : Time) (call : Call) (s : Stat) → first_of (refusals A limits call) ≡ Some s →
    Steps limits A cred t call (Result.Refused s) A
unfolding result_of array_after effect
refused limits A cred t call s e = record {
  answers = sym (ap (λ (o : Option Stat). elim o as (λ _. NfsResult) [ Some s ↦ Result.Refused s | None ↦ answer A (array_after A limits cred t call) limits call ]) e);
  becomes = sym (ap (λ (o : Option Stat). changed (if is_some o then [] else changes A cred t call) A) e);
}

allowed : (limits : Limits) (A : List Entry) (cred : Cred) (t : Time) (call : Call) → first_of (refusals A limits call) ≡ None →
    Steps limits A cred t call (answer A (changed (changes A cred t call) A) limits call) (changed (changes A cred t call) A)
unfolding result_of array_after effect
allowed limits A cred t call e =
    let after : changed (changes A cred t call) A ≡ array_after A limits cred t call = sym (ap (λ (o : Option Stat). changed (if is_some o then [] else changes A cred t call) A) e) in
    record {
      answers = ap (λ (B : List Entry). answer A B limits call) after ∙
          sym (ap (λ (o : Option Stat). elim o as (λ _. NfsResult) [ Some s ↦ Result.Refused s | None ↦ answer A (array_after A limits cred t call) limits call ]) e);
      becomes = after;
    }

reads_only : (limits : Limits) (A : List Entry) (cred : Cred) (t : Time) (call : Call) (r : NfsResult) → read_answer A limits call ≡ Some r →
    (changes A cred t call ≡ []) × (answer A A limits call ≡ r)
reads_only limits A cred t null r e = (refl, cc)
reads_only limits A cred t root r e = (refl, cc)
reads_only limits A cred t write_cache r e = (refl, cc)
reads_only limits A cred t (get_attr node) r e = (refl, cc)
reads_only limits A cred t (set_attr node sattr) r e = cc
reads_only limits A cred t (lookup dir name) r e = (refl, cc)
reads_only limits A cred t (read_link node) r e = (refl, cc)
reads_only limits A cred t (read file offset count) r e = (refl, cc)
reads_only limits A cred t (write file offset bytes) r e = cc
reads_only limits A cred t (create dir name sattr) r e = cc
reads_only limits A cred t (remove dir name) r e = cc
reads_only limits A cred t (rename from name to to_name) r e = cc
reads_only limits A cred t (link node dir name) r e = cc
reads_only limits A cred t (symlink dir name text sattr) r e = cc
reads_only limits A cred t (make_dir dir name sattr) r e = cc
reads_only limits A cred t (remove_dir dir name) r e = cc
reads_only limits A cred t (read_dir dir cookie count) r e = (refl, cc)
reads_only limits A cred t (stat_fs node) r e = (refl, cc)

writes_here : (limits : Limits) (A B : List Entry) (call : Call) → read_answer A limits call ≡ None → write_answer B (place_of A call) call ≡ answer A B limits call
writes_here limits A B null e = cc
writes_here limits A B root e = cc
writes_here limits A B write_cache e = cc
writes_here limits A B (get_attr node) e = cc
writes_here limits A B (set_attr node sattr) e = refl
writes_here limits A B (lookup dir name) e = cc
writes_here limits A B (read_link node) e = cc
writes_here limits A B (read file offset count) e = cc
writes_here limits A B (write file offset bytes) e = refl
writes_here limits A B (create dir name sattr) e = refl
writes_here limits A B (remove dir name) e = refl
writes_here limits A B (rename from name to to_name) e = refl
writes_here limits A B (link node dir name) e = refl
writes_here limits A B (symlink dir name text sattr) e = refl
writes_here limits A B (make_dir dir name sattr) e = refl
writes_here limits A B (remove_dir dir name) e = refl
writes_here limits A B (read_dir dir cookie count) e = cc
writes_here limits A B (stat_fs node) e = cc

pub reading : (limits : Limits) (A : List Entry) (cred : Cred) (t : Time) (call : Call) (r : NfsResult) → first_of (refusals A limits call) ≡ None →
    read_answer A limits call ≡ Some r → Steps limits A cred t call r A
reading limits A cred t call r e k =
    let step = allowed limits A cred t call e in
    let parts = reads_only limits A cred t call r k in
    let same : A ≡ changed (changes A cred t call) A = sym (ap (λ (cs : List Change). changed cs A) parts.0) in
    record { answers = sym parts.1 ∙ (ap (λ (B : List Entry). answer A B limits call) same ∙ step.answers); becomes = same ∙ step.becomes }

pub writing : (limits : Limits) (A : List Entry) (cred : Cred) (t : Time) (call : Call) → first_of (refusals A limits call) ≡ None → read_answer A limits call ≡ None →
    Steps limits A cred t call (write_answer (changed (changes A cred t call) A) (place_of A call) call) (changed (changes A cred t call) A)
writing limits A cred t call e k =
    let step = allowed limits A cred t call e in
    record { answers = writes_here limits A (changed (changes A cred t call) A) call k ∙ step.answers; becomes = step.becomes }

-- a list of entries that is read twice has one first refusal
pub same_refusal : (limits : Limits) (A E : List Entry) (call : Call) (o p : Option Stat) → E ≡ A → o ≡ first_of (refusals E limits call) → o ≡ p →
    first_of (refusals A limits call) ≡ p
same_refusal limits A E call o p same tested is = ap (λ (x : List Entry). first_of (refusals x limits call)) (sym same) ∙ (sym tested ∙ is)

-- the same for what is read of the list before a call
pub same_answer : (limits : Limits) (A E : List Entry) (call : Call) (o p : Option NfsResult) → E ≡ A → o ≡ read_answer E limits call → o ≡ p → read_answer A limits call ≡ p
same_answer limits A E call o p same tested is = ap (λ (x : List Entry). read_answer x limits call) (sym same) ∙ (sym tested ∙ is)

-- what stands after a call that changes the array, at the place of its answer
pub record Wrote (limits : Limits) (A : List Entry) (cred : Cred) (t : Time) (call : Call) (B : List Entry) (i : ℕ) : Type 0 where
  pub bounds : HasBounds B i
  pub answers : write_answer B i call ≡ result_of A limits cred t call
  pub becomes : B ≡ array_after A limits cred t call

pub wrote : (limits : Limits) (A E P B : List Entry) (cred : Cred) (t : Time) (call : Call) (cs : List Change) (i : ℕ) → is_time t ≡ true → call_fits call ≡ true →
    IsAllowed limits A call → first_of (refusals A limits call) ≡ None → read_answer A limits call ≡ None →
    E ≡ A → cs ≡ changes E cred t call → B ≡ changed cs A → P ≡ A → i ≡ place_of P call → Wrote limits A cred t call B i
wrote limits A E P B cred t call cs i moment fits ok none writes same_e are put same_p at =
    let C = changed (changes A cred t call) A in
    let step = writing limits A cred t call none writes in
    let becomes : C ≡ B = sym (put ∙ ap (λ (x : List Change). changed x A) (are ∙ ap (λ (x : List Entry). changes x cred t call) same_e)) in
    let there : place_of A call ≡ i = sym (at ∙ ap (λ (x : List Entry). place_of x call) same_p) in
    subst (λ (x : List Entry). Wrote limits A cred t call x i) becomes
    (subst (λ (x : ℕ). Wrote limits A cred t call C x) there
    (record { bounds = place_bounds limits A cred t call moment fits ok; answers = step.answers; becomes = step.becomes }))
