-- From what a call's parts did to what its answer is.
use Rattle.std.proofs.Common.{◌≡◌, ◌≢◌, ◌≤◌, ℕ, Bool, true, false, cond, List, [], ◌++◌, Option, Result, Ok, Err, refl, sym, ◌∙◌, ap, subst, drop, Bor, arith}
use Rattle.std.specs.Prelude.{IfOk, OnOk, OnErr, ◌==◌}
use Rattle.std.proofs.lemmas.List.{append-nil}
use Rattle.std.proofs.lemmas.Bool.Decides.{nat_tests}
use Rattle.nfs2_types.specs.declared.NoMemory.{NoMemory}
use Rattle.nfs2_types.specs.declared.Limits.{Limits}
use Rattle.nfs2_types.specs.declared.Time.{Time}
use Rattle.nfs2_types.specs.declared.Cred.{Cred}
use Rattle.nfs2_types.specs.declared.Word.{Word}
use Rattle.nfs2_types.specs.declared.Word.TheVariants as words
use Rattle.nfs2_types.specs.declared.NfsResult.{NfsResult}
use Rattle.nfs2_types.specs.declared.args.Args.{Args}
use Rattle.nfs2_types.specs.declared.args.Sattr.{Sattr}
use Rattle.nfs2_types.specs.Call.{Call, call_of}
use Rattle.xdr_core.specs.Grammar.{Stop, reads_all}
use Rattle.rpc_core.specs.declared.CallHead.TheVariants as heads
use Rattle.rpc_core.specs.declared.Refusal.{Refusal}
use Rattle.rpc_core.specs.Call.{head_in, last_of, IsServed}
use Rattle.rpc_core.specs.Reply.{success_text}
use Rattle.nfs2_args.specs.Forms.{args_form}
use Rattle.nfs2_results.specs.Spelling.{result_text}
use Rattle.mount1_proto.specs.Calls.{MountCall}
use Rattle.mount1_proto.specs.Forms.{mount_form}
use Rattle.abs_model.specs.declared.Entry.{Entry}
use Rattle.abs_model.specs.Valid.{Valid}
use Rattle.abs_model.specs.Machine as machine
use Rattle.server_trait.specs.Tree.{Tree}
use Rattle.server_trait.specs.declared.ConfTable.{ConfTable}
use Rattle.server_trait.specs.declared.WrapErr.{WrapErr}
use Rattle.server_trait.specs.declared.WrapErr.TheVariants as wrap
use Rattle.conf_map.specs.Stands.{Stands, StandsValid}
use Rattle.conf_map.specs.Notice.{NoticedAll}
use Rattle.wrap_read.specs.Reads.{is_read_call}
use Rattle.dispatch.specs.Answer.{Answer, answer, stays, refused, by_args, mount_word, by_head}
use Rattle.conf_map.specs.Performs.{Performs}
use Rattle.conf_map.specs.Tallied.{Tallied}
use Rattle.dispatch.specs.Steps.{Answers}
use Rattle.dispatch.proofs.Results.{read_array, read_told}

-- THE ANSWER BY THE HEADER

module _ (A : List Entry) (limits : Limits) (t : Time) (bytes : List ℕ) where
  pub answer_silent : head_in bytes ≡ heads.Silent → answer A limits t bytes ≡ stays A words.Silent
  unfolding answer
  answer_silent is = ap (by_head A limits t bytes) is

  pub answer_refused : (xid : ℕ) (why : Refusal) → head_in bytes ≡ heads.Refuse xid why →
      answer A limits t bytes ≡ refused A xid why
  unfolding answer
  answer_refused xid why is = ap (by_head A limits t bytes) is

  pub answer_nfs : (xid prog vers proc : ℕ) (cred : Cred) (args_at : ℕ) (r : Result Call Stop) →
      head_in bytes ≡ heads.Call xid prog vers proc cred args_at → prog ≡ 100003 →
      reads_all (args_form proc) (drop args_at bytes) ≡ r →
      answer A limits t bytes ≡ by_args A limits t xid cred r
  unfolding answer
  answer_nfs xid prog vers proc cred args_at r is nfs read =
      let same : (prog == 100003) ≡ true = grind (arith, nat_tests) in
      ap (by_head A limits t bytes) is
      ∙ ap (λ b. cond b (by_args A limits t xid cred (reads_all (args_form proc) (drop args_at bytes)))
      (stays A (mount_word A xid (reads_all (mount_form proc) (drop args_at bytes))))) same
      ∙ ap (by_args A limits t xid cred) read

  pub answer_mount : (xid prog vers proc : ℕ) (cred : Cred) (args_at : ℕ) (r : Result MountCall Stop) →
      head_in bytes ≡ heads.Call xid prog vers proc cred args_at → prog ≢ 100003 →
      reads_all (mount_form proc) (drop args_at bytes) ≡ r →
      answer A limits t bytes ≡ stays A (mount_word A xid r)
  unfolding answer
  answer_mount xid prog vers proc cred args_at r is other read =
      let differ : (prog == 100003) ≡ false = grind (arith, nat_tests) in
      ap (by_head A limits t bytes) is
      ∙ ap (λ b. cond b (by_args A limits t xid cred (reads_all (args_form proc) (drop args_at bytes)))
      (stays A (mount_word A xid (reads_all (mount_form proc) (drop args_at bytes))))) differ
      ∙ ap (λ (x : Result MountCall Stop). stays A (mount_word A xid x)) read

-- the procedures of a call of NFS, and of one of MOUNT
pub nfs_procedure : (prog vers proc : ℕ) → IsServed prog vers proc → prog ≡ 100003 → proc ≤ 17
nfs_procedure prog vers proc served is = subst (λ (p : ℕ). proc ≤ last_of p) is served.procedure

pub mount_procedure : (prog vers proc : ℕ) → IsServed prog vers proc → prog ≢ 100003 → proc ≤ 5
mount_procedure prog vers proc served other =
    let differ : (prog == 100003) ≡ false = grind (arith, nat_tests) in
    subst (λ (b : Bool). proc ≤ cond b 17 5) differ served.procedure

-- ANSWERS

-- nothing changed
pub stays_answers : {M : Type 0} {told_of : M → List ℕ} {noticed : M → List Entry → ℕ → M →
    Type 0} {limits : Limits} {A : List Entry} {a : Answer} {w : Word} {tree : Option Tree} {table : ConfTable} {m : M} →
    a ≡ stays A w → StandsValid limits tree table A → Answers told_of noticed limits A a w tree table m m
stays_answers {M} {told_of} {noticed} {limits} {A} {a} {w} {tree} {table} {m} is sv = record {
  word_is = ap (λ (a : Answer). a.word) (sym is);
  stands = subst (λ (a : Answer). Stands tree table a.array) (sym is) sv.stands;
  valid = subst (λ (a : Answer). Valid limits a.array) (sym is) sv.valid;
  tallied = subst (λ (a : Answer). Tallied table a.array) (sym is) sv.tallied;
  told = sym (append-nil (told_of m)) ∙ ap (λ (a : Answer). told_of m ++ a.told) (sym is);
  notices = subst (λ (a : Answer). NoticedAll noticed A m a.told m) (sym is) refl;
}

-- what is given by one name of an answer is given by the other
pub same_answers : {M : Type 0} {told_of : M → List ℕ} {noticed : M → List Entry → ℕ → M →
    Type 0} {limits : Limits} {A : List Entry} {a b : Answer} {w : Word} {tree : Option Tree} {table : ConfTable} {old new : M} →
    a ≡ b → Answers told_of noticed limits A b w tree table old new →
    Answers told_of noticed limits A a w tree table old new
same_answers {M} {told_of} {noticed} {limits} {A} {a} {b} {w} {tree} {table} {old} {new} is h = subst
    (λ (x : Answer). Answers told_of noticed limits A x w tree table old new) (sym is) h

-- a procedure was performed, and its result written
pub performs_answers : {M : Type 0} {told_of : M → List ℕ} {noticed : M → List Entry → ℕ → M →
    Type 0} {limits : Limits} {cred : Cred} {t : Time} {A : List Entry} {a : Answer}
    {tree : Option Tree} {table : ConfTable} {old new : M} (xid : ℕ) (call : Call) (r : NfsResult)
    (w : Word) → a ≡ by_args A limits t xid cred (Ok call) →
    Valid limits (machine.array_after A limits cred t call) →
    Performs told_of noticed limits cred t call A r tree table old new →
    w ≡ words.Reply (success_text xid ++ result_text r) →
    Answers told_of noticed limits A a w tree table old new
performs_answers {M} {told_of} {noticed} {limits} {cred} {t} {A} {a} {tree} {table} {old} {new} xid call r w is valid p written = record {
  word_is = written ∙ ap (λ (x : NfsResult). words.Reply (success_text xid ++ result_text x)) p.result_is
      ∙ ap (λ (a : Answer). a.word) (sym is);
  stands = subst (λ (a : Answer). Stands tree table a.array) (sym is) p.stands;
  valid = subst (λ (a : Answer). Valid limits a.array) (sym is) valid;
  tallied = subst (λ (a : Answer). Tallied table a.array) (sym is) p.tallied;
  told = p.told ∙ ap (λ (a : Answer). told_of old ++ a.told) (sym is);
  notices = subst (λ (a : Answer). NoticedAll noticed A old a.told new) (sym is) p.notices;
}

-- what holds of the word that was written holds of the answer
pub written_if : (P : Word → Type 0) (r : Result Word NoMemory) (w : Result Word WrapErr) →
    IfOk r (λ x. w ≡ Ok x) → OnErr r (w ≡ Err wrap.NoMemory) → IfOk r P → IfOk w P
written_if P (Ok x) w ok err p = subst (λ (w : Result Word WrapErr). IfOk w P) (sym ok) p
written_if P (Err e) w ok err p = subst (λ (w : Result Word WrapErr). IfOk w P) (sym err) tt

pub if_ok_map : {X E : Type 0} (P Q : X → Type 0) (r : Result X E) → ((x : X) → P x → Q x) → IfOk r P →
    IfOk r Q
if_ok_map P Q (Ok x) f h = f x h
if_ok_map P Q (Err e) f h = tt

-- PROCEDURES

-- a procedure that only reads
pub read_performs : (M : Type 0) (told_of : M → List ℕ) (noticed : M → List Entry → ℕ → M → Type 0)
    (limits : Limits) (cred : Cred) (t : Time) (call : Call) (s0 tree : Option Tree) (table : ConfTable)
    (m : M)
    (r : Result NfsResult WrapErr) → is_read_call call ≡ true →
    IfOk r (λ x. (A : List Entry) (cred : Cred) (t : Time) → StandsValid limits s0 table A →
    x ≡ machine.result_of A limits cred t call) →
    OnOk r (tree ≡ s0) →
    IfOk r (λ x. (A : List Entry) → StandsValid limits s0 table A →
    Performs told_of noticed limits cred t call A x tree table m m)
read_performs M told_of noticed limits cred t call s0 tree table m (Ok x) kind answers same = λ A sv.
    let stays : machine.array_after A limits cred t call ≡ A = read_array A limits cred t call kind in
    let silent : machine.told A limits cred t call ≡ [] = read_told A limits cred t call kind in
    record {
      result_is = answers A cred t sv;
      stands = subst (Stands tree table) (sym stays) (subst (λ s. Stands s table A) (sym same) sv.stands);
      tallied = subst (Tallied table) (sym stays) sv.tallied;
      told = sym (append-nil (told_of m)) ∙ ap (λ l. told_of m ++ l) (sym silent);
      notices = subst (λ l. NoticedAll noticed A m l m) (sym silent) refl;
    }
read_performs M told_of noticed limits cred t call s0 tree table m (Err e) kind answers same = tt

-- what neither writes nor goes to the procedures on names changes nothing
pub is_read : (a : Args) → ((node : List ℕ) (sattr : Sattr) → a ≡ Args.SetAttr node sattr → ⊥) →
    ((file : List ℕ) (offset : ℕ) (bytes : Bor (List ℕ)) → a ≡ Args.Write file offset bytes → ⊥) →
    ((dir : List ℕ) (name : Bor (List ℕ)) (sattr : Sattr) → a ≡ Args.Create dir name sattr → ⊥) →
    ((dir : List ℕ) (name : Bor (List ℕ)) → a ≡ Args.Remove dir name → ⊥) →
    ((from : List ℕ) (name : Bor (List ℕ)) (to : List ℕ) (to_name : Bor (List ℕ)) →
    a ≡ Args.Rename from name to to_name → ⊥) →
    ((node dir : List ℕ) (name : Bor (List ℕ)) → a ≡ Args.Link node dir name → ⊥) →
    ((dir : List ℕ) (name text : Bor (List ℕ)) (sattr : Sattr) → a ≡ Args.Symlink dir name text sattr → ⊥) →
    ((dir : List ℕ) (name : Bor (List ℕ)) (sattr : Sattr) → a ≡ Args.MkDir dir name sattr → ⊥) →
    ((dir : List ℕ) (name : Bor (List ℕ)) → a ≡ Args.RmDir dir name → ⊥) → is_read_call (call_of a) ≡ true
is_read Args.Null set write create remove rename link symlink make_dir remove_dir = refl
is_read Args.Root set write create remove rename link symlink make_dir remove_dir = refl
is_read Args.WriteCache set write create remove rename link symlink make_dir remove_dir = refl
is_read (Args.GetAttr node) set write create remove rename link symlink make_dir remove_dir = refl
is_read (Args.SetAttr node sattr) set write create remove rename link symlink make_dir remove_dir = absurd
    (set node sattr refl)
is_read (Args.Lookup dir name) set write create remove rename link symlink make_dir remove_dir = refl
is_read (Args.ReadLink node) set write create remove rename link symlink make_dir remove_dir = refl
is_read (Args.Read node offset count) set write create remove rename link symlink make_dir remove_dir = refl
is_read (Args.Write node offset bytes) set write create remove rename link symlink make_dir remove_dir =
    absurd (write node offset bytes refl)
is_read (Args.Create dir name sattr) set write create remove rename link symlink make_dir remove_dir = absurd
    (create dir name sattr refl)
is_read (Args.Remove dir name) set write create remove rename link symlink make_dir remove_dir = absurd
    (remove dir name refl)
is_read (Args.Rename from name to to_name) set write create remove rename link symlink make_dir remove_dir =
    absurd (rename from name to to_name refl)
is_read (Args.Link node dir name) set write create remove rename link symlink make_dir remove_dir = absurd
    (link node dir name refl)
is_read (Args.Symlink dir name text sattr) set write create remove rename link symlink make_dir remove_dir =
    absurd (symlink dir name text sattr refl)
is_read (Args.MkDir dir name sattr) set write create remove rename link symlink make_dir remove_dir = absurd
    (make_dir dir name sattr refl)
is_read (Args.RmDir dir name) set write create remove rename link symlink make_dir remove_dir = absurd
    (remove_dir dir name refl)
is_read (Args.ReadDir dir cookie count) set write create remove rename link symlink make_dir remove_dir = refl
is_read (Args.StatFs node) set write create remove rename link symlink make_dir remove_dir = refl
