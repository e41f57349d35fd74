-- The answer by reading a message is the answer by what it is spelled of.
use Rattle.std.proofs.Common.{◌≡◌, ◌≢◌, ℕ, true, false, cond, List, length, drop, Result, Ok, Err, refl, ◌∙◌, ap, subst, arith}
use Rattle.std.specs.Prelude.{◌==◌, nat_le}
use Rattle.std.proofs.lemmas.Bool.Decides.{nat_tests}
use Rattle.std.proofs.Math.Seq.{drop-append_seam}
use Rattle.nfs2_types.specs.declared.Limits.{Limits}
use Rattle.nfs2_types.specs.declared.Time.{Time}
use Rattle.nfs2_types.specs.declared.Cred.{Cred}
use Rattle.nfs2_types.specs.Call.{Call}
use Rattle.xdr_core.specs.Items.{IsBytes}
use Rattle.xdr_core.specs.Grammar.{Grammar, Stop, reads_all}
use Rattle.xdr_core.proofs.ItemLaws.{IsBytes-drop}
use Rattle.xdr_core.proofs.Formats.{whole_again, is_reading}
use Rattle.rpc_core.specs.declared.CallHead.{CallHead}
use Rattle.rpc_core.specs.declared.CallHead.TheVariants as heads
use Rattle.rpc_core.specs.Call.{Header, HasHeader, IsHead, head_in, verdict, first_failed, checks, judged}
use Rattle.rpc_core.proofs.Heads.{is_head}
use Rattle.nfs2_args.specs.Forms.{args_form}
use Rattle.mount1_proto.specs.Calls.{MountCall}
use Rattle.mount1_proto.specs.Forms.{mount_form}
use Rattle.abs_model.specs.declared.Entry.{Entry}
use Rattle.dispatch.specs.Answer.{answer, stays, by_args, mount_word}
use Rattle.dispatch.specs.Spelled.{CallsNfs, CallsMount, IsNoCall, SpellNone, IsAnswer}
use Rattle.dispatch.proofs.Calls.{answer_silent, answer_refused, answer_nfs, answer_mount}

-- what is no call has no answer
no_call : (h : Header) (at : ℕ) → h.kind ≢ 0 → verdict h at ≡ heads.Silent
unfolding verdict
no_call h at other =
    let differ : (h.kind == 0) ≡ false = grind (arith, nat_tests) in
    ap (λ b. cond b (judged h at (first_failed (checks h))) heads.Silent) differ

-- a call of NFS passes each check
nfs_call : (h : Header) (at : ℕ) (caller : Cred) → CallsNfs h caller →
    verdict h at ≡ heads.Call h.xid 100003 2 h.proc caller at
unfolding verdict
nfs_call h at caller is =
    let few : nat_le h.proc 17 ≡ true = (let le = is.procedure in grind (arith, nat_tests)) in
    rw (is.kind, is.rpcvers, is.program, is.version, few, is.cred) refl

-- and so does a call of MOUNT
mount_call : (h : Header) (at : ℕ) (caller : Cred) → CallsMount h caller →
    verdict h at ≡ heads.Call h.xid 100005 1 h.proc caller at
unfolding verdict
mount_call h at caller is =
    let few : nat_le h.proc 5 ≡ true = (let le = is.procedure in grind (arith, nat_tests)) in
    rw (is.kind, is.rpcvers, is.program, is.version, few, is.cred) refl

-- the bytes behind the header
args_of : (bytes : List ℕ) (front : HasHeader bytes) → drop (length front.text) bytes ≡ front.args
args_of bytes front = ap (drop (length front.text)) front.whole ∙ drop-append_seam front.text front.args

-- reading all of the bytes fails where nothing is spelled
none_read : {C : Type 0} (form : Grammar C) (bytes : List ℕ) → IsBytes bytes → SpellNone form bytes →
    (r : Result C Stop) → reads_all form bytes ≡ r → (stop : Stop) × (reads_all form bytes ≡ Err stop)
none_read {C} form bytes fits none (Ok call) e = absurd
    (none call ((is_reading (λ (c : C). c) form bytes (Ok call) fits e).found))
none_read form bytes fits none (Err stop) e = (stop, e)

module _ (A : List Entry) (limits : Limits) (t : Time) (bytes : List ℕ) (fits : IsBytes bytes) where
  abbrev head : IsHead bytes (head_in bytes)
  head = is_head bytes (head_in bytes) fits refl

  no_head : IsNoCall bytes → (h : CallHead) → head_in bytes ≡ h → head_in bytes ≡ heads.Silent
  no_head none heads.Silent e = e
  no_head none (heads.Refuse xid why) e = let front = head.found (λ s. cc) in head.told front
      ∙ no_call front.says (length front.text) (none front)
  no_head none (heads.Call xid prog vers proc cred args_at) e = let front = head.found (λ s. cc) in
      head.told front ∙ no_call front.says (length front.text) (none front)

  module _ (front : HasHeader bytes) where
    by_nfs : (caller : Cred) → CallsNfs front.says caller → (r : Result Call Stop) →
        reads_all (args_form front.says.proc) front.args ≡ r →
        answer A limits t bytes ≡ by_args A limits t front.says.xid caller r
    by_nfs caller is r e =
        answer_nfs A limits t bytes front.says.xid 100003 2 front.says.proc caller (length front.text) r
        (head.told front ∙ nfs_call front.says (length front.text) caller is) refl
        (ap (reads_all (args_form front.says.proc)) (args_of bytes front) ∙ e)

    by_mount : (caller : Cred) → CallsMount front.says caller → (r : Result MountCall Stop) →
        reads_all (mount_form front.says.proc) front.args ≡ r →
        answer A limits t bytes ≡ stays A (mount_word A front.says.xid r)
    by_mount caller is r e =
        answer_mount A limits t bytes front.says.xid 100005 1 front.says.proc caller (length front.text) r
        (head.told front ∙ mount_call front.says (length front.text) caller is) (omega arith)
        (ap (reads_all (mount_form front.says.proc)) (args_of bytes front) ∙ e)

    none_of : {C : Type 0} (form : Grammar C) → SpellNone form front.args →
        (stop : Stop) × (reads_all form front.args ≡ Err stop)
    none_of form none =
        let fit : IsBytes front.args = subst IsBytes (args_of bytes front)
        (IsBytes-drop (length front.text) bytes fits) in
        none_read form front.args fit none (reads_all form front.args) refl

  pub spelled : IsAnswer A limits t bytes (answer A limits t bytes)
  spelled = record {
    silent = λ none. answer_silent A limits t bytes (no_head none (head_in bytes) refl);
    refused_head = λ front xid why e. answer_refused A limits t bytes xid why (head.told front ∙ e);
    performed = λ front caller is call s. by_nfs front caller is (Ok call)
        (whole_again (args_form front.says.proc) call front.args s);
    garbage = λ front caller is none. let e = none_of front (args_form front.says.proc) none in
        by_nfs front caller is (Err e.0) e.1;
    mounted = λ front caller is call s. by_mount front caller is (Ok call)
        (whole_again (mount_form front.says.proc) call front.args s);
    garbage_mount = λ front caller is none. let e = none_of front (mount_form front.says.proc) none in
        by_mount front caller is (Err e.0) e.1;
  }
