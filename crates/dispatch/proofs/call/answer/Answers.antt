use Rattle.std.proofs.Common.{◌≡◌, ◌∙◌, [], sym, ap}
use Rattle.std.proofs.lemmas.List.{take_rest}
use Rattle.xdr_core.specs.Grammar.{reads_all}
use Rattle.rpc_core.specs.declared.CallHead.TheVariants as heads
use Rattle.rpc_core.specs.Call.{head_in}
use Rattle.nfs2_args.specs.Forms.{args_form}
use Rattle.mount1_proto.specs.Forms.{mount_form}
use Rattle.conf_map.proofs.Shows.{stand_valid}
use Rattle.dispatch.proofs.Calls.{answer_silent, answer_refused, answer_nfs, answer_mount, nfs_procedure, mount_procedure, stays_answers, same_answers, written_if, if_ok_map}
use Rattle.dispatch.proofs.call.answer.Goals as goal

pub returns-in-Silent-clause-answers : goal.returns-in-Silent-clause-answers
returns-in-Silent-clause-answers g c =
    let is : head_in c.args.call.now ≡ heads.Silent = sym c.read_call.ensures.read ∙ c.in-Silent.is in
    λ A sv. stays_answers (answer_silent A c.args.limits.now c.args.time c.args.call.now is) sv

pub returns-in-Refuse-clause-answers : goal.returns-in-Refuse-clause-answers
returns-in-Refuse-clause-answers g c =
    let is : head_in c.args.call.now ≡ heads.Refuse c.in-Refuse.xid c.in-Refuse.why =
    sym c.read_call.ensures.read ∙ c.in-Refuse.is in
    written_if _ c.refuse.result c.written.result c.written.ensures.ok c.written.ensures.err
    (if_ok_map _ _ c.refuse.result
    (λ word e. λ A sv. stays_answers
    (answer_refused A c.args.limits.now c.args.time c.args.call.now c.in-Refuse.xid c.in-Refuse.why is
    ∙ ap (λ w. record { array = A; word = w; told = [] }) (sym e)) sv) c.refuse.ensures)

pub nfs_word-requires-clause-proc : goal.nfs_word-requires-clause-proc
nfs_word-requires-clause-proc g c =
    nfs_procedure c.in-Call.prog c.in-Call.vers c.in-Call.proc c.in-Call.ensures.served c.if-prog-eq-NFS.true

pub returns-then-prog-eq-NFS-clause-answers : goal.returns-then-prog-eq-NFS-clause-answers
returns-then-prog-eq-NFS-clause-answers g c =
    let is : head_in c.args.call.now
    ≡ heads.Call c.in-Call.xid c.in-Call.prog c.in-Call.vers c.in-Call.proc c.in-Call.cred c.in-Call.args_at = sym c.read_call.ensures.read ∙ c.in-Call.is in
    if_ok_map _ _ c.nfs_word.result (λ word h. λ A sv.
    same_answers (answer_nfs A c.args.limits.now c.args.time c.args.call.now c.in-Call.xid c.in-Call.prog c.in-Call.vers c.in-Call.proc c.in-Call.cred c.in-Call.args_at _ is c.if-prog-eq-NFS.true
    (ap (reads_all (args_form c.in-Call.proc)) (sym (take_rest c.args.call.now c.in-Call.args_at))))
    (h A sv)) c.nfs_word.ensures.answers

pub mount_word-requires-clause-proc : goal.mount_word-requires-clause-proc
mount_word-requires-clause-proc g c =
    mount_procedure c.in-Call.prog c.in-Call.vers c.in-Call.proc c.in-Call.ensures.served c.if-prog-eq-NFS.false

pub mount_word-requires-clause-stands : goal.mount_word-requires-clause-stands
mount_word-requires-clause-stands g c =
    (_, c.requires.stands.0, stand_valid _ _ _ _ c.requires.within c.requires.stands.1)

pub returns-else-prog-eq-NFS-clause-answers : goal.returns-else-prog-eq-NFS-clause-answers
returns-else-prog-eq-NFS-clause-answers g c =
    let is : head_in c.args.call.now
    ≡ heads.Call c.in-Call.xid c.in-Call.prog c.in-Call.vers c.in-Call.proc c.in-Call.cred c.in-Call.args_at = sym c.read_call.ensures.read ∙ c.in-Call.is in
    written_if _ c.mount_word.result c.written-else-prog-eq-NFS.result c.written-else-prog-eq-NFS.ensures.ok c.written-else-prog-eq-NFS.ensures.err
    (if_ok_map _ _ c.mount_word.result (λ word e. λ A sv.
    stays_answers (answer_mount A c.args.limits.now c.args.time c.args.call.now c.in-Call.xid c.in-Call.prog c.in-Call.vers c.in-Call.proc c.in-Call.cred c.in-Call.args_at _ is c.if-prog-eq-NFS.false
    (ap (reads_all (mount_form c.in-Call.proc)) (sym (take_rest c.args.call.now c.in-Call.args_at)))
    ∙ ap (λ w. record { array = A; word = w; told = [] })
    (sym (e _ A (stand_valid _ _ _ _ c.requires.within sv)))) sv) c.mount_word.ensures)

pub nfs_word-requires-clause-can : goal.nfs_word-requires-clause-can
nfs_word-requires-clause-can g c = record {
  array = c.requires.stands.0;
  stands = c.requires.stands.1;
  within = c.requires.within;
  room = c.requires.room;
  time = c.requires.time;
}
