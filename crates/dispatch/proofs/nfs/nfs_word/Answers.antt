use Rattle.std.proofs.Common.{◌∙◌, [], sym, ap, subst}
use Rattle.nfs2_types.specs.Call.{call_of}
use Rattle.nfs2_results.specs.Spelling.{HasSpelling}
use Rattle.abs_model.proofs.Law.{stays_valid}
use Rattle.dispatch.specs.Answer.{by_args}
use Rattle.dispatch.proofs.Results.{result_spelled}
use Rattle.dispatch.proofs.Calls.{stays_answers, performs_answers, written_if, if_ok_map}
use Rattle.dispatch.proofs.nfs.nfs_word.Goals as goal

pub accept-requires : goal.accept-requires
accept-requires g c =
    let p = c.in_ok-outcome-in-Ok.ensures.performs c.requires.can.array c.requires.can.stands in
    subst HasSpelling (sym p.result_is)
    (result_spelled c.args.limits.now c.requires.can.array c.requires.can.stands.valid c.args.cred.now c.args.time (call_of c.in-Ok.args))

pub returns-in-Err-clause-answers : goal.returns-in-Err-clause-answers
returns-in-Err-clause-answers g c =
    written_if _ c.refuse.result c.written.result c.written.ensures.ok c.written.ensures.err
    (if_ok_map _ _ c.refuse.result (λ word e. λ A sv.
    stays_answers (ap (by_args A c.args.limits.now c.args.time c.args.xid c.args.cred.now) c.in-Err.ensures.all ∙ ap (λ w. record { array = A; word = w; told = [] }) (sym e)) sv) c.refuse.ensures)

pub returns-in_ok-outcome-in-Ok-clause-answers : goal.returns-in_ok-outcome-in-Ok-clause-answers
returns-in_ok-outcome-in-Ok-clause-answers g c =
    written_if _ c.accept.result c.written-in-Ok.result c.written-in-Ok.ensures.ok c.written-in-Ok.ensures.err
    (if_ok_map _ _ c.accept.result (λ word e. λ A sv.
    performs_answers c.args.xid (call_of c.in-Ok.args) c.in_ok-outcome-in-Ok.outcome word
    (ap (by_args A c.args.limits.now c.args.time c.args.xid c.args.cred.now) c.in-Ok.ensures.all)
    (stays_valid c.args.limits.now A c.args.cred.now c.args.time
    (call_of c.in-Ok.args) c.requires.can.time c.in-Ok.ensures.fits sv.valid)
    (c.in_ok-outcome-in-Ok.ensures.performs A sv) e) c.accept.ensures)
