use Rattle.std.proofs.Common.{◌≡◌, ◌∙◌, false, ap, sym, subst, length, Result, eq-eqb, arith}
use Rattle.std.specs.Prelude.{◌==◌}
use Rattle.std.proofs.lemmas.Result.{err_from_is_err_and}
use Rattle.xdr_core.specs.Grammar.{Cursor, Stop, Grammar, reads}
use Rattle.nfs2_types.specs.declared.results.NfsResult.{NfsResult}
use Rattle.nfs2_results.specs.Forms.{arm_form, result_form}
use Rattle.nfs2_results.specs.Reading.{GivesAt}
use Rattle.nfs2_results.proofs.ResultReads.{status_stops, status_refused, status_arm, has_status, arm_enough}
use Rattle.nfs2_results.proofs.ResultReads.{word_shorter}
use Rattle.nfs2_results.proofs.reading.result_at.Goals as goal

pub returns-in_err-status : goal.returns-in_err-status
returns-in_err-status c =
    let p = err_from_is_err_and c.from_residual.result c.from_residual.ensures.1 in
    let limit = length c.args.r.now.rest in
    rw (p.1, p.2)
    (ap (λ (g : Grammar NfsResult). reads g c.args.r.now) (has_status limit c.args.proc (sym c.is_bare.ensures
    ∙ c.if-is_bare.false))
    ∙ status_stops (arm_form limit c.args.proc) c.args.r.now _ c.in_err-status.ensures.read)

pub returns-then-status-ne0 : goal.returns-then-status-ne0
returns-then-status-ne0 c =
    let limit = length c.args.r.now.rest in
    let not_ok : (c.in_ok-status.status == 0) ≡ false = grind (arith, c.if-status-ne0.true) in
    ap (λ (g : Grammar NfsResult). reads g c.args.r.now) (has_status limit c.args.proc (sym c.is_bare.ensures
    ∙ c.if-is_bare.false))
    ∙ status_refused (arm_form limit c.args.proc) c.args.r.now c.in_ok-status.status c.word.new.self
    c.in_ok-status.ensures.read not_ok

pub returns : goal.returns
returns c =
    let limit = length c.args.r.now.rest in
    let behind = c.word.new.self in
    let shorter = word_shorter c.args.r.now c.in_ok-status.status behind c.in_ok-status.ensures.read in
    let same : reads (result_form limit c.args.proc) c.args.r.now ≡ reads
    (arm_form (length behind.rest) c.args.proc) behind
    = ap (λ (g : Grammar NfsResult). reads g c.args.r.now) (has_status limit c.args.proc (sym c.is_bare.ensures
    ∙ c.if-is_bare.false))
    ∙ status_arm (arm_form limit c.args.proc) c.args.r.now c.in_ok-status.status behind c.in_ok-status.ensures.read
    (eq-eqb c.in_ok-status.status 0 c.if-status-ne0.false)
    ∙ arm_enough limit (length behind.rest) c.args.proc behind shorter (omega arith) in
    subst (λ (read : Result (NfsResult × Cursor) Stop). GivesAt
    (λ (r : NfsResult). r) c.arm_at.result c.arm_at.new.r read) (sym same) c.arm_at.ensures
