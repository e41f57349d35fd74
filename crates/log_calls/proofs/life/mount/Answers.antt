use Rattle.std.proofs.Common.{sym, subst}
use Rattle.std.specs.Prelude.{IfErr}
use Rattle.server_trait.specs.Step.{Counts, IsBroken}
use Rattle.log_changes.specs.Kept.{log_medium}
use Rattle.log_calls.specs.Answers.{stands}
use Rattle.log_calls.specs.State.{Stays}
use Rattle.log_calls.proofs.StateLaws.{answer_broken, counts_answer, stays_after}
use Rattle.log_calls.proofs.life.mount.Goals as goal

pub returns-clause-stays : goal.returns-clause-stays
returns-clause-stays g c =
    let content = g.M.Medium.content in
    let size = g.M.Medium.size in
    let faults = g.M.Medium.faults in
    let t = c.args.tree.now in
    let new = c.read_log.new.tree in
    subst (λ r. Stays content size faults (stands r) t new) (sym c.answered.ensures)
    (stays_after content size faults t new c.read_log.result c.read_log.ensures.changes c.read_log.ensures.kept)

pub returns-clause-faults : goal.returns-clause-faults
returns-clause-faults g c =
    let before = g.M.Medium.faults (log_medium c.args.tree.now) in
    let now = g.M.Medium.faults (log_medium c.read_log.new.tree) in
    subst (λ r. Counts before now r) (sym c.answered.ensures)
    (counts_answer before now c.read_log.result c.read_log.ensures.changes.cause)

pub returns-clause-err : goal.returns-clause-err
returns-clause-err g c = subst (λ r. IfErr r IsBroken) (sym c.answered.ensures) (answer_broken c.read_log.result)
