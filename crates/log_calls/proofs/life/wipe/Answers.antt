use Rattle.std.proofs.Common.{sym, subst}
use Rattle.server_trait.specs.Calls.{Wipe}
use Rattle.log_calls.specs.Answers.{stands}
use Rattle.log_calls.specs.State.{Stays, server_of}
use Rattle.log_calls.proofs.StateLaws.{stays_after, wiped}
use Rattle.log_calls.proofs.life.wipe.Goals as goal

pub returns-clause-wiped : goal.returns-clause-wiped
returns-clause-wiped g c = λ up.
    let content = g.M.Medium.content in
    let size = g.M.Medium.size in
    let faults = g.M.Medium.faults in
    let t = c.args.tree.now in
    let new = c.wipe.new.self in
    let e = c.wipe.ensures in
    subst (λ r. Wipe (server_of content size faults up t) r (server_of content size faults (stands r) new))
    (sym c.answered.ensures) (wiped content size faults t new c.wipe.result up e.changes e.kept e.fresh)

pub returns-clause-stays : goal.returns-clause-stays
returns-clause-stays g c =
    let content = g.M.Medium.content in
    let size = g.M.Medium.size in
    let faults = g.M.Medium.faults in
    let t = c.args.tree.now in
    let new = c.wipe.new.self in
    subst (λ r. Stays content size faults (stands r) t new) (sym c.answered.ensures)
    (stays_after content size faults t new c.wipe.result c.wipe.ensures.changes c.wipe.ensures.kept)
