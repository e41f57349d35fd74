use Rattle.std.proofs.Common.{sym, subst}
use Rattle.server_trait.specs.Calls.{Wipe}
use Rattle.log_calls.specs.State.{server_of}
use Rattle.log_server.specs.Served.{state_of}
use Rattle.log_server.proofs.ReadyLaws.{again, seen}
use Rattle.log_server.proofs.server.LogServerFileServer.wipe.Goals as goal

pub wipe-answer-requires : goal.wipe-answer-requires
wipe-answer-requires g c = c.self.invariant.large

pub invariant_of-self : goal.invariant_of-self
invariant_of-self g c =
    again g.M.Medium.content g.M.Medium.size g.M.Medium.faults _ c.has_tree-self-inside.result c.self.inside.tree
    c.wipe-answer.new.tree c.has_tree-self-inside.ensures c.wipe-answer.ensures.stays c.self.invariant.large

pub returns : goal.returns
returns g c =
    let content = g.M.Medium.content in
    let size = g.M.Medium.size in
    let faults = g.M.Medium.faults in
    let s = c.self.inside in
    let r = c.wipe-answer.result in
    let new = c.wipe-answer.new.tree in
    subst (λ v. Wipe (state_of content size faults v) r (state_of content size faults
    (seen content size faults c.has_tree-self-inside.result new))) c.self.view_is
    (subst (λ b. Wipe (server_of content size faults s.up s.tree) r (server_of content size faults b new))
    (sym c.has_tree-self-inside.ensures) (c.wipe-answer.ensures.wiped s.up))
