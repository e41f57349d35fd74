use Rattle.log_server.proofs.ReadyLaws.{again, answers, kept}
use Rattle.log_server.proofs.server.LogServerFileServer.mkdir.Goals as goal

pub make-answer-requires-clause-kept : goal.make-answer-requires-clause-kept
make-answer-requires-clause-kept g c =
    let s = c.self.inside in
    kept g.M.Medium.content g.M.Medium.size g.M.Medium.faults s.up s.tree c.args.self.now c.self.view_is c.requires.tree
    c.self.invariant

pub invariant_of-self : goal.invariant_of-self
invariant_of-self g c =
    let s = c.self.inside in
    again g.M.Medium.content g.M.Medium.size g.M.Medium.faults _ c.has_tree-self-inside.result s.tree c.make-answer.new.tree
    c.has_tree-self-inside.ensures c.make-answer.ensures.stays c.self.invariant.large

pub returns : goal.returns
returns g c =
    let s = c.self.inside in
    answers g.M.Medium.content g.M.Medium.size g.M.Medium.faults s.up s.tree c.args.self.now c.self.view_is c.requires.tree _
    c.make-answer.result c.make-answer.new.tree c.make-answer.ensures c.has_tree-self-inside.result c.has_tree-self-inside.ensures
