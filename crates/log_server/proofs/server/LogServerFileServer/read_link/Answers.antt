use Rattle.log_server.proofs.ReadyLaws.{again, answers, kept}
use Rattle.log_server.proofs.server.LogServerFileServer.read_link.Goals as goal

pub read_link-answer-requires : goal.read_link-answer-requires
read_link-answer-requires g c =
    let s = c.self.inside in
    kept g.M.Medium.content g.M.Medium.size g.M.Medium.faults s.up s.tree c.args.self.now c.self.view_is c.requires
    c.self.invariant

pub invariant_of-self : goal.invariant_of-self
invariant_of-self g c =
    let s = c.self.inside in
    again g.M.Medium.content g.M.Medium.size g.M.Medium.faults _ c.has_tree-self-inside.result s.tree c.read_link-answer.new.tree
    c.has_tree-self-inside.ensures c.read_link-answer.ensures.stays c.self.invariant.large

pub returns : goal.returns
returns g c =
    let s = c.self.inside in
    answers g.M.Medium.content g.M.Medium.size g.M.Medium.faults s.up s.tree c.args.self.now c.self.view_is c.requires _
    c.read_link-answer.result c.read_link-answer.new.tree c.read_link-answer.ensures c.has_tree-self-inside.result c.has_tree-self-inside.ensures
