use Rattle.log_server.proofs.ReadyLaws.{again, answers, kept}
use Rattle.log_server.proofs.server.LogServerFileServer.reboot.Goals as goal

pub reboot-answer-requires : goal.reboot-answer-requires
reboot-answer-requires g c =
    let s = c.self.inside in
    kept g.M.Medium.content g.M.Medium.size g.M.Medium.faults s.up s.tree c.args.self.now c.self.view_is c.requires
    c.self.invariant

pub invariant_of-self : goal.invariant_of-self
invariant_of-self g c =
    let s = c.self.inside in
    again g.M.Medium.content g.M.Medium.size g.M.Medium.faults _ c.has_tree-self-inside.result s.tree c.reboot-answer.new.tree
    c.has_tree-self-inside.ensures c.reboot-answer.ensures.stays c.self.invariant.large

pub returns : goal.returns
returns g c =
    let s = c.self.inside in
    answers g.M.Medium.content g.M.Medium.size g.M.Medium.faults s.up s.tree c.args.self.now c.self.view_is c.requires _
    c.reboot-answer.result c.reboot-answer.new.tree c.reboot-answer.ensures c.has_tree-self-inside.result c.has_tree-self-inside.ensures
