use Rattle.inode_server.proofs.ReadyLaws.{again, answers, whole_now, named_now}
use Rattle.inode_server.proofs.StaleLaws.{shown-stale}
use Rattle.inode_server.proofs.server.InodeServerFileServer.reboot.Goals as goal

pub reboot-answer-requires-clause-whole : goal.reboot-answer-requires-clause-whole
reboot-answer-requires-clause-whole g c =
    let s = c.args.self.now in
    whole_now g.M.Medium.content g.M.Medium.size g.M.Medium.faults s.up s.tree s.ready c.requires

pub reboot-answer-requires-clause-name : goal.reboot-answer-requires-clause-name
reboot-answer-requires-clause-name g c =
    let s = c.args.self.now in
    named_now g.M.Medium.content g.M.Medium.size g.M.Medium.faults s.up s.tree s.ready c.requires

pub invariant_of-self : goal.invariant_of-self
invariant_of-self g c =
    let s = c.args.self.now in
    record {
      ready = again g.M.Medium.content g.M.Medium.size g.M.Medium.faults _ s.up s.tree c.requires c.reboot-answer.result c.reboot-answer.new.tree
          c.reboot-answer.ensures.does c.has_tree-self.result c.has_tree-self.ensures s.ready;
    }

pub returns-clause-rebooted : goal.returns-clause-rebooted
returns-clause-rebooted g c =
    let s = c.args.self.now in
    answers g.M.Medium.content g.M.Medium.size g.M.Medium.faults _ s.up s.tree c.requires c.reboot-answer.result c.reboot-answer.new.tree
    c.reboot-answer.ensures.does c.has_tree-self.result c.has_tree-self.ensures

pub returns-clause-stale : goal.returns-clause-stale
returns-clause-stale g c =
    let s = c.args.self.now in
    shown-stale g.M.Medium.content g.M.Medium.faults s.up c.has_tree-self.result s.tree c.reboot-answer.new.tree
    c.reboot-answer.result c.reboot-answer.ensures.stale
