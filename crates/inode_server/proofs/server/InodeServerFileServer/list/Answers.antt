use Rattle.inode_server.proofs.ReadyLaws.{again, answers, whole_now}
use Rattle.inode_server.proofs.server.InodeServerFileServer.list.Goals as goal

pub list-answer-requires : goal.list-answer-requires
list-answer-requires g c =
    let s = c.args.self.now in
    whole_now g.M.Medium.content g.M.Medium.size g.M.Medium.faults s.up s.tree s.ready c.requires

pub invariant_of-self : goal.invariant_of-self
invariant_of-self g c =
    let s = c.args.self.now in
    record {
      ready = again g.M.Medium.content g.M.Medium.size g.M.Medium.faults _ s.up s.tree c.requires c.list-answer.result c.list-answer.new.tree
          c.list-answer.ensures c.has_tree-self.result c.has_tree-self.ensures s.ready;
    }

pub returns : goal.returns
returns g c =
    let s = c.args.self.now in
    answers g.M.Medium.content g.M.Medium.size g.M.Medium.faults _ s.up s.tree c.requires c.list-answer.result c.list-answer.new.tree
    c.list-answer.ensures c.has_tree-self.result c.has_tree-self.ensures
