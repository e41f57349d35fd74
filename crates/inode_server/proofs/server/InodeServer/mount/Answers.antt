use Rattle.std.proofs.Common.{ap, ◌∙◌}
use Rattle.inode_server.proofs.LifeLaws.{ready_mounted}
use Rattle.inode_server.proofs.ReadyLaws.{ready}
use Rattle.inode_server.proofs.StartLaws.{can-mount, mounted}
use Rattle.inode_server.proofs.server.InodeServer.mount.Goals as goal

pub read_tree-answer-requires-clause-planned : goal.read_tree-answer-requires-clause-planned
read_tree-answer-requires-clause-planned g c =
    let s = c.args.self.now in
    (ready g.M.Medium.content g.M.Medium.size g.M.Medium.faults s.up s.tree s.ready).planned

pub invariant_of-self : goal.invariant_of-self
invariant_of-self g c =
    let s = c.args.self.now in
    let e = c.read_tree-answer.ensures in
    record {
      ready = ∣ ready_mounted g.M.Medium.content g.M.Medium.size s.tree c.read_tree-answer.new.tree (ready g.M.Medium.content g.M.Medium.size g.M.Medium.faults s.up s.tree s.ready).planned
          e.limits e.area e.inodes e.size c.read_tree-answer.result e.whole e.broken
          (ap (λ b. b 0) e.content ∙ c.requires.name) c.has_tree-self.result c.has_tree-self.ensures ∣₁;
    }

pub read_tree-answer-requires-clause-holds : goal.read_tree-answer-requires-clause-holds
read_tree-answer-requires-clause-holds g c =
    let s = c.args.self.now in
    can-mount g.M.Medium.content g.M.Medium.size g.M.Medium.faults s.up s.tree s.ready c.requires

pub returns-clause-tree : goal.returns-clause-tree
returns-clause-tree g c =
    let s = c.args.self.now in
    let e = c.read_tree-answer.ensures in
    mounted g.M.Medium.content g.M.Medium.size g.M.Medium.faults s.up s.tree s.ready c.read_tree-answer.new.tree
    c.read_tree-answer.result e.limits e.area e.inodes e.size e.content c.has_tree-self.result c.has_tree-self.ensures
