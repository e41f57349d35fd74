use Rattle.std.proofs.Common.{sym, subst}
use Rattle.server_trait.specs.Calls.{Wipe}
use Rattle.inode_server.specs.Ready.{IsReady}
use Rattle.inode_server.specs.State.{server_of}
use Rattle.inode_server.proofs.ReadyLaws.{ready}
use Rattle.inode_server.proofs.server.InodeServerFileServer.wipe.Goals as goal

pub wipe-answer-requires : goal.wipe-answer-requires
wipe-answer-requires g c =
    let s = c.args.self.now in
    (ready g.M.Medium.content g.M.Medium.size g.M.Medium.faults s.up s.tree s.ready).planned

pub invariant_of-self : goal.invariant_of-self
invariant_of-self g c = record {
  ready = ∣ subst (λ u. IsReady g.M.Medium.content g.M.Medium.size u c.wipe-answer.new.tree) (sym c.has_tree-self.ensures)
      c.wipe-answer.ensures.ready ∣₁;
}

pub returns : goal.returns
returns g c =
    let s = c.args.self.now in
    subst (λ u. Wipe (server_of g.M.Medium.content g.M.Medium.faults s.up s.tree) c.wipe-answer.result
    (server_of g.M.Medium.content g.M.Medium.faults u c.wipe-answer.new.tree)) (sym c.has_tree-self.ensures)
    (c.wipe-answer.ensures.wipe s.up)
