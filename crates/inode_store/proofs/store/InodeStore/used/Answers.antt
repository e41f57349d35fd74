use Rattle.std.proofs.Common.{sym, ◌∙◌}
use Rattle.inode_store.proofs.OpLaws.{inode_used}
use Rattle.inode_store.proofs.store.InodeStore.used.Goals as goal

pub unreachable-requires : goal.unreachable-requires
unreachable-requires g c =
    let s = c.args.self.now in
    inode_used s.area (g.M.Medium.content s.medium) c.args.inode c.requires.used (sym c.in_ok-x.ensures.inode
    ∙ c.in-None.is)
