use Rattle.std.proofs.Common.{◌≡◌, inl, inr, Some, sym, ap, ◌∙◌}
use Rattle.nfs2_types.specs.declared.fattr.Kind.TheVariants.{File, Dir, Link}
use Rattle.inode_server.proofs.FoundLaws.{stale, is_dir}
use Rattle.inode_server.proofs.find.find_leaf.Goals as goal

pub returns-in_default : goal.returns-in_default
returns-in_default g c =
    let s = c.args.tree.now in
    stale g.M.Medium.content g.M.Medium.size s c.requires c.args.node.now c.in_default.ensures

pub returns-in-Dir : goal.returns-in-Dir
returns-in-Dir g c =
    let s = c.args.tree.now in
    let at = c.in-Some.ensures in
    is_dir g.M.Medium.content g.M.Medium.size s c.requires c.args.node.now c.in-Some.inode at.1 (at.2 ∙ ap Some c.in-Dir.is)

pub returns-in-File : goal.returns-in-File
returns-in-File g c =
    let at = c.in-Some.ensures in (
      record { within = at.0; handle = at.1; kind_is = at.2 },
      elim c.in-File.is [
        | inl is ↦ λ e. (let bad : File ≡ Dir = sym is ∙ e in cc)
        | inr is ↦ λ e. (let bad : Link ≡ Dir = sym is ∙ e in cc)
      ],
    )
