use Rattle.std.proofs.Common.{◌≡◌, inl, inr, Some, ap, ◌∙◌}
use Rattle.nfs2_types.specs.declared.fattr.Kind.TheVariants.{File, Dir, Link}
use Rattle.inode_server.proofs.FoundLaws.{stale, not_dir}
use Rattle.inode_server.proofs.find.find_dir.Goals as goal

pub returns-in_default : goal.returns-in_default
returns-in_default g c =
    let s = c.args.tree.now in
    stale g.M.Medium.content g.M.Medium.size s c.requires c.args.dir.now c.in_default.ensures

pub returns-in-Dir : goal.returns-in-Dir
returns-in-Dir g c =
    let at = c.in-Some.ensures in
    record { within = at.0; handle = at.1; kind_is = at.2 ∙ ap Some c.in-Dir.is }

pub returns-in-File : goal.returns-in-File
returns-in-File g c =
    let s = c.args.tree.now in
    let at = c.in-Some.ensures in
    elim c.in-File.is [
      | inl e ↦ not_dir g.M.Medium.content g.M.Medium.size s c.requires c.args.dir.now c.in-Some.inode File at.1 (at.2 ∙ ap Some e)
          (λ e. (let bad : File ≡ Dir = e in cc))
      | inr e ↦ not_dir g.M.Medium.content g.M.Medium.size s c.requires c.args.dir.now c.in-Some.inode Link at.1 (at.2 ∙ ap Some e)
          (λ e. (let bad : Link ≡ Dir = e in cc))
    ]
