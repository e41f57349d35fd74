use Rattle.std.proofs.Common.{◌≡◌, inl, inr, Some, ap, ◌∙◌}
use Rattle.nfs2_types.specs.declared.fattr.Kind.TheVariants.{File, Dir, Link}
use Rattle.inode_server.proofs.FoundLaws.{stale, not_file}
use Rattle.inode_server.proofs.find.find_file.Goals as goal

pub returns-in_default : goal.returns-in_default
returns-in_default g c =
    let s = c.args.tree.now in
    stale g.M.Medium.content g.M.Medium.size s c.requires c.args.file.now c.in_default.ensures

pub returns-in-File : goal.returns-in-File
returns-in-File g c =
    let at = c.in-Some.ensures in
    record { within = at.0; handle = at.1; kind_is = at.2 ∙ ap Some c.in-File.is }

pub returns-in-Dir : goal.returns-in-Dir
returns-in-Dir g c =
    let s = c.args.tree.now in
    let at = c.in-Some.ensures in
    elim c.in-Dir.is [
      | inl e ↦ not_file g.M.Medium.content g.M.Medium.size s c.requires c.args.file.now c.in-Some.inode Dir at.1 (at.2 ∙ ap Some e)
          (λ e. (let bad : Dir ≡ File = e in cc))
      | inr e ↦ not_file g.M.Medium.content g.M.Medium.size s c.requires c.args.file.now c.in-Some.inode Link at.1 (at.2 ∙ ap Some e)
          (λ e. (let bad : Link ≡ File = e in cc))
    ]
