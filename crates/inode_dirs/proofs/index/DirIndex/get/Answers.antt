use Rattle.std.proofs.Common.{refl, ◌∙◌}
use Rattle.tree_laws.proofs.NameRows.{get-vec_rows}
use Rattle.inode_dirs.proofs.index.DirIndex.get.Goals as goal

pub returns : goal.returns
returns c = get-vec_rows c.self.inside.rows.entries c.args.self.now c.copied.result c.args.name.now c.args.name.now
    c.self.view_is refl (c.copied.ensures ∙ c.get.ensures.value)
