use Rattle.tree_laws.proofs.NameRows.{remove-vec_rows}
use Rattle.inode_dirs.proofs.index.DirIndex.remove.Goals as goal

pub returns : goal.returns
returns c = remove-vec_rows c.self.inside.rows.entries c.remove.new.self.entries c.args.name.now
    c.remove.ensures.updates.0 c.args.self.now c.self.view_is
