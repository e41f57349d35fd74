use Rattle.std.proofs.Common.{refl}
use Rattle.tree_laws.proofs.NameRows.{insert-vec_rows}
use Rattle.inode_dirs.proofs.index.DirIndex.insert.Goals as goal

pub returns : goal.returns
returns c = insert-vec_rows c.self.inside.rows.entries c.insert.new.self.entries c.args.self.now c.args.name
    c.args.name.items c.args.place c.self.view_is refl c.in_ok-insert.ensures.entries
