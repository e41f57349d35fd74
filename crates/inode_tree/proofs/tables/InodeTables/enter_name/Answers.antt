use Rattle.std.proofs.Common.{refl, subst}
use Rattle.inode_tree.specs.Changes.{Named}
use Rattle.inode_tree.specs.Kept.{tables_of}
use Rattle.inode_tree.specs.Tables.{is_dir_kind}
use Rattle.inode_tree.proofs.DirCalls.{row_at, with_index}
use Rattle.inode_tree.proofs.EntryLaws.{enters}
use Rattle.inode_tree.proofs.tables.InodeTables.enter_name.Goals as goal

pub returns-clause-rows : goal.returns-clause-rows
returns-clause-rows c =
    let s = c.args.self.now in
    let m = c.index_mut-index.result.now in
    let m2 = c.insert.new.self in
    let t2 = tables_of c.add_name.new.self in
    let rows : Named (with_index s c.args.dir m2) t2 c.args.dir c.args.place.inode (is_dir_kind c.args.kind) =
    subst (λ b. Named (with_index s c.args.dir m2) t2 c.args.dir c.args.place.inode b) c.is_directory.ensures
    c.add_name.ensures.rows in
    enters s c.args.dir c.requires.dir m m2 (row_at s (tables_of s).counts.inodes c.args.dir m refl c.requires.dir
    c.index_mut-index.ensures.value) c.args.name.items c.args.place c.in_ok-insert.ensures t2 (is_dir_kind c.args.kind)
    rows
