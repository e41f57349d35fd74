use Rattle.std.proofs.Common.{◌∙◌, sym, subst, arith, length}
use Rattle.inode_dirs.specs.Files.{File}
use Rattle.inode_store.specs.Inodes.{bytes_of, file_of}
use Rattle.inode_store.proofs.ResizeLaws.{length-bytes_of}
use Rattle.inode_tree.specs.Changes.{Takes}
use Rattle.inode_tree.specs.Kept.{tables_of}
use Rattle.inode_tree.proofs.WholeLaws.{tables-apart}
use Rattle.inode_mount.specs.Reading.{cut, files_in}
use Rattle.inode_mount.proofs.EnteredLaws.{entering-used, entering-free, entering-few}
use Rattle.inode_mount.proofs.ReadLaws.{few-inodes, used-read, free-read}
use Rattle.inode_mount.proofs.enter.enter_inode.Goals as goal

pub returns-in_default-clause-so_far : goal.returns-in_default-clause-so_far
returns-in_default-clause-so_far g c =
    let s = c.args.tree.now in
    let r = c.requires.readable in
    entering-free s.store.inodes (files_in g.M.Medium.content s.store) r.holds.files.root (tables_of s.tables)
    c.args.inode (free-read g.M.Medium.content g.M.Medium.size s r c.args.inode c.requires.within
    (sym c.in_ok-x.ensures.inode ∙ c.in_default.is)) c.requires.so_far

pub enter-requires-clause-within : goal.enter-requires-clause-within
enter-requires-clause-within g c =
    let s = c.args.tree.now in
    let within = c.requires.within in
    let few = entering-few s.limits s.store.inodes (files_in g.M.Medium.content s.store) c.requires.readable.holds.files
    (tables_of s.tables) c.args.inode c.requires.so_far in
    omega (arith, within, few.0)

pub enter-requires-clause-fits : goal.enter-requires-clause-fits
enter-requires-clause-fits g c =
    let s = c.args.tree.now in
    let few = entering-few s.limits s.store.inodes (files_in g.M.Medium.content s.store) c.requires.readable.holds.files
    (tables_of s.tables) c.args.inode c.requires.so_far in
    let limited = c.requires.readable.planned.limited in
    let size = c.from.ensures in
    omega (arith, few.1, limited, size)

pub returns-clause-so_far : goal.returns-clause-so_far
returns-clause-so_far g c =
    let s = c.args.tree.now in
    let content = g.M.Medium.content s.store.medium in
    let r = c.requires.readable in
    let x = c.in-Some.x in
    let f : File = file_of s.store.area content x in
    let t = tables_of s.tables in
    let t2 = tables_of c.enter.new.self in
    let takes : Takes t t2 c.args.inode f.kind (length (cut 0 f).bytes) = subst (λ b. Takes t t2 c.args.inode f.kind b)
    (c.from.ensures ∙ c.bare_size-size.ensures (bytes_of s.store.area content x) (length-bytes_of s.store.area content x))
    c.enter.ensures.rows in
    entering-used s.store.inodes (files_in g.M.Medium.content s.store) r.holds.files.root t t2 f
    (tables-apart c.enter.new.self s.store.inodes (few-inodes g.M.Medium.content g.M.Medium.size s r)) c.args.inode
    c.requires.within (used-read g.M.Medium.content g.M.Medium.size s r c.args.inode x c.requires.within
    (sym c.in_ok-x.ensures.inode ∙ c.in-Some.is)) takes c.requires.so_far
