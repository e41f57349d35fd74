use Rattle.std.proofs.Common.{◌<◌, ap, arith}
use Rattle.inode_store.specs.Held.{files_of}
use Rattle.inode_tree.specs.Tables.{Tables}
use Rattle.inode_tree.specs.Kept.{tables_of}
use Rattle.inode_tree.specs.Sound.{the_tree}
use Rattle.inode_tree.proofs.WholeLaws.{tables-apart, whole-taken, held-taken, new-before, few, full}
use Rattle.inode_tree.proofs.tree.InodeTree.take_node.Goals as goal

pub returns-in_default-clause-node : goal.returns-in_default-clause-node
returns-in_default-clause-node g c =
    let s = c.args.self.now in
    let at = rw c.in_default.is at c.in_ok-inode.ensures in (
      ap (λ (t : Tables). the_tree s.store.inodes (files_of s.store.area s.store.inodes
          (g.M.Medium.content s.store.medium)) t) at.1,
      full s.limits s.store.area s.store.inodes (g.M.Medium.content s.store.medium) (g.M.Medium.size s.store.medium)
          s.store.map (tables_of s.tables) c.requires at.0,
    )

pub returns-clause-whole : goal.returns-clause-whole
returns-clause-whole g c =
    let s = c.args.self.now in
    let n = c.take-2.new.self in
    let e = c.in_ok-take.ensures in
    let at = rw c.in-Some.is at c.in_ok-inode.ensures in
    let inodes = c.requires.tied.inodes in
    let small = few s.limits s.store.area s.store.inodes (g.M.Medium.content s.store.medium)
    (g.M.Medium.size s.store.medium) s.store.map (tables_of s.tables) c.requires n.area n.inodes
    (g.M.Medium.size n.medium) e.area e.inodes e.size (g.M.Medium.content n.medium) n.map (tables_of c.take.new.self) in
    whole-taken s.limits s.store.area s.store.inodes (g.M.Medium.content s.store.medium) (g.M.Medium.size s.store.medium)
    s.store.map (tables_of s.tables) c.requires n.area n.inodes (g.M.Medium.size n.medium) e.area e.inodes e.size
    (g.M.Medium.content n.medium) n.map (tables_of c.take.new.self) c.in-Some.inode
    (let l = at.0 in omega (arith, l, inodes)) c.args.kind at.1 at.2
    (tables-apart c.take.new.self n.inodes (let same = e.inodes in omega (arith, small, same))) e.file

pub returns-clause-node : goal.returns-clause-node
returns-clause-node g c =
    let s = c.args.self.now in
    let n = c.take-2.new.self in
    let e = c.in_ok-take.ensures in
    let at = rw c.in-Some.is at c.in_ok-inode.ensures in
    let inodes = c.requires.tied.inodes in
    let small = few s.limits s.store.area s.store.inodes (g.M.Medium.content s.store.medium)
    (g.M.Medium.size s.store.medium) s.store.map (tables_of s.tables) c.requires n.area n.inodes
    (g.M.Medium.size n.medium) e.area e.inodes e.size (g.M.Medium.content n.medium) n.map (tables_of c.take.new.self) in
    let within : c.in-Some.inode < s.store.inodes = (let l = at.0 in omega (arith, l, inodes)) in
    let apart = tables-apart c.take.new.self n.inodes (let same = e.inodes in omega (arith, small, same)) in (
      held-taken s.limits s.store.area s.store.inodes (g.M.Medium.content s.store.medium)
          (g.M.Medium.size s.store.medium)
          s.store.map (tables_of s.tables) c.requires n.area n.inodes (g.M.Medium.size n.medium) e.area e.inodes e.size
          (g.M.Medium.content n.medium) n.map (tables_of c.take.new.self) c.in-Some.inode within c.args.kind at.1 at.2
          apart e.file,
      new-before s.limits s.store.area s.store.inodes (g.M.Medium.content s.store.medium)
          (g.M.Medium.size s.store.medium)
          s.store.map (tables_of s.tables) c.requires n.area n.inodes (g.M.Medium.size n.medium) e.area e.inodes e.size
          (g.M.Medium.content n.medium) n.map (tables_of c.take.new.self) c.in-Some.inode within c.args.kind at.1 at.2
          apart e.file,
      at.2,
    )

pub returns-clause-first : goal.returns-clause-first
returns-clause-first g c = c.in_ok-take.ensures.file.changes.first

pub returns-clause-inode : goal.returns-clause-inode
returns-clause-inode g c =
    let s = c.args.self.now in
    let e = c.in_ok-take.ensures in
    let at = rw c.in-Some.is at c.in_ok-inode.ensures in
    let inodes = c.requires.tied.inodes in
    let within : c.in-Some.inode < s.store.inodes = (let l = at.0 in omega (arith, l, inodes)) in
    (within, (c.requires.tied.free c.in-Some.inode within).0 at.1, e.file.changes.here)
