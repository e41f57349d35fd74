use Rattle.std.proofs.Common.{refl, arith, length}
use Rattle.inode_store.specs.Files.{with_attr}
use Rattle.inode_store.specs.Held.{files_of}
use Rattle.inode_tree.specs.Changes.{Resizes}
use Rattle.inode_tree.specs.Kept.{tables_of}
use Rattle.inode_tree.proofs.BoundLaws.{file-used}
use Rattle.inode_tree.proofs.WholeLaws.{file-there, there-file, becomes-some, whole-changed, held-changed}
use Rattle.server_trait.specs.Tree.{with_attr as with_attr_node}
use Rattle.inode_tree.proofs.TiedLaws.{some_of}
use Rattle.inode_tree.proofs.tree.InodeTree.set_attr.Goals as goal

pub returns-clause-whole : goal.returns-clause-whole
returns-clause-whole g c =
    let s = c.args.self.now in
    let c0 = g.M.Medium.content s.store.medium in
    let t = tables_of s.tables in
    let n = c.set_attr.new.self in
    let e = c.in_ok-set_attr.ensures in
    let k = some_of (t.kind c.args.inode) c.requires.used in
    let f = file-there s.limits s.store.area s.store.inodes c0 (g.M.Medium.size s.store.medium) s.store.map t c.requires.whole c.args.inode c.requires.within k.0 k.1 in
    let there = there-file s.limits s.store.area s.store.inodes c0 (g.M.Medium.size s.store.medium) s.store.map t c.requires.whole c.args.inode c.requires.within f.0 f.1 in
    let most = file-used s.store.inodes (files_of s.store.area s.store.inodes c0) t c.requires.whole.tied c.args.inode
    f.0 there in
    let within = c.requires.whole.within in
    let same : Resizes t t (length f.0.bytes) (length f.0.bytes) = record {
      handles = refl;
      places = refl;
      counts = record { inodes = refl; links = λ k. refl; subdirs = λ k. refl; used = refl };
      kinds = refl;
      parents = refl;
      free = refl;
    } in
    whole-changed s.limits s.store.area s.store.inodes c0 (g.M.Medium.size s.store.medium) s.store.map t c.requires.whole n.area n.inodes
    (g.M.Medium.size n.medium) e.area e.inodes e.size (g.M.Medium.content n.medium) n.map t c.args.inode
    c.requires.within f.0 (with_attr c.args.mode c.args.uid c.args.gid f.0) f.1 refl (λ _. refl) same
    (becomes-some n.area n.inodes (g.M.Medium.size n.medium) c.args.inode _ f.0
    (with_attr c.args.mode c.args.uid c.args.gid) c0 (g.M.Medium.content n.medium) n.map f.1 e.file)
    (omega (arith, most, within))

pub returns-clause-node : goal.returns-clause-node
returns-clause-node g c =
    let s = c.args.self.now in
    let c0 = g.M.Medium.content s.store.medium in
    let t = tables_of s.tables in
    let n = c.set_attr.new.self in
    let e = c.in_ok-set_attr.ensures in
    let k = some_of (t.kind c.args.inode) c.requires.used in
    let f = file-there s.limits s.store.area s.store.inodes c0 (g.M.Medium.size s.store.medium) s.store.map t c.requires.whole c.args.inode c.requires.within k.0 k.1 in
    let there = there-file s.limits s.store.area s.store.inodes c0 (g.M.Medium.size s.store.medium) s.store.map t c.requires.whole c.args.inode c.requires.within f.0 f.1 in
    let most = file-used s.store.inodes (files_of s.store.area s.store.inodes c0) t c.requires.whole.tied c.args.inode
    f.0 there in
    let within = c.requires.whole.within in
    let same : Resizes t t (length f.0.bytes) (length f.0.bytes) = record {
      handles = refl;
      places = refl;
      counts = record { inodes = refl; links = λ k. refl; subdirs = λ k. refl; used = refl };
      kinds = refl;
      parents = refl;
      free = refl;
    } in
    held-changed s.limits s.store.area s.store.inodes c0 (g.M.Medium.size s.store.medium) s.store.map t c.requires.whole n.area n.inodes
    (g.M.Medium.size n.medium) e.area e.inodes e.size (g.M.Medium.content n.medium) n.map t c.args.inode
    c.requires.within f.0 (with_attr c.args.mode c.args.uid c.args.gid f.0) f.1 refl (λ _. refl) same
    (becomes-some n.area n.inodes (g.M.Medium.size n.medium) c.args.inode _ f.0
    (with_attr c.args.mode c.args.uid c.args.gid) c0 (g.M.Medium.content n.medium) n.map f.1 e.file)
    (omega (arith, most, within))
    (with_attr_node c.args.mode c.args.uid c.args.gid) refl

pub returns-clause-first : goal.returns-clause-first
returns-clause-first g c = c.in_ok-set_attr.ensures.file.changes.first
