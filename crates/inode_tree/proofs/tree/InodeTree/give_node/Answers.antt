use Rattle.std.proofs.Common.{sym, ◌∙◌, arith, subst, length}
use Rattle.inode_store.specs.Held.{files_of}
use Rattle.inode_tree.specs.Changes.{Gives}
use Rattle.inode_tree.specs.Kept.{tables_of}
use Rattle.inode_tree.proofs.TiedLaws.{some_of}
use Rattle.inode_tree.proofs.BoundLaws.{file-used}
use Rattle.inode_tree.proofs.WholeLaws.{file-there, there-file, whole-given, held-given}
use Rattle.inode_tree.proofs.tree.InodeTree.give_node.Goals as goal

pub give-requires-2-clause-bytes : goal.give-requires-2-clause-bytes
give-requires-2-clause-bytes g c =
    let s = c.args.self.now in
    let c0 = g.M.Medium.content s.store.medium in
    let k = some_of ((tables_of s.tables).kind c.args.inode) c.requires.used in
    let f = file-there s.limits s.store.area s.store.inodes c0 (g.M.Medium.size s.store.medium) s.store.map
    (tables_of s.tables) c.requires.whole c.args.inode c.requires.within k.0 k.1 in
    let most = file-used s.store.inodes (files_of s.store.area s.store.inodes c0) (tables_of s.tables)
    c.requires.whole.tied c.args.inode f.0 (there-file s.limits s.store.area s.store.inodes c0
    (g.M.Medium.size s.store.medium) s.store.map (tables_of s.tables) c.requires.whole c.args.inode c.requires.within
    f.0 f.1) in
    let size = c.requires.size f.0 f.1 in
    let from = c.from.ensures in
    omega (arith, most, size, from)

pub returns-clause-whole : goal.returns-clause-whole
returns-clause-whole g c =
    let s = c.args.self.now in
    let n = c.give.new.self in
    let e = c.in_ok-give.ensures in
    let c0 = g.M.Medium.content s.store.medium in
    let t = tables_of s.tables in
    let t2 = tables_of c.give-2.new.self in
    let k = some_of (t.kind c.args.inode) c.requires.used in
    let f = file-there s.limits s.store.area s.store.inodes c0 (g.M.Medium.size s.store.medium) s.store.map t
    c.requires.whole c.args.inode c.requires.within k.0 k.1 in
    let gives : Gives t t2 c.args.inode (length f.0.bytes) = subst (λ b. Gives t t2 c.args.inode b)
    (c.from.ensures ∙ sym (c.requires.size f.0 f.1)) c.give-2.ensures in
    whole-given s.limits s.store.area s.store.inodes c0 (g.M.Medium.size s.store.medium) s.store.map t c.requires.whole
    n.area n.inodes (g.M.Medium.size n.medium) e.area e.inodes e.size (g.M.Medium.content n.medium) n.map t2
    c.args.inode c.requires.within f.0 f.1 (c.requires.bare f.0 f.1) c.requires.unlinked c.requires.other gives e.file

pub returns-clause-node : goal.returns-clause-node
returns-clause-node g c =
    let s = c.args.self.now in
    let n = c.give.new.self in
    let e = c.in_ok-give.ensures in
    let c0 = g.M.Medium.content s.store.medium in
    let t = tables_of s.tables in
    let t2 = tables_of c.give-2.new.self in
    let k = some_of (t.kind c.args.inode) c.requires.used in
    let f = file-there s.limits s.store.area s.store.inodes c0 (g.M.Medium.size s.store.medium) s.store.map t
    c.requires.whole c.args.inode c.requires.within k.0 k.1 in
    let gives : Gives t t2 c.args.inode (length f.0.bytes) = subst (λ b. Gives t t2 c.args.inode b)
    (c.from.ensures ∙ sym (c.requires.size f.0 f.1)) c.give-2.ensures in
    held-given s.limits s.store.area s.store.inodes c0 (g.M.Medium.size s.store.medium) s.store.map t c.requires.whole
    n.area n.inodes (g.M.Medium.size n.medium) e.area e.inodes e.size (g.M.Medium.content n.medium) n.map t2
    c.args.inode c.requires.within f.0 f.1 (c.requires.bare f.0 f.1) c.requires.unlinked c.requires.other gives e.file

pub returns-clause-first : goal.returns-clause-first
returns-clause-first g c = c.in_ok-give.ensures.file.changes.first
