use Rattle.std.proofs.Common.{◌≡◌, ◌∙◌, refl, ap, Some, None, length}
use Rattle.inode_store.specs.Inodes.{inode_at}
use Rattle.inode_store.proofs.OpLaws.{becomes_on, given, here_of, inode_in-zeros, stands_on, cuts_on}
use Rattle.inode_store.proofs.store.InodeStore.give.Goals as goal

pub cut_tree-requires-clause-stands : goal.cut_tree-requires-clause-stands
cut_tree-requires-clause-stands g c =
    let s = c.args.self.now in
    let r = c.in_ok-old.ensures in
    let x = c.in_ok-old.old in
    stands_on s.area _ s.inodes (g.M.Medium.size s.medium) c.args.inode (g.M.Medium.content s.medium) _ s.map _ x
    c.requires.kept c.requires.within r.inode r.area r.content r.map

pub returns-clause-file : goal.returns-clause-file
returns-clause-file g c =
    let s = c.args.self.now in
    let e = c.in_ok-put.ensures in
    let t = c.in_ok-cut_tree.ensures in
    let r = c.in_ok-old.ensures in
    let x = c.in_ok-old.old in
    let c0 = g.M.Medium.content s.medium in
    let c1 = g.M.Medium.content c.cut_tree.new.medium in
    let c2 = g.M.Medium.content c.put.new.self.medium in
    let is : inode_at s.area c0 c.args.inode ≡ Some x = r.inode in
    becomes_on s.area _ s.inodes _ (g.M.Medium.size s.medium) _ c.args.inode None None c0 c2 c.cut_tree.new.map _
    (e.area ∙ r.area) (e.inodes ∙ r.inodes) (e.size ∙ t.size ∙ r.size) e.map refl
    (given s.area s.inodes (g.M.Medium.size s.medium) c.args.inode _ c0 c1 c2 s.map c.cut_tree.new.map c.requires.kept
    c.requires.within x is (cuts_on s.area _ x.depth x.top 0 c0 _ s.map _ _ c1 c.cut_tree.new.map r.area r.content
    r.map t.ok)
    (t.len ∙ ap length r.map) e.others
    (here_of s.area c2 c.args.inode _ None e.here (inode_in-zeros s.area)))
