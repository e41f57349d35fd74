use Rattle.std.proofs.Common.{arith, ◌≡◌, ◌∙◌, ap, sym, length, Some, take}
use Rattle.nfs2_types.specs.Bytes.{overwritten}
use Rattle.pointer_tree.specs.declared.node.Area.{Area}
use Rattle.inode_store.specs.Inodes.{inode_at, file_of}
use Rattle.inode_store.specs.Written.{Rewrites}
use Rattle.inode_store.proofs.OpLaws.{file_is, becomes_on, edited, stands_on}
use Rattle.inode_store.proofs.ResizeLaws.{length-bytes_of}
use Rattle.inode_store.proofs.WriteLaws.{writes_on, inode_kept, file_wrote}
use Rattle.inode_store.proofs.store.InodeStore.write.Goals as goal

pub write_part-requires-clause-stands : goal.write_part-requires-clause-stands
write_part-requires-clause-stands g c =
    let s = c.args.self.now in
    let r = c.in_ok-x.ensures in
    stands_on s.area _ s.inodes (g.M.Medium.size s.medium) c.args.inode (g.M.Medium.content s.medium) _ s.map _
    c.in_ok-x.x c.requires.kept c.requires.within r.inode r.area r.content r.map

pub put_changed-requires-clause-was : goal.put_changed-requires-clause-was
put_changed-requires-clause-was g c =
    let s = c.args.self.now in
    let r = c.in_ok-x.ensures in
    let w = c.in_ok-y.ensures in
    let x = c.in_ok-x.x in
    let c0 = g.M.Medium.content s.medium in
    let c1 = g.M.Medium.content c.write_part.new.self.medium in
    let part = writes_on s.area _ x (overwritten c.args.offset (take c.min-count.result c.args.piece.now)) c0 _ s.map
    _ c.in_ok-y.y c1 c.write_part.new.self.map r.area
    r.content r.map w.ok in
    ap (λ (a : Area). inode_at a c1 c.args.inode) (w.area ∙ r.area)
    ∙ inode_kept s.area s.inodes (g.M.Medium.size s.medium) c.args.inode c0 c1 s.map c.write_part.new.self.map x _ _
    c.requires.kept c.requires.within r.inode part.moves

pub returns-clause-file : goal.returns-clause-file
returns-clause-file g c =
    let s = c.args.self.now in
    let r = c.in_ok-x.ensures in
    let w = c.in_ok-y.ensures in
    let e = c.in_ok-put_changed.ensures in
    let x = c.in_ok-x.x in
    let y = c.in_ok-y.y in
    let c0 = g.M.Medium.content s.medium in
    let c1 = g.M.Medium.content c.write_part.new.self.medium in
    let c2 = g.M.Medium.content c.put_changed.new.self.medium in
    let m1 = c.write_part.new.self.map in
    let is : inode_at s.area c0 c.args.inode ≡ Some x = r.inode in
    let part : Rewrites s.area x (overwritten c.args.offset (take c.min-count.result c.args.piece.now)) c0 s.map y c1
    m1 =
    writes_on s.area _ x _ c0 _ s.map _ y c1 m1 r.area r.content r.map w.ok in
    let here : inode_at s.area c2 c.args.inode ≡ Some y =
    ap (λ (a : Area). inode_at a c2 c.args.inode) (sym (w.area ∙ r.area)) ∙ e.here in
    becomes_on s.area _ s.inodes _ (g.M.Medium.size s.medium) _ c.args.inode _ _ c0 c2 m1 _ (e.area ∙ w.area ∙ r.area)
    (e.inodes ∙ w.inodes ∙ r.inodes) (e.size ∙ w.size ∙ r.size) e.map
    (file_wrote s.area c.args.inode _ c0 c1 s.map m1 x y is part)
    (edited s.area s.inodes (g.M.Medium.size s.medium) c.args.inode c0 c1 c2 s.map m1 c.requires.kept
    c.requires.within x
    y is part.moves (w.len ∙ ap length r.map) e.others here part.whole)

pub write_part-requires-clause-inside : goal.write_part-requires-clause-inside
write_part-requires-clause-inside g c =
    let s = c.args.self.now in
    let c0 = g.M.Medium.content s.medium in
    let x = c.in_ok-x.x in
    let inside = c.requires.inside (file_of s.area c0 x) (file_is s.area c0 c.args.inode x c.in_ok-x.ensures.inode) in
    omega (arith, inside, length-bytes_of s.area c0 x)
