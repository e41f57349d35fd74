use Rattle.std.proofs.Common.{◌≡◌, ◌∙◌, refl, sym, Some}
use Rattle.inode_store.specs.Inodes.{inode_at}
use Rattle.inode_store.specs.declared.inode.Inode.{Inode}
use Rattle.inode_store.proofs.ChangeLaws.{top_at}
use Rattle.inode_store.proofs.OpLaws.{becomes_on, edited, file_attr, here_of, rest_of, stay, whole_attr}
use Rattle.inode_store.proofs.store.InodeStore.set_attr.Goals as goal

pub returns-clause-file : goal.returns-clause-file
returns-clause-file g c =
    let s = c.args.self.now in
    let e = c.in_ok-put.ensures in
    let r = c.in_ok-old.ensures in
    let x = c.in_ok-old.old in
    let c0 = g.M.Medium.content s.medium in
    let c1 = g.M.Medium.content c.used.new.self.medium in
    let c2 = g.M.Medium.content c.put.new.self.medium in
    let is : inode_at s.area c0 c.args.inode ≡ Some x = r.inode in
    let y : Inode = record x { mode = c.args.mode; uid = c.args.uid; gid = c.args.gid } in
    becomes_on s.area _ s.inodes _ (g.M.Medium.size s.medium) _ c.args.inode _ _ c0 c2 s.map _ (e.area ∙ r.area)
    (e.inodes ∙ r.inodes) (e.size ∙ r.size) (e.map ∙ r.map)
    (sym (file_attr s.area c0 c.args.inode c.args.mode c.args.uid c.args.gid x is))
    (edited s.area s.inodes (g.M.Medium.size s.medium) c.args.inode c0 c0 c2 s.map s.map c.requires.kept
    c.requires.within x y is (stay s.area x.depth x.top c0 s.map) refl (rest_of c0 c1 c2 c.args.inode r.content
    e.others)
    (here_of s.area c2 c.args.inode c.to_block.result (Some y) e.here
    (c.to_block.ensures s.area (top_at s.area c0 c.args.inode x is)))
    (whole_attr s.area c0 x c.args.mode c.args.uid c.args.gid
    (c.requires.kept.whole c.args.inode x c.requires.within is)))
