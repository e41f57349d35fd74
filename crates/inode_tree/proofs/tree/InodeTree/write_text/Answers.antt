use Rattle.std.proofs.Common.{◌≡◌, refl, sym, ap, arith, subst, length}
use Rattle.nfs2_types.specs.declared.fattr.Kind.TheVariants.{Link}
use Rattle.inode_store.specs.Files.{with_bytes}
use Rattle.inode_tree.specs.Changes.{Resizes}
use Rattle.inode_tree.specs.Sound.{with_text}
use Rattle.inode_tree.specs.Kept.{tables_of}
use Rattle.inode_tree.proofs.SizeLaws.{has-room}
use Rattle.inode_tree.proofs.TextLaws.{text-node}
use Rattle.inode_tree.proofs.WholeLaws.{file-there, becomes-some, link-no_dir, whole-changed, held-changed}
use Rattle.inode_tree.proofs.tree.InodeTree.write_text.Goals as goal

pub put_text-requires-clause-room : goal.put_text-requires-clause-room
put_text-requires-clause-room g c =
    let s = c.args.self.now in
    let c0 = g.M.Medium.content s.store.medium in
    let t = tables_of s.tables in
    let room = has-room s.limits s.store.area s.store.inodes c0 (g.M.Medium.size s.store.medium) s.store.map t c.requires.whole in
    omega (arith, room)

pub returns-clause-whole : goal.returns-clause-whole
returns-clause-whole g c =
    let s = c.args.self.now in
    let c0 = g.M.Medium.content s.store.medium in
    let t = tables_of s.tables in
    let n = c.put_text.new.store in
    let e = c.in_ok-put_text.ensures in
    let t2 = tables_of c.resize.new.self in
    let f = file-there s.limits s.store.area s.store.inodes c0 (g.M.Medium.size s.store.medium) s.store.map t c.requires.whole c.args.inode c.requires.within Link c.requires.used in
    let none : length f.0.bytes ≡ 0 = ap length (c.requires.empty f.0 f.1) in
    let room = c.requires.room in
    let rows : Resizes t t2 (length f.0.bytes) (length c.args.text.now) = subst (λ b. Resizes t t2 b
    (length c.args.text.now)) (sym none) c.resize.ensures in
    whole-changed s.limits s.store.area s.store.inodes c0 (g.M.Medium.size s.store.medium) s.store.map t c.requires.whole n.area n.inodes
    (g.M.Medium.size n.medium) e.area e.inodes e.size (g.M.Medium.content n.medium) n.map t2 c.args.inode
    c.requires.within f.0 (with_bytes (λ _. c.args.text.now) f.0) f.1 refl
    (λ is_dir. absurd (link-no_dir f.0.kind f.2 is_dir)) rows
    (becomes-some n.area n.inodes (g.M.Medium.size n.medium) c.args.inode _ f.0
    (with_bytes (λ _. c.args.text.now)) c0 (g.M.Medium.content n.medium) n.map f.1 e.file)
    (omega (arith, none, room))

pub returns-clause-node : goal.returns-clause-node
returns-clause-node g c =
    let s = c.args.self.now in
    let c0 = g.M.Medium.content s.store.medium in
    let t = tables_of s.tables in
    let n = c.put_text.new.store in
    let e = c.in_ok-put_text.ensures in
    let t2 = tables_of c.resize.new.self in
    let f = file-there s.limits s.store.area s.store.inodes c0 (g.M.Medium.size s.store.medium) s.store.map t c.requires.whole c.args.inode c.requires.within Link c.requires.used in
    let none : length f.0.bytes ≡ 0 = ap length (c.requires.empty f.0 f.1) in
    let room = c.requires.room in
    let rows : Resizes t t2 (length f.0.bytes) (length c.args.text.now) = subst (λ b. Resizes t t2 b
    (length c.args.text.now)) (sym none) c.resize.ensures in
    held-changed s.limits s.store.area s.store.inodes c0 (g.M.Medium.size s.store.medium) s.store.map t c.requires.whole n.area n.inodes
    (g.M.Medium.size n.medium) e.area e.inodes e.size (g.M.Medium.content n.medium) n.map t2 c.args.inode
    c.requires.within f.0 (with_bytes (λ _. c.args.text.now) f.0) f.1 refl
    (λ is_dir. absurd (link-no_dir f.0.kind f.2 is_dir)) rows
    (becomes-some n.area n.inodes (g.M.Medium.size n.medium) c.args.inode _ f.0
    (with_bytes (λ _. c.args.text.now)) c0 (g.M.Medium.content n.medium) n.map f.1 e.file)
    (omega (arith, none, room))
    (with_text c.args.text.now) (text-node t.handle c.args.inode f.0 c.args.text.now f.2)

pub returns-clause-first : goal.returns-clause-first
returns-clause-first g c = c.in_ok-put_text.ensures.file.changes.first
