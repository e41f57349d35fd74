use Rattle.std.proofs.Common.{◌≡◌, ◌≤◌, refl, sym, ◌∙◌, arith, subst, length}
use Rattle.inode_store.specs.Files.{with_bytes}
use Rattle.inode_store.specs.Held.{files_of}
use Rattle.inode_tree.specs.Changes.{Resizes}
use Rattle.inode_tree.specs.Kept.{tables_of}
use Rattle.inode_tree.proofs.BoundLaws.{file-used}
use Rattle.inode_tree.proofs.SizeLaws.{has-room}
use Rattle.inode_tree.proofs.WholeLaws.{file-there, there-file, becomes-some, file-node, file-no_dir, whole-changed, held-changed}
use Rattle.nfs2_types.specs.declared.fattr.Kind.TheVariants.{File as AFile}
use Rattle.nfs2_types.specs.Bytes.{resized}
use Rattle.server_trait.specs.Tree.{with_bytes as node_bytes}
use Rattle.inode_store.proofs.ByteLaws.{length-resized}
use Rattle.inode_tree.proofs.tree.InodeTree.set_size.Goals as goal

pub set_size-requires-clause-room : goal.set_size-requires-clause-room
set_size-requires-clause-room g c =
    let s = c.args.self.now in
    let c0 = g.M.Medium.content s.store.medium in
    let t = tables_of s.tables in
    let room = has-room s.limits s.store.area s.store.inodes c0 (g.M.Medium.size s.store.medium) s.store.map t c.requires.whole in
    omega (arith, room)

pub resize-requires-clause-has : goal.resize-requires-clause-has
resize-requires-clause-has g c =
    let s = c.args.self.now in
    let c0 = g.M.Medium.content s.store.medium in
    let t = tables_of s.tables in
    let f = file-there s.limits s.store.area s.store.inodes c0 (g.M.Medium.size s.store.medium) s.store.map t c.requires.whole c.args.inode c.requires.within AFile c.requires.used in
    let there = there-file s.limits s.store.area s.store.inodes c0 (g.M.Medium.size s.store.medium) s.store.map t c.requires.whole c.args.inode c.requires.within f.0 f.1 in
    let most = file-used s.store.inodes (files_of s.store.area s.store.inodes c0) t c.requires.whole.tied c.args.inode
    f.0 there in
    let size = c.requires.old f.0 f.1 in
    let from = c.from.ensures in
    let goal : c.from.result ≤ t.counts.used = omega (arith, most, size, from) in
    goal

pub returns-clause-whole : goal.returns-clause-whole
returns-clause-whole g c =
    let s = c.args.self.now in
    let c0 = g.M.Medium.content s.store.medium in
    let t = tables_of s.tables in
    let n = c.set_size.new.self in
    let e = c.in_ok-set_size.ensures in
    let t2 = tables_of c.resize.new.self in
    let f = file-there s.limits s.store.area s.store.inodes c0 (g.M.Medium.size s.store.medium) s.store.map t c.requires.whole c.args.inode c.requires.within AFile c.requires.used in
    let there = there-file s.limits s.store.area s.store.inodes c0 (g.M.Medium.size s.store.medium) s.store.map t c.requires.whole c.args.inode c.requires.within f.0 f.1 in
    let most = file-used s.store.inodes (files_of s.store.area s.store.inodes c0) t c.requires.whole.tied c.args.inode
    f.0 there in
    let size = c.requires.old f.0 f.1 in
    let more : length ((resized c.args.size) f.0.bytes) ≡ c.from-2.result = length-resized c.args.size f.0.bytes ∙ sym c.from-2.ensures in
    let within = c.requires.whole.within in
    let room = c.requires.room in
    let rows : Resizes t t2 (length f.0.bytes) (length ((resized c.args.size) f.0.bytes)) = subst (λ b. Resizes t t2 b
    (length ((resized c.args.size) f.0.bytes))) (c.from.ensures ∙ sym size) (subst (λ a. Resizes t t2 c.from.result a) (sym more)
    c.resize.ensures) in
    whole-changed s.limits s.store.area s.store.inodes c0 (g.M.Medium.size s.store.medium) s.store.map t c.requires.whole n.area n.inodes
    (g.M.Medium.size n.medium) e.area e.inodes e.size (g.M.Medium.content n.medium) n.map t2 c.args.inode
    c.requires.within f.0 (with_bytes (resized c.args.size) f.0) f.1 refl (λ is_dir. absurd (file-no_dir f.0.kind f.2 is_dir)) rows
    (becomes-some n.area n.inodes (g.M.Medium.size n.medium) c.args.inode _ f.0
    (with_bytes (resized c.args.size)) c0 (g.M.Medium.content n.medium) n.map f.1 e.file)
    (omega (arith, most, size, more, room, c.from-2.ensures))

pub returns-clause-node : goal.returns-clause-node
returns-clause-node g c =
    let s = c.args.self.now in
    let c0 = g.M.Medium.content s.store.medium in
    let t = tables_of s.tables in
    let n = c.set_size.new.self in
    let e = c.in_ok-set_size.ensures in
    let t2 = tables_of c.resize.new.self in
    let f = file-there s.limits s.store.area s.store.inodes c0 (g.M.Medium.size s.store.medium) s.store.map t c.requires.whole c.args.inode c.requires.within AFile c.requires.used in
    let there = there-file s.limits s.store.area s.store.inodes c0 (g.M.Medium.size s.store.medium) s.store.map t c.requires.whole c.args.inode c.requires.within f.0 f.1 in
    let most = file-used s.store.inodes (files_of s.store.area s.store.inodes c0) t c.requires.whole.tied c.args.inode
    f.0 there in
    let size = c.requires.old f.0 f.1 in
    let more : length ((resized c.args.size) f.0.bytes) ≡ c.from-2.result = length-resized c.args.size f.0.bytes ∙ sym c.from-2.ensures in
    let within = c.requires.whole.within in
    let room = c.requires.room in
    let rows : Resizes t t2 (length f.0.bytes) (length ((resized c.args.size) f.0.bytes)) = subst (λ b. Resizes t t2 b
    (length ((resized c.args.size) f.0.bytes))) (c.from.ensures ∙ sym size) (subst (λ a. Resizes t t2 c.from.result a) (sym more)
    c.resize.ensures) in
    held-changed s.limits s.store.area s.store.inodes c0 (g.M.Medium.size s.store.medium) s.store.map t c.requires.whole n.area n.inodes
    (g.M.Medium.size n.medium) e.area e.inodes e.size (g.M.Medium.content n.medium) n.map t2 c.args.inode
    c.requires.within f.0 (with_bytes (resized c.args.size) f.0) f.1 refl (λ is_dir. absurd (file-no_dir f.0.kind f.2 is_dir)) rows
    (becomes-some n.area n.inodes (g.M.Medium.size n.medium) c.args.inode _ f.0
    (with_bytes (resized c.args.size)) c0 (g.M.Medium.content n.medium) n.map f.1 e.file)
    (omega (arith, most, size, more, room, c.from-2.ensures))
    (node_bytes (resized c.args.size)) (file-node t.handle c.args.inode f.0 (resized c.args.size) f.2)

pub returns-clause-first : goal.returns-clause-first
returns-clause-first g c = c.in_ok-set_size.ensures.file.changes.first
