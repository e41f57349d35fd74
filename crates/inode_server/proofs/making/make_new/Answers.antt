use Rattle.std.proofs.Common.{◌+◌, length, refl, ap, ◌∙◌, arith}
use Rattle.server_trait.specs.Calls.{Make}
use Rattle.server_trait.specs.declared.server.ServerLimits.{ServerLimits}
use Rattle.server_trait.specs.declared.server.SrvErr.TheVariants.{Full}
use Rattle.server_trait.proofs.SoftLaws.{make_soft}
use Rattle.server_trait.proofs.TreeLaws.{some_none}
use Rattle.inode_store.specs.Held.{files_of}
use Rattle.inode_tree.specs.Changes.{inode_of}
use Rattle.inode_tree.specs.Kept.{tables_of}
use Rattle.inode_tree.specs.Whole.{tree_in}
use Rattle.inode_tree.proofs.LookLaws.{no-nodes}
use Rattle.inode_server.specs.Made.{content_with}
use Rattle.inode_server.proofs.CallLaws.{IsAlike, alike_trans, broke, did, refused_at}
use Rattle.inode_server.proofs.FoundLaws.{lacks, within}
use Rattle.inode_server.proofs.MakeLaws.{make_call, other, made}
use Rattle.inode_server.proofs.making.make_new.Goals as goal

pub returns-in-Ok-None : goal.returns-in-Ok-None
returns-in-Ok-None g c =
    let s = c.args.tree.now in
    let e = c.in-Ok-None.ensures in
    let at = rw c.in-Ok-None.field-0-is at e.node in
    refused_at g.M.Medium.content g.M.Medium.size g.M.Medium.faults (λ a. Make (content_with c.args.kind c.args.text.now) (length c.args.text.now) a c.args.dir.now c.args.name.now) s (make_call g.M.Medium.content g.M.Medium.faults s (content_with c.args.kind c.args.text.now) (length c.args.text.now) c.args.dir.now c.args.name.now) c.take_with.new.tree Full refl
    (no-nodes s.store.inodes (files_of s.store.area s.store.inodes (g.M.Medium.content s.store.medium)) (tables_of s.tables)
    c.requires.whole.tied s.limits (512 + length c.args.text.now) c.requires.whole.inodes at.1) at.0 record { limits = e.limits; area = e.area; inodes = e.inodes; on_medium = e.size } e.cause.ok
    e.whole e.name

pub returns-in-Err : goal.returns-in-Err
returns-in-Err g c =
    let s = c.args.tree.now in
    let e = c.in-Err.ensures in
    broke g.M.Medium.content g.M.Medium.size g.M.Medium.faults (λ a. Make (content_with c.args.kind c.args.text.now) (length c.args.text.now) a c.args.dir.now c.args.name.now) s (make_call g.M.Medium.content g.M.Medium.faults s (content_with c.args.kind c.args.text.now) (length c.args.text.now) c.args.dir.now c.args.name.now) c.take_with.new.tree c.in-Err.e c.srv_error.result
    c.srv_error.ensures (g.M.Medium.faults s.store.medium) refl record { limits = e.limits; area = e.area; inodes = e.inodes; on_medium = e.size } e.cause

pub add_name-requires-clause-within : goal.add_name-requires-clause-within
add_name-requires-clause-within g c =
    let l = c.requires.dir.within in
    let n = c.requires.whole.tied.inodes in
    let m = c.in-Ok-Some.ensures.inodes in
    omega (arith, l, n, m)

pub add_name-requires-clause-dir : goal.add_name-requires-clause-dir
add_name-requires-clause-dir g c =
    let s = c.args.tree.now in
    let makes = rw c.in-Ok-Some.field-0-is at c.in-Ok-Some.ensures.node in
    makes.kinds c.args.within (other g.M.Medium.content g.M.Medium.size s c.take_with.new.tree c.take_with.new.tree c.requires.whole c.args.dir.now
    c.args.name.now c.args.within c.requires.dir c.in-Ok-Some.inode c.args.kind c.args.text.now makes) ∙ c.requires.dir.kind_is

pub add_name-requires-clause-node : goal.add_name-requires-clause-node
add_name-requires-clause-node g c =
    let makes = rw c.in-Ok-Some.field-0-is at c.in-Ok-Some.ensures.node in
    makes.kind_is

pub add_name-requires-clause-new : goal.add_name-requires-clause-new
add_name-requires-clause-new g c =
    let s = c.args.tree.now in
    let makes = rw c.in-Ok-Some.field-0-is at c.in-Ok-Some.ensures.node in
    ap (λ f. inode_of (f c.args.name.now)) (makes.places c.args.within (other g.M.Medium.content g.M.Medium.size s c.take_with.new.tree
    c.take_with.new.tree c.requires.whole c.args.dir.now c.args.name.now c.args.within c.requires.dir c.in-Ok-Some.inode
    c.args.kind c.args.text.now makes)) ∙ ap inode_of c.requires.new

pub add_name-requires-clause-unlinked : goal.add_name-requires-clause-unlinked
add_name-requires-clause-unlinked g c is =
    let makes = rw c.in-Ok-Some.field-0-is at c.in-Ok-Some.ensures.node in
    makes.unlinked

pub add_name-requires-clause-other : goal.add_name-requires-clause-other
add_name-requires-clause-other g c is_root =
    let tied = c.requires.whole.tied in
    let makes = rw c.in-Ok-Some.field-0-is at c.in-Ok-Some.ensures.node in
    some_none (ap (tables_of c.args.tree.now.tables).kind is_root ∙ tied.kinds 0 ∙ tied.root) makes.was_free

pub add_name-requires-clause-room : goal.add_name-requires-clause-room
add_name-requires-clause-room g c =
    let makes = rw c.in-Ok-Some.field-0-is at c.in-Ok-Some.ensures.node in
    let u = makes.used in
    let l = ap (λ (l : ServerLimits). l.bytes) c.in-Ok-Some.ensures.limits in
    let r = c.requires.room in
    omega (arith, u, l, r)

pub handle-requires : goal.handle-requires
handle-requires g c =
    let makes = rw c.in-Ok-Some.field-0-is at c.in-Ok-Some.ensures.node in
    let l = within g.M.Medium.content g.M.Medium.size c.take_with.new.tree c.in-Ok-Some.ensures.whole c.in-Ok-Some.inode c.args.kind makes.kind_is in
    let e = c.in-Ok.ensures in
    let n = e.whole.tied.inodes in
    let m = e.inodes in
    omega (arith, l, n, m)

pub returns-in-Ok : goal.returns-in-Ok
returns-in-Ok g c =
    let s = c.args.tree.now in
    let mid = c.take_with.new.tree in
    let n = c.add_name.new.self in
    let e = c.in-Ok-Some.ensures in
    let d = c.in-Ok.ensures in
    let makes = rw c.in-Ok-Some.field-0-is at e.node in
    let one : IsAlike g.M.Medium.size s mid = record { limits = e.limits; area = e.area; inodes = e.inodes; on_medium = e.size } in
    let two : IsAlike g.M.Medium.size mid n = record { limits = d.limits; area = d.area; inodes = d.inodes; on_medium = d.size } in
    did g.M.Medium.content g.M.Medium.size g.M.Medium.faults (λ a. Make (content_with c.args.kind c.args.text.now) (length c.args.text.now) a c.args.dir.now c.args.name.now) s (make_call g.M.Medium.content g.M.Medium.faults s (content_with c.args.kind c.args.text.now) (length c.args.text.now) c.args.dir.now c.args.name.now) n c.handle.result
    (made g.M.Medium.content g.M.Medium.size s mid n c.requires.whole c.args.dir.now c.args.name.now c.args.within c.requires.dir c.in-Ok-Some.inode
    c.args.kind c.args.text.now makes d.node c.handle.result (c.handle.ensures ∙ ap (λ f. f c.in-Ok-Some.inode) d.handles))
    (make_soft s.limits (tree_in g.M.Medium.content s) c.args.dir.now c.args.name.now (length c.args.text.now)
    (lacks g.M.Medium.content g.M.Medium.size s c.requires.whole c.args.dir.now c.args.within c.requires.dir.handle c.requires.dir.kind_is
    c.args.name.now c.requires.new)) (alike_trans g.M.Medium.size s mid n one two) (d.cause.ok ∙ e.cause.ok) d.whole (d.first ∙ e.name)

pub returns-in-Err-add_name : goal.returns-in-Err-add_name
returns-in-Err-add_name g c =
    let s = c.args.tree.now in
    let mid = c.take_with.new.tree in
    let n = c.add_name.new.self in
    let e = c.in-Ok-Some.ensures in
    let d = c.in-Err-add_name.ensures in
    let one : IsAlike g.M.Medium.size s mid = record { limits = e.limits; area = e.area; inodes = e.inodes; on_medium = e.size } in
    let two : IsAlike g.M.Medium.size mid n = record { limits = d.limits; area = d.area; inodes = d.inodes; on_medium = d.size } in
    broke g.M.Medium.content g.M.Medium.size g.M.Medium.faults (λ a. Make (content_with c.args.kind c.args.text.now) (length c.args.text.now) a c.args.dir.now c.args.name.now) s (make_call g.M.Medium.content g.M.Medium.faults s (content_with c.args.kind c.args.text.now) (length c.args.text.now) c.args.dir.now c.args.name.now) n c.in-Err-add_name.e c.srv_error-in-Err-add_name.result c.srv_error-in-Err-add_name.ensures
    (g.M.Medium.faults mid.store.medium) e.cause.ok (alike_trans g.M.Medium.size s mid n one two) d.cause
