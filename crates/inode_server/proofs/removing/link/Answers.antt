use Rattle.std.proofs.Common.{Some, refl, sym, ap, ◌∙◌, arith}
use Rattle.std.proofs.lemmas.Result.{err_from_is_err_and}
use Rattle.server_trait.specs.Calls.{Link as LinkCall}
use Rattle.server_trait.specs.Tree.{named}
use Rattle.server_trait.specs.declared.server.SrvErr.TheVariants.{Exists, Full}
use Rattle.server_trait.proofs.NameSoftLaws.{link_soft}
use Rattle.server_trait.proofs.TreeLaws.{some_same}
use Rattle.inode_store.specs.Held.{files_of}
use Rattle.inode_tree.specs.Changes.{inode_of}
use Rattle.inode_tree.specs.Kept.{tables_of}
use Rattle.inode_tree.specs.Whole.{tree_in}
use Rattle.inode_tree.proofs.LookLaws.{no-bytes_left}
use Rattle.inode_tree.proofs.TiedLaws.{some_of}
use Rattle.inode_server.proofs.AskLaws.{dir_kept}
use Rattle.inode_server.proofs.CallLaws.{same_refl, refused, broke, did}
use Rattle.inode_server.proofs.FoundLaws.{has, lacks, none_is, not_dir}
use Rattle.inode_server.proofs.MoveLaws.{link_call, dir_link, leaf_link, leaf_kept}
use Rattle.inode_server.proofs.removing.link.Goals as goal

pub returns-in_err-inode : goal.returns-in_err-inode
returns-in_err-inode g c =
    let s = c.args.tree.now in
    let p = err_from_is_err_and c.from_residual.result c.from_residual.ensures.1 in
    rw (p.1, p.2) (refused g.M.Medium.content g.M.Medium.size g.M.Medium.faults (λ a. LinkCall a c.args.node.now c.args.dir.now c.args.name.now) s (link_call g.M.Medium.content g.M.Medium.faults s c.args.dir.now c.args.name.now c.args.node.now) s c.in_err-inode.field-0.0 (leaf_kept (tables_of s.tables) (tree_in g.M.Medium.content s) c.args.node.now c.in_err-inode.field-0.0 c.in_err-inode.ensures) (leaf_link s.limits (tables_of s.tables) (tree_in g.M.Medium.content s) c.args.node.now c.args.dir.now c.args.name.now c.in_err-inode.field-0.0 c.in_err-inode.ensures) (same_refl g.M.Medium.content g.M.Medium.size g.M.Medium.faults s) c.requires.whole)

pub returns-in-Err : goal.returns-in-Err
returns-in-Err g c =
    let s = c.args.tree.now in
    refused g.M.Medium.content g.M.Medium.size g.M.Medium.faults (λ a. LinkCall a c.args.node.now c.args.dir.now c.args.name.now) s (link_call g.M.Medium.content g.M.Medium.faults s c.args.dir.now c.args.name.now c.args.node.now) s c.in-Err.e (dir_kept (tree_in g.M.Medium.content s) c.args.dir.now c.in-Err.e c.in-Err.ensures)
    (dir_link s.limits (tree_in g.M.Medium.content s) c.args.node.now c.args.dir.now c.args.name.now c.in-Err.e c.in-Err.ensures) (same_refl g.M.Medium.content g.M.Medium.size g.M.Medium.faults s) c.requires.whole

pub place-requires : goal.place-requires
place-requires g c =
    c.in-Ok.ensures.within

pub returns-then-is_some : goal.returns-then-is_some
returns-then-is_some g c =
    let s = c.args.tree.now in
    let found = c.in-Ok.ensures in
    let p = some_of c.place.result (sym c.is_some.ensures ∙ c.if-is_some.true) in
    refused g.M.Medium.content g.M.Medium.size g.M.Medium.faults (λ a. LinkCall a c.args.node.now c.args.dir.now c.args.name.now) s (link_call g.M.Medium.content g.M.Medium.faults s c.args.dir.now c.args.name.now c.args.node.now) s Exists refl
    (has g.M.Medium.content g.M.Medium.size s c.requires.whole c.args.dir.now c.in-Ok.within found.handle found.kind_is c.args.name.now p.0
    (sym c.place.ensures ∙ p.1)) (same_refl g.M.Medium.content g.M.Medium.size g.M.Medium.faults s) c.requires.whole

pub returns-then-used-tree : goal.returns-then-used-tree
returns-then-used-tree g c =
    let s = c.args.tree.now in
    let over = c.if-used-tree.true in
    let used = c.used.ensures in
    refused g.M.Medium.content g.M.Medium.size g.M.Medium.faults (λ a. LinkCall a c.args.node.now c.args.dir.now c.args.name.now) s (link_call g.M.Medium.content g.M.Medium.faults s c.args.dir.now c.args.name.now c.args.node.now) s Full refl
    (no-bytes_left s.store.inodes (files_of s.store.area s.store.inodes (g.M.Medium.content s.store.medium)) (tables_of s.tables)
    c.requires.whole.tied s.limits 0 0 512 (omega (arith, over, used)))
    (same_refl g.M.Medium.content g.M.Medium.size g.M.Medium.faults s) c.requires.whole

pub add_name-requires-clause-within : goal.add_name-requires-clause-within
add_name-requires-clause-within g c =
    let l = c.in-Ok.ensures.within in
    let n = c.requires.whole.tied.inodes in
    omega (arith, l, n)

pub add_name-requires-clause-dir : goal.add_name-requires-clause-dir
add_name-requires-clause-dir g c =
    c.in-Ok.ensures.kind_is

pub add_name-requires-clause-node : goal.add_name-requires-clause-node
add_name-requires-clause-node g c =
    c.in_ok-inode.ensures.0.kind_is

pub add_name-requires-clause-new : goal.add_name-requires-clause-new
add_name-requires-clause-new g c =
    ap inode_of (sym c.place.ensures ∙ none_is c.place.result (sym c.is_some.ensures ∙ c.if-is_some.false))

pub add_name-requires-clause-unlinked : goal.add_name-requires-clause-unlinked
add_name-requires-clause-unlinked g c is =
    absurd (c.in_ok-inode.ensures.1 is)

pub add_name-requires-clause-other : goal.add_name-requires-clause-other
add_name-requires-clause-other g c is_root =
    let tied = c.requires.whole.tied in
    let leaf = c.in_ok-inode.ensures in
    leaf.1 (some_same leaf.0.kind_is (ap (tables_of c.args.tree.now.tables).kind is_root ∙ tied.kinds 0 ∙ tied.root))

pub add_name-requires-clause-room : goal.add_name-requires-clause-room
add_name-requires-clause-room g c =
    let room = c.if-used-tree.false in
    let used = c.used.ensures in
    omega (arith, room, used)

pub returns-in-Ok-add_name : goal.returns-in-Ok-add_name
returns-in-Ok-add_name g c =
    let s = c.args.tree.now in
    let n = c.add_name.new.self in
    let e = c.in-Ok-add_name.ensures in
    let found = c.in-Ok.ensures in
    let leaf = c.in_ok-inode.ensures in
    did g.M.Medium.content g.M.Medium.size g.M.Medium.faults (λ a. LinkCall a c.args.node.now c.args.dir.now c.args.name.now) s (link_call g.M.Medium.content g.M.Medium.faults s c.args.dir.now c.args.name.now c.args.node.now) n tt (ap Some e.node
    ∙ ap (λ d. Some (named (tree_in g.M.Medium.content s) d c.args.name.now ((tables_of s.tables).handle c.in_ok-inode.inode))) found.handle
    ∙ ap (λ h. Some (named (tree_in g.M.Medium.content s) c.args.dir.now c.args.name.now h)) leaf.0.handle)
    (link_soft s.limits (tree_in g.M.Medium.content s) c.args.node.now c.args.dir.now c.args.name.now
    (not_dir g.M.Medium.content g.M.Medium.size s c.requires.whole c.args.node.now c.in_ok-inode.inode c.in_ok-inode.kind leaf.0.handle leaf.0.kind_is leaf.1)
    (lacks g.M.Medium.content g.M.Medium.size s c.requires.whole c.args.dir.now c.in-Ok.within found.handle found.kind_is c.args.name.now
    (sym c.place.ensures ∙ none_is c.place.result (sym c.is_some.ensures ∙ c.if-is_some.false))))
    record { limits = e.limits; area = e.area; inodes = e.inodes; on_medium = e.size } e.cause.ok e.whole e.first

pub returns-in-Err-add_name : goal.returns-in-Err-add_name
returns-in-Err-add_name g c =
    let s = c.args.tree.now in
    let e = c.in-Err-add_name.ensures in
    broke g.M.Medium.content g.M.Medium.size g.M.Medium.faults (λ a. LinkCall a c.args.node.now c.args.dir.now c.args.name.now) s (link_call g.M.Medium.content g.M.Medium.faults s c.args.dir.now c.args.name.now c.args.node.now) c.add_name.new.self c.in-Err-add_name.e c.srv_error.result
    c.srv_error.ensures (g.M.Medium.faults s.store.medium) refl record { limits = e.limits; area = e.area; inodes = e.inodes; on_medium = e.size } e.cause
