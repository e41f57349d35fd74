use Rattle.std.proofs.Common.{◌+◌, ◌-◌, ◌<◌, length, Some, refl, sym, ap, ◌∙◌, arith, subst}
use Rattle.nfs2_types.specs.Bytes.{resized}
use Rattle.nfs2_types.specs.declared.fattr.Kind.TheVariants.{File as AFile}
use Rattle.server_trait.specs.Calls.{SetSize}
use Rattle.server_trait.specs.Step.{NoRoom}
use Rattle.server_trait.specs.Tree.{edited, with_bytes}
use Rattle.server_trait.specs.declared.server.SrvErr.TheVariants.{Full}
use Rattle.server_trait.proofs.SoftLaws.{set_size_soft}
use Rattle.server_trait.proofs.TreeLaws.{is_some_and}
use Rattle.inode_store.specs.Held.{files_of}
use Rattle.inode_tree.specs.Kept.{tables_of}
use Rattle.inode_tree.specs.Whole.{tree_in}
use Rattle.inode_tree.proofs.LookLaws.{no-bytes_left}
use Rattle.inode_server.proofs.AskLaws.{set_size_call}
use Rattle.inode_server.proofs.CallLaws.{same_refl, refused, broke, did}
use Rattle.inode_server.proofs.FoundLaws.{file_at-kind, bytes_are, its_size, size_within}
use Rattle.inode_server.proofs.writing.resize.Goals as goal

pub overflow_sub-used : goal.overflow_sub-used
overflow_sub-used g c =
    let s = c.args.tree.now in
    let less = size_within g.M.Medium.content g.M.Medium.size s c.requires.whole c.args.inode c.requires.file.kind_is c.args.old c.requires.old in
    let used = c.used.ensures in
    let from = c.from.ensures in
    omega (arith, less, used, from)

pub returns-then-used-from : goal.returns-then-used-from
returns-then-used-from g c =
    let s = c.args.tree.now in
    let found = c.requires.file in
    let f = file_at-kind g.M.Medium.content g.M.Medium.size s c.requires.whole c.args.inode AFile found.kind_is in
    let there = bytes_are g.M.Medium.content g.M.Medium.size s c.requires.whole c.args.file.now c.args.inode found.handle found.kind_is in
    let its = its_size g.M.Medium.content g.M.Medium.size s c.requires.whole c.args.inode found.kind_is c.args.old c.requires.old in
    let over = c.if-used-from.true in
    let used = c.used.ensures in
    let from = c.from.ensures in
    let b = c.from-2.ensures in
    let past : s.limits.bytes < ((tables_of s.tables).counts.used - c.args.old) + c.args.size =
    omega (arith, over, used, from, b) in
    refused g.M.Medium.content g.M.Medium.size g.M.Medium.faults (λ a. SetSize a c.args.file.now c.args.size) s (set_size_call g.M.Medium.content g.M.Medium.faults s c.args.file.now c.args.size) s Full refl (is_some_and (λ b. NoRoom s.limits (tree_in g.M.Medium.content s) 0 (length b) c.args.size) there
    (subst (λ n. NoRoom s.limits (tree_in g.M.Medium.content s) 0 n c.args.size) (sym its)
    (no-bytes_left s.store.inodes (files_of s.store.area s.store.inodes (g.M.Medium.content s.store.medium)) (tables_of s.tables) c.requires.whole.tied s.limits 0 c.args.old c.args.size past)))
    (same_refl g.M.Medium.content g.M.Medium.size g.M.Medium.faults s) c.requires.whole

pub overflow_add-used : goal.overflow_add-used
overflow_add-used g c =
    let s = c.args.tree.now in
    let less = size_within g.M.Medium.content g.M.Medium.size s c.requires.whole c.args.inode c.requires.file.kind_is c.args.old c.requires.old in
    let used = c.used.ensures in
    let from = c.from.ensures in
    let within = c.requires.whole.within in
    let limited = c.requires.whole.limited in
    let end = c.requires.end in
    let b = c.from-2.ensures in
    omega (arith, less, used, from, within, limited, end, b)

pub set_size-requires-clause-within : goal.set_size-requires-clause-within
set_size-requires-clause-within g c =
    let l = c.requires.file.within in
    let n = c.requires.whole.tied.inodes in
    omega (arith, l, n)

pub set_size-requires-clause-room : goal.set_size-requires-clause-room
set_size-requires-clause-room g c =
    let room = c.if-used-from.false in
    let used = c.used.ensures in
    let from = c.from.ensures in
    let b = c.from-2.ensures in
    omega (arith, room, used, from, b)

pub returns-in-Ok : goal.returns-in-Ok
returns-in-Ok g c =
    let s = c.args.tree.now in
    let found = c.requires.file in
    let f = file_at-kind g.M.Medium.content g.M.Medium.size s c.requires.whole c.args.inode AFile found.kind_is in
    let there = bytes_are g.M.Medium.content g.M.Medium.size s c.requires.whole c.args.file.now c.args.inode found.handle found.kind_is in
    let its = its_size g.M.Medium.content g.M.Medium.size s c.requires.whole c.args.inode found.kind_is c.args.old c.requires.old in
    let n = c.set_size.new.self in
    let e = c.in-Ok.ensures in
    did g.M.Medium.content g.M.Medium.size g.M.Medium.faults (λ a. SetSize a c.args.file.now c.args.size) s (set_size_call g.M.Medium.content g.M.Medium.faults s c.args.file.now c.args.size) n tt (ap Some e.node ∙ ap (λ h. Some (edited (tree_in g.M.Medium.content s) h (with_bytes (resized c.args.size))))
    found.handle) (set_size_soft s.limits (tree_in g.M.Medium.content s) c.args.file.now f.0.bytes c.args.size there)
    record { limits = e.limits; area = e.area; inodes = e.inodes; on_medium = e.size } e.cause.ok e.whole e.first

pub returns-in-Err : goal.returns-in-Err
returns-in-Err g c =
    let s = c.args.tree.now in
    let e = c.in-Err.ensures in
    broke g.M.Medium.content g.M.Medium.size g.M.Medium.faults (λ a. SetSize a c.args.file.now c.args.size) s (set_size_call g.M.Medium.content g.M.Medium.faults s c.args.file.now c.args.size) c.set_size.new.self c.in-Err.e c.srv_error.result
    c.srv_error.ensures (g.M.Medium.faults s.store.medium) refl record { limits = e.limits; area = e.area; inodes = e.inodes; on_medium = e.size } e.cause
