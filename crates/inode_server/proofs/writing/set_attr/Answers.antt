use Rattle.std.proofs.Common.{Some, refl, ap, ◌∙◌, arith}
use Rattle.server_trait.specs.Calls.{SetAttr}
use Rattle.server_trait.specs.Tree.{edited, with_attr}
use Rattle.server_trait.specs.declared.server.SrvErr.TheVariants.{Stale}
use Rattle.server_trait.proofs.SoftLaws.{node_soft}
use Rattle.inode_tree.specs.Whole.{tree_in}
use Rattle.inode_tree.proofs.TiedLaws.{some_is}
use Rattle.inode_server.proofs.AskLaws.{set_attr_call}
use Rattle.inode_server.proofs.CallLaws.{same_refl, refused, broke, did}
use Rattle.inode_server.proofs.FoundLaws.{stale, node_is}
use Rattle.inode_server.proofs.writing.set_attr.Goals as goal

pub returns-in_default : goal.returns-in_default
returns-in_default g c =
    let s = c.args.tree.now in
    refused g.M.Medium.content g.M.Medium.size g.M.Medium.faults (λ a. SetAttr a c.args.node.now c.args.mode c.args.uid c.args.gid) s (set_attr_call g.M.Medium.content g.M.Medium.faults s c.args.node.now c.args.mode c.args.uid c.args.gid) s Stale refl
    (stale g.M.Medium.content g.M.Medium.size s c.requires c.args.node.now c.in_default.ensures) (same_refl g.M.Medium.content g.M.Medium.size g.M.Medium.faults s) c.requires

pub set_attr-requires-clause-within : goal.set_attr-requires-clause-within
set_attr-requires-clause-within g c =
    let at = c.in-Some.ensures in
    let l = at.0 in
    let n = c.requires.tied.inodes in
    omega (arith, l, n)

pub set_attr-requires-clause-used : goal.set_attr-requires-clause-used
set_attr-requires-clause-used g c =
    let at = c.in-Some.ensures in
    some_is at.2

pub returns-in-Ok : goal.returns-in-Ok
returns-in-Ok g c =
    let s = c.args.tree.now in
    let n = c.set_attr.new.self in
    let e = c.in-Ok.ensures in
    let at = c.in-Some.ensures in
    let h = c.args.node.now in
    did g.M.Medium.content g.M.Medium.size g.M.Medium.faults (λ a. SetAttr a c.args.node.now c.args.mode c.args.uid c.args.gid) s (set_attr_call g.M.Medium.content g.M.Medium.faults s c.args.node.now c.args.mode c.args.uid c.args.gid) n tt
    (ap Some e.node ∙ ap (λ h. Some (edited (tree_in g.M.Medium.content s) h (with_attr c.args.mode c.args.uid c.args.gid))) at.1)
    (node_soft (tree_in g.M.Medium.content s) h _ (node_is g.M.Medium.content g.M.Medium.size s c.requires h c.in-Some.inode _ at.1 at.2))
    record { limits = e.limits; area = e.area; inodes = e.inodes; on_medium = e.size } e.cause.ok e.whole e.first

pub returns-in-Err : goal.returns-in-Err
returns-in-Err g c =
    let s = c.args.tree.now in
    let e = c.in-Err.ensures in
    broke g.M.Medium.content g.M.Medium.size g.M.Medium.faults (λ a. SetAttr a c.args.node.now c.args.mode c.args.uid c.args.gid) s (set_attr_call g.M.Medium.content g.M.Medium.faults s c.args.node.now c.args.mode c.args.uid c.args.gid) c.set_attr.new.self c.in-Err.e c.srv_error.result
    c.srv_error.ensures (g.M.Medium.faults s.store.medium) refl record { limits = e.limits; area = e.area; inodes = e.inodes; on_medium = e.size } e.cause
