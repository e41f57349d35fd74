use Rattle.std.proofs.Common.{◌≡◌, ◌<◌, Some, refl, sym, ap, ◌∙◌, arith, subst}
use Rattle.server_trait.specs.Calls.{Attr, IsAttr}
use Rattle.server_trait.specs.declared.server.NodeAttr.{NodeAttr}
use Rattle.server_trait.specs.declared.server.SrvErr.TheVariants.{Stale}
use Rattle.server_trait.proofs.SoftLaws.{node_soft}
use Rattle.server_trait.proofs.TreeLaws.{is_some_and}
use Rattle.inode_dirs.specs.Files.{entry_of}
use Rattle.inode_dirs.specs.Table.{node_of}
use Rattle.inode_tree.specs.Kept.{tables_of}
use Rattle.inode_tree.specs.Whole.{tree_in}
use Rattle.inode_tree.specs.declared.tables.InodeTables.{InodeTables}
use Rattle.inode_tree.proofs.TiedLaws.{some_is}
use Rattle.inode_server.specs.Found.{attr_told}
use Rattle.inode_server.proofs.AskLaws.{attr_call, attr_is}
use Rattle.inode_server.proofs.CallLaws.{IsSame, same_refl, tree-same, refused, broke, did}
use Rattle.inode_server.proofs.FoundLaws.{stale, file_at-kind, in_store, node_is}
use Rattle.inode_server.proofs.asking.attr.Goals as goal

pub returns-in_default : goal.returns-in_default
returns-in_default g c =
    let s = c.args.tree.now in
    refused g.M.Medium.content g.M.Medium.size g.M.Medium.faults (λ a. Attr a c.args.node.now) s (attr_call g.M.Medium.content g.M.Medium.faults s c.args.node.now) s Stale refl
    (stale g.M.Medium.content g.M.Medium.size s c.requires c.args.node.now c.in_default.ensures) (same_refl g.M.Medium.content g.M.Medium.size g.M.Medium.faults s) c.requires

pub inode-requires-clause-within : goal.inode-requires-clause-within
inode-requires-clause-within g c =
    let at = c.in-Some.ensures in
    let l = at.0 in
    let n = c.requires.tied.inodes in
    omega (arith, l, n)

pub inode-requires-clause-used : goal.inode-requires-clause-used
inode-requires-clause-used g c =
    let at = c.in-Some.ensures in
    some_is at.2

pub attr_of-requires : goal.attr_of-requires
attr_of-requires g c =
    let at = c.in-Some.ensures in
    subst (λ (t : InodeTables). c.in-Some.inode < (tables_of t).counts.inodes) (sym c.in-Ok.ensures.tables) at.0

pub returns-in-Ok : goal.returns-in-Ok
returns-in-Ok g c =
    let s = c.args.tree.now in
    let n = c.inode.new.self in
    let e = c.in-Ok.ensures in
    let at = c.in-Some.ensures in
    let same : IsSame g.M.Medium.content g.M.Medium.size g.M.Medium.faults s n = record {
      alike = record { limits = e.limits; area = e.area; inodes = e.inodes; on_medium = e.size };
      tables = e.tables;
      blocks = e.content;
      count = e.cause.ok;
    } in
    let h = c.args.node.now in
    let t = tables_of s.tables in
    let f = file_at-kind g.M.Medium.content g.M.Medium.size s c.requires c.in-Some.inode _ at.2 in
    let node = node_is g.M.Medium.content g.M.Medium.size s c.requires h c.in-Some.inode _ at.1 at.2 in
    let told : c.attr_of.result ≡ attr_told t c.in-Some.inode c.in-Ok.found = c.attr_of.ensures
    ∙ ap (λ (t : InodeTables). attr_told (tables_of t) c.in-Some.inode c.in-Ok.found) e.tables in
    let is = attr_is g.M.Medium.content g.M.Medium.size s c.requires h c.in-Some.inode at.1 f.0 f.1 c.in-Ok.found
    (e.inode f.0 (in_store g.M.Medium.content g.M.Medium.size s c.requires c.in-Some.inode f.0 f.1)) in
    did g.M.Medium.content g.M.Medium.size g.M.Medium.faults (λ a. Attr a c.args.node.now) s (attr_call g.M.Medium.content g.M.Medium.faults s c.args.node.now) n c.attr_of.result (
      is_some_and (IsAttr (tree_in g.M.Medium.content s) h c.attr_of.result) node
          (subst (λ (a : NodeAttr). IsAttr (tree_in g.M.Medium.content s) h a (node_of t.handle c.in-Some.inode (entry_of f.0))) (sym told) is),
      ap Some (tree-same g.M.Medium.content g.M.Medium.size g.M.Medium.faults s n same),
    )
    (node_soft (tree_in g.M.Medium.content s) h (node_of t.handle c.in-Some.inode (entry_of f.0)) node)
    same.alike same.count e.whole (ap (λ c. c 0) e.content)

pub returns-in-Err : goal.returns-in-Err
returns-in-Err g c =
    let s = c.args.tree.now in
    let e = c.in-Err.ensures in
    broke g.M.Medium.content g.M.Medium.size g.M.Medium.faults (λ a. Attr a c.args.node.now) s (attr_call g.M.Medium.content g.M.Medium.faults s c.args.node.now) c.inode.new.self c.in-Err.e c.srv_error.result
    c.srv_error.ensures (g.M.Medium.faults s.store.medium) refl record { limits = e.limits; area = e.area; inodes = e.inodes; on_medium = e.size } e.cause
