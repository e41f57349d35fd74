use Rattle.std.proofs.Common.{◌<◌, Some, length, refl, sym, ap, ◌∙◌, arith}
use Rattle.std.proofs.lemmas.Result.{err_from_is_err_and}
use Rattle.nfs2_types.specs.declared.fattr.Kind.TheVariants.{Link}
use Rattle.server_trait.specs.Calls.{ReadLink}
use Rattle.server_trait.specs.Tree.{text_in}
use Rattle.server_trait.proofs.SoftLaws.{read_link_soft}
use Rattle.inode_tree.specs.Whole.{tree_in}
use Rattle.inode_tree.proofs.TiedLaws.{some_is}
use Rattle.inode_server.proofs.AskLaws.{read_link_call, content_kept, all_of}
use Rattle.inode_server.proofs.CallLaws.{IsSame, same_refl, tree-same, refused, broke, did}
use Rattle.inode_server.proofs.FoundLaws.{file_at-kind, in_store, text_is, few_bytes}
use Rattle.inode_server.proofs.asking.read_link.Goals as goal

pub returns-in_err-inode : goal.returns-in_err-inode
returns-in_err-inode g c =
    let s = c.args.tree.now in
    let p = err_from_is_err_and c.from_residual.result c.from_residual.ensures.1 in
    rw (p.1, p.2) (refused g.M.Medium.content g.M.Medium.size g.M.Medium.faults (λ a. ReadLink a c.args.link.now) s (read_link_call g.M.Medium.content g.M.Medium.faults s c.args.link.now) s c.in_err-inode.field-0.0 (content_kept text_in (tree_in g.M.Medium.content s) c.args.link.now c.in_err-inode.field-0.0 c.in_err-inode.ensures) (c.in_err-inode.ensures) (same_refl g.M.Medium.content g.M.Medium.size g.M.Medium.faults s) c.requires)

pub read-requires-clause-within : goal.read-requires-clause-within
read-requires-clause-within g c =
    let l = c.in_ok-inode.ensures.within in
    let n = c.requires.tied.inodes in
    omega (arith, l, n)

pub read-requires-clause-used : goal.read-requires-clause-used
read-requires-clause-used g c =
    some_is c.in_ok-inode.ensures.kind_is

pub returns-in-Ok : goal.returns-in-Ok
returns-in-Ok g c =
    let s = c.args.tree.now in
    let n = c.read.new.self in
    let e = c.in-Ok.ensures in
    let found = c.in_ok-inode.ensures in
    let same : IsSame g.M.Medium.content g.M.Medium.size g.M.Medium.faults s n = record {
      alike = record { limits = e.limits; area = e.area; inodes = e.inodes; on_medium = e.size };
      tables = e.tables;
      blocks = e.content;
      count = e.cause.ok;
    } in
    let f = file_at-kind g.M.Medium.content g.M.Medium.size s c.requires c.in_ok-inode.inode Link found.kind_is in
    let there = text_is g.M.Medium.content g.M.Medium.size s c.requires c.args.link.now c.in_ok-inode.inode found.handle found.kind_is in
    did g.M.Medium.content g.M.Medium.size g.M.Medium.faults (λ a. ReadLink a c.args.link.now) s (read_link_call g.M.Medium.content g.M.Medium.faults s c.args.link.now) n c.in-Ok.text (
      there ∙ ap Some (sym (e.bytes f.0 (in_store g.M.Medium.content g.M.Medium.size s c.requires c.in_ok-inode.inode f.0 f.1)
          ∙ all_of f.0.bytes 4294967295 (let l = few_bytes g.M.Medium.content g.M.Medium.size s c.requires c.in_ok-inode.inode f.0 f.1 in let l' : length f.0.bytes < 2147483648 = l in omega (arith, l')))),
      ap Some (tree-same g.M.Medium.content g.M.Medium.size g.M.Medium.faults s n same),
    )
    (read_link_soft (tree_in g.M.Medium.content s) c.args.link.now f.0.bytes there) same.alike same.count e.whole (ap (λ c. c 0) e.content)

pub returns-in-Err : goal.returns-in-Err
returns-in-Err g c =
    let s = c.args.tree.now in
    let e = c.in-Err.ensures in
    broke g.M.Medium.content g.M.Medium.size g.M.Medium.faults (λ a. ReadLink a c.args.link.now) s (read_link_call g.M.Medium.content g.M.Medium.faults s c.args.link.now) c.read.new.self c.in-Err.e c.srv_error.result
    c.srv_error.ensures (g.M.Medium.faults s.store.medium) refl record { limits = e.limits; area = e.area; inodes = e.inodes; on_medium = e.size } e.cause
