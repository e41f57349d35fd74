use Rattle.std.proofs.Common.{length, refl, sym, ap, ◌∙◌, arith, subst}
use Rattle.std.proofs.lemmas.Result.{err_from_is_err_and}
use Rattle.nfs2_types.specs.declared.fattr.Kind.TheVariants.{File as AFile}
use Rattle.server_trait.specs.Calls.{Write}
use Rattle.server_trait.specs.Tree.{bytes_in}
use Rattle.inode_store.specs.Inodes.{file_at}
use Rattle.inode_tree.specs.Kept.{tables_of}
use Rattle.inode_tree.specs.Whole.{tree_in}
use Rattle.inode_tree.specs.declared.tables.InodeTables.{InodeTables}
use Rattle.inode_tree.proofs.TiedLaws.{some_is}
use Rattle.inode_server.specs.Found.{IsFound}
use Rattle.inode_server.proofs.AskLaws.{write_call, content_kept, file_write}
use Rattle.inode_server.proofs.CallLaws.{IsSame, same_refl, refused, broke, after-same}
use Rattle.inode_server.proofs.writing.write.Goals as goal

pub returns-in_err-inode : goal.returns-in_err-inode
returns-in_err-inode g c =
    let s = c.args.tree.now in
    let p = err_from_is_err_and c.from_residual.result c.from_residual.ensures.1 in
    rw (p.1, p.2) (refused g.M.Medium.content g.M.Medium.size g.M.Medium.faults (λ a. Write a c.args.file.now c.args.offset c.args.piece.now) s (write_call g.M.Medium.content g.M.Medium.faults s c.args.file.now c.args.offset c.args.piece.now) s c.in_err-inode.field-0.0 (content_kept bytes_in (tree_in g.M.Medium.content s) c.args.file.now c.in_err-inode.field-0.0 c.in_err-inode.ensures) (file_write s.limits (tree_in g.M.Medium.content s) c.args.file.now c.args.offset (length c.args.piece.now) c.in_err-inode.field-0.0 c.in_err-inode.ensures) (same_refl g.M.Medium.content g.M.Medium.size g.M.Medium.faults s) c.requires.whole)

pub inode-requires-clause-within : goal.inode-requires-clause-within
inode-requires-clause-within g c =
    let l = c.in_ok-inode.ensures.within in
    let n = c.requires.whole.tied.inodes in
    omega (arith, l, n)

pub inode-requires-clause-used : goal.inode-requires-clause-used
inode-requires-clause-used g c =
    some_is c.in_ok-inode.ensures.kind_is

pub write_at-requires-clause-file : goal.write_at-requires-clause-file
write_at-requires-clause-file g c =
    subst (λ (t : InodeTables). IsFound (tables_of t) c.args.file.now AFile c.in_ok-inode.inode) (sym c.in-Ok.ensures.tables)
    c.in_ok-inode.ensures

pub write_at-requires-clause-size : goal.write_at-requires-clause-size
write_at-requires-clause-size g c f is =
    let s = c.args.tree.now in
    let e = c.in-Ok.ensures in
    (e.inode f (ap (λ a. file_at a (g.M.Medium.content s.store.medium) c.in_ok-inode.inode) (sym e.area)
    ∙ ap (λ b. file_at c.inode.new.self.store.area b c.in_ok-inode.inode) (sym e.content) ∙ is)).size

pub returns-in-Ok : goal.returns-in-Ok
returns-in-Ok g c =
    let s = c.args.tree.now in
    let n = c.inode.new.self in
    let e = c.in-Ok.ensures in
    let same : IsSame g.M.Medium.content g.M.Medium.size g.M.Medium.faults s n = record {
      alike = record { limits = e.limits; area = e.area; inodes = e.inodes; on_medium = e.size };
      tables = e.tables;
      blocks = e.content;
      count = e.cause.ok;
    } in
    after-same g.M.Medium.content g.M.Medium.size g.M.Medium.faults (λ a. Write a c.args.file.now c.args.offset c.args.piece.now) s n c.write_at.result c.write_at.new.tree same c.write_at.ensures

pub returns-in-Err : goal.returns-in-Err
returns-in-Err g c =
    let s = c.args.tree.now in
    let e = c.in-Err.ensures in
    broke g.M.Medium.content g.M.Medium.size g.M.Medium.faults (λ a. Write a c.args.file.now c.args.offset c.args.piece.now) s (write_call g.M.Medium.content g.M.Medium.faults s c.args.file.now c.args.offset c.args.piece.now) c.inode.new.self c.in-Err.e c.srv_error.result
    c.srv_error.ensures (g.M.Medium.faults s.store.medium) refl record { limits = e.limits; area = e.area; inodes = e.inodes; on_medium = e.size } e.cause
