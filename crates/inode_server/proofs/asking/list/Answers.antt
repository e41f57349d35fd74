use Rattle.std.proofs.Common.{◌≡◌, ◌<◌, ◌/◌, length, List, Some, map, slice_get, refl, sym, ap, ◌∙◌, arith, subst}
use Rattle.std.proofs.lemmas.Result.{err_from_is_err_and}
use Rattle.nfs2_types.specs.declared.fattr.Kind.TheVariants.{Dir}
use Rattle.server_trait.specs.Calls.{ListNames, Lists}
use Rattle.server_trait.specs.declared.server.Listed.{Listed}
use Rattle.server_trait.proofs.SoftLaws.{dir_soft}
use Rattle.server_trait.proofs.TreeLaws.{is_some_and}
use Rattle.inode_dirs.specs.Slots.{names_of}
use Rattle.inode_dirs.specs.SlotBytes.{slots_in}
use Rattle.inode_tree.specs.Kept.{tables_of}
use Rattle.inode_tree.specs.Whole.{tree_in}
use Rattle.inode_tree.specs.declared.tables.InodeTables.{InodeTables}
use Rattle.inode_tree.proofs.TiedLaws.{some_is}
use Rattle.inode_server.specs.Rows.{row_of}
use Rattle.inode_server.proofs.AskLaws.{list_call, dir_kept, rows_are, slot_led, all_of}
use Rattle.inode_server.proofs.CallLaws.{IsSame, same_refl, tree-same, refused, broke, spent, did}
use Rattle.inode_server.proofs.FoundLaws.{names_are, file_at-kind, in_store, few_bytes}
use Rattle.inode_server.proofs.asking.list.Goals as goal

pub returns-in_err-within : goal.returns-in_err-within
returns-in_err-within g c =
    let s = c.args.tree.now in
    let p = err_from_is_err_and c.from_residual.result c.from_residual.ensures.1 in
    rw (p.1, p.2) (refused g.M.Medium.content g.M.Medium.size g.M.Medium.faults (λ a. ListNames a c.args.dir.now) s (list_call g.M.Medium.content g.M.Medium.faults s c.args.dir.now) s c.in_err-within.field-0.0 (dir_kept (tree_in g.M.Medium.content s) c.args.dir.now c.in_err-within.field-0.0 c.in_err-within.ensures) (c.in_err-within.ensures) (same_refl g.M.Medium.content g.M.Medium.size g.M.Medium.faults s) c.requires)

pub read-requires-clause-within : goal.read-requires-clause-within
read-requires-clause-within g c =
    let l = c.in_ok-within.ensures.within in
    let n = c.requires.tied.inodes in
    omega (arith, l, n)

pub read-requires-clause-used : goal.read-requires-clause-used
read-requires-clause-used g c =
    some_is c.in_ok-within.ensures.kind_is

pub returns-in-Err : goal.returns-in-Err
returns-in-Err g c =
    let s = c.args.tree.now in
    let e = c.in-Err.ensures in
    broke g.M.Medium.content g.M.Medium.size g.M.Medium.faults (λ a. ListNames a c.args.dir.now) s (list_call g.M.Medium.content g.M.Medium.faults s c.args.dir.now) c.read.new.self c.in-Err.e c.srv_error.result
    c.srv_error.ensures (g.M.Medium.faults s.store.medium) refl record { limits = e.limits; area = e.area; inodes = e.inodes; on_medium = e.size } e.cause

pub rows_of-requires : goal.rows_of-requires
rows_of-requires g c =
    let s = c.args.tree.now in
    let n = c.read.new.self in
    let e = c.in-Ok.ensures in
    let found = c.in_ok-within.ensures in
    let i = c.in_ok-within.within in
    let f = file_at-kind g.M.Medium.content g.M.Medium.size s c.requires i Dir found.kind_is in
    let l : length f.0.bytes < 2147483648 = few_bytes g.M.Medium.content g.M.Medium.size s c.requires i f.0 f.1 in
    let bytes : c.deref.result.now ≡ f.0.bytes = c.deref.ensures.value
    ∙ e.bytes f.0 (in_store g.M.Medium.content g.M.Medium.size s c.requires i f.0 f.1) ∙ all_of f.0.bytes 4294967295 (omega (arith, l)) in
    record {
      led = λ k x at. subst (λ (t : InodeTables). x.1 < (tables_of t).counts.inodes) (sym e.tables)
          (slot_led g.M.Medium.content g.M.Medium.size s c.requires c.args.dir.now i f.0 f.1 f.2 found.kind_is k x
          (subst (λ b. slice_get (slots_in (length b / 288) b) k ≡ Some x) bytes at));
    }

pub returns-in-Ok-rows_of : goal.returns-in-Ok-rows_of
returns-in-Ok-rows_of g c =
    let s = c.args.tree.now in
    let n = c.read.new.self in
    let e = c.in-Ok.ensures in
    let found = c.in_ok-within.ensures in
    let i = c.in_ok-within.within in
    let f = file_at-kind g.M.Medium.content g.M.Medium.size s c.requires i Dir found.kind_is in
    let l : length f.0.bytes < 2147483648 = few_bytes g.M.Medium.content g.M.Medium.size s c.requires i f.0 f.1 in
    let bytes : c.deref.result.now ≡ f.0.bytes = c.deref.ensures.value
    ∙ e.bytes f.0 (in_store g.M.Medium.content g.M.Medium.size s c.requires i f.0 f.1) ∙ all_of f.0.bytes 4294967295 (omega (arith, l)) in
    let same : IsSame g.M.Medium.content g.M.Medium.size g.M.Medium.faults s n = record {
      alike = record { limits = e.limits; area = e.area; inodes = e.inodes; on_medium = e.size };
      tables = e.tables;
      blocks = e.content;
      count = e.cause.ok;
    } in
    let rows : c.in-Ok-rows_of.rows.items ≡ map (row_of (tables_of s.tables).handle) (slots_in (length f.0.bytes / 288) f.0.bytes) =
    c.in-Ok-rows_of.ensures
    ∙ ap (λ b. map (row_of (tables_of n.tables).handle) (slots_in (length b / 288) b)) bytes
    ∙ ap (λ (t : InodeTables). map (row_of (tables_of t).handle) (slots_in (length f.0.bytes / 288) f.0.bytes)) e.tables in
    let names = names_are g.M.Medium.content g.M.Medium.size s c.requires c.args.dir.now i found.handle found.kind_is in
    did g.M.Medium.content g.M.Medium.size g.M.Medium.faults (λ a. ListNames a c.args.dir.now) s (list_call g.M.Medium.content g.M.Medium.faults s c.args.dir.now) n c.in-Ok-rows_of.rows (
      is_some_and (Lists c.in-Ok-rows_of.rows.items) names (subst (λ (r : List Listed). Lists r
          (names_of (tables_of s.tables).handle (slots_in (length f.0.bytes / 288) f.0.bytes))) (sym rows)
          (rows_are g.M.Medium.content g.M.Medium.size s c.requires c.args.dir.now i f.0 f.1 f.2)),
      ap Some (tree-same g.M.Medium.content g.M.Medium.size g.M.Medium.faults s n same),
    )
    (dir_soft (tree_in g.M.Medium.content s) c.args.dir.now _ names) same.alike same.count e.whole (ap (λ c. c 0) e.content)

pub returns : goal.returns
returns g c =
    let s = c.args.tree.now in
    let e = c.in-Ok.ensures in
    spent g.M.Medium.content g.M.Medium.size g.M.Medium.faults (λ a. ListNames a c.args.dir.now) s (list_call g.M.Medium.content g.M.Medium.faults s c.args.dir.now) c.read.new.self record { limits = e.limits; area = e.area; inodes = e.inodes; on_medium = e.size } e.cause.ok
