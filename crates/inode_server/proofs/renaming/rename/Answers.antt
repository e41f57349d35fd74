use Rattle.std.proofs.Common.{refl, sym, ◌∙◌}
use Rattle.std.proofs.lemmas.Result.{err_from_is_err_and}
use Rattle.server_trait.specs.Calls.{Rename}
use Rattle.server_trait.specs.declared.server.SrvErr.TheVariants.{NoEnt, Refused}
use Rattle.server_trait.proofs.TreeLaws.{some_none}
use Rattle.inode_tree.specs.Kept.{tables_of}
use Rattle.inode_tree.specs.Whole.{tree_in}
use Rattle.inode_tree.proofs.TiedLaws.{some_of}
use Rattle.inode_server.proofs.AskLaws.{dir_kept}
use Rattle.inode_server.proofs.CallLaws.{same_refl, refused}
use Rattle.inode_server.proofs.FoundLaws.{has, lacks, led_kind, led_counted}
use Rattle.inode_server.proofs.MoveLaws.{rename_call, from_rename, to_rename}
use Rattle.inode_server.proofs.renaming.rename.Goals as goal

pub returns-then-is_some : goal.returns-then-is_some
returns-then-is_some g c =
    let s = c.args.tree.now in
    let found = c.in-Ok.ensures in
    let p = some_of c.place-2.result (sym c.is_some.ensures ∙ c.if-is_some.true) in
    refused g.M.Medium.content g.M.Medium.size g.M.Medium.faults (λ a. Rename a c.args.from.now c.args.name.now c.args.to.now c.args.to_name.now) s (rename_call g.M.Medium.content g.M.Medium.faults s c.args.from.now c.args.name.now c.args.to.now c.args.to_name.now) s Refused refl
    (has g.M.Medium.content g.M.Medium.size s c.requires.whole c.args.to.now c.in-Ok.into found.handle found.kind_is c.args.to_name.now p.0
    (sym c.place-2.ensures ∙ p.1)) (same_refl g.M.Medium.content g.M.Medium.size g.M.Medium.faults s) c.requires.whole

pub kind-requires : goal.kind-requires
kind-requires g c =
    let s = c.args.tree.now in
    led_counted g.M.Medium.content g.M.Medium.size s c.requires.whole c.in_ok-within.within c.in_ok-within.ensures.kind_is c.args.name.now c.in-Some.place (sym c.place.ensures ∙ c.in-Some.is)

pub unreachable-requires : goal.unreachable-requires
unreachable-requires g c =
    let s = c.args.tree.now in
    let k = some_of ((tables_of s.tables).kind c.in-Some.place.inode) (led_kind g.M.Medium.content g.M.Medium.size s c.requires.whole c.in_ok-within.within
    c.in_ok-within.ensures.kind_is c.args.name.now c.in-Some.place (sym c.place.ensures ∙ c.in-Some.is)) in
    some_none k.1 (sym c.kind.ensures ∙ c.in_default-kind.is)

pub returns-in_err-within : goal.returns-in_err-within
returns-in_err-within g c =
    let s = c.args.tree.now in
    let p = err_from_is_err_and c.from_residual.result c.from_residual.ensures.1 in
    rw (p.1, p.2) (refused g.M.Medium.content g.M.Medium.size g.M.Medium.faults (λ a. Rename a c.args.from.now c.args.name.now c.args.to.now c.args.to_name.now) s (rename_call g.M.Medium.content g.M.Medium.faults s c.args.from.now c.args.name.now c.args.to.now c.args.to_name.now) s c.in_err-within.field-0.0 (dir_kept (tree_in g.M.Medium.content s) c.args.from.now c.in_err-within.field-0.0 c.in_err-within.ensures) (from_rename (tree_in g.M.Medium.content s) c.args.from.now c.args.name.now c.args.to.now c.args.to_name.now c.in_err-within.field-0.0 c.in_err-within.ensures) (same_refl g.M.Medium.content g.M.Medium.size g.M.Medium.faults s) c.requires.whole)

pub returns-in-Err : goal.returns-in-Err
returns-in-Err g c =
    let s = c.args.tree.now in
    refused g.M.Medium.content g.M.Medium.size g.M.Medium.faults (λ a. Rename a c.args.from.now c.args.name.now c.args.to.now c.args.to_name.now) s (rename_call g.M.Medium.content g.M.Medium.faults s c.args.from.now c.args.name.now c.args.to.now c.args.to_name.now) s c.in-Err.e (dir_kept (tree_in g.M.Medium.content s) c.args.to.now c.in-Err.e c.in-Err.ensures)
    (to_rename (tree_in g.M.Medium.content s) c.args.from.now c.args.name.now c.args.to.now c.args.to_name.now c.in-Err.e c.in-Err.ensures) (same_refl g.M.Medium.content g.M.Medium.size g.M.Medium.faults s) c.requires.whole

pub place-requires : goal.place-requires
place-requires g c =
    c.in_ok-within.ensures.within

pub returns-in_default : goal.returns-in_default
returns-in_default g c =
    let s = c.args.tree.now in
    let found = c.in_ok-within.ensures in
    refused g.M.Medium.content g.M.Medium.size g.M.Medium.faults (λ a. Rename a c.args.from.now c.args.name.now c.args.to.now c.args.to_name.now) s (rename_call g.M.Medium.content g.M.Medium.faults s c.args.from.now c.args.name.now c.args.to.now c.args.to_name.now) s NoEnt refl
    (lacks g.M.Medium.content g.M.Medium.size s c.requires.whole c.args.from.now c.in_ok-within.within found.handle found.kind_is c.args.name.now
    (sym c.place.ensures ∙ c.in_default.is)) (same_refl g.M.Medium.content g.M.Medium.size g.M.Medium.faults s) c.requires.whole
