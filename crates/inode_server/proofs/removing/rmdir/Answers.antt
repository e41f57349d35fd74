use Rattle.std.proofs.Common.{◌≡◌, ◌≢◌, inr, Some, true, false, refl, sym, ap, ◌∙◌, arith, subst}
use Rattle.std.proofs.lemmas.Result.{err_from_is_err_and}
use Rattle.nfs2_types.specs.declared.fattr.Kind.TheVariants.{Dir}
use Rattle.server_trait.specs.Calls.{Rmdir}
use Rattle.server_trait.specs.Step.{IsNo}
use Rattle.server_trait.specs.Tree.{names_in}
use Rattle.server_trait.specs.declared.server.SrvErr.TheVariants.{NoEnt, NotDir}
use Rattle.server_trait.proofs.TreeLaws.{is_some_and, some_none}
use Rattle.inode_store.specs.Inodes.{file_at}
use Rattle.inode_tree.specs.Kept.{tables_of}
use Rattle.inode_tree.specs.Whole.{tree_in}
use Rattle.inode_tree.specs.declared.tables.InodeTables.{InodeTables}
use Rattle.inode_tree.proofs.TiedLaws.{some_of}
use Rattle.inode_server.specs.Found.{IsFound}
use Rattle.inode_server.proofs.AskLaws.{dir_kept}
use Rattle.inode_server.proofs.CallLaws.{IsSame, same_refl, refused, broke, after-same}
use Rattle.inode_server.proofs.FoundLaws.{lacks, leads, not_dir, led_kind, led_counted}
use Rattle.inode_server.proofs.MoveLaws.{rmdir_call, dir_rmdir}
use Rattle.inode_server.proofs.removing.rmdir.Goals as goal

pub returns-in_err-within : goal.returns-in_err-within
returns-in_err-within g c =
    let s = c.args.tree.now in
    let p = err_from_is_err_and c.from_residual.result c.from_residual.ensures.1 in
    rw (p.1, p.2) (refused g.M.Medium.content g.M.Medium.size g.M.Medium.faults (λ a. Rmdir a c.args.dir.now c.args.name.now) s (rmdir_call g.M.Medium.content g.M.Medium.faults s c.args.dir.now c.args.name.now) s c.in_err-within.field-0.0 (dir_kept (tree_in g.M.Medium.content s) c.args.dir.now c.in_err-within.field-0.0 c.in_err-within.ensures) (dir_rmdir (tree_in g.M.Medium.content s) c.args.dir.now c.args.name.now c.in_err-within.field-0.0 c.in_err-within.ensures) (same_refl g.M.Medium.content g.M.Medium.size g.M.Medium.faults s) c.requires.whole)

pub place-requires : goal.place-requires
place-requires g c =
    c.in_ok-within.ensures.within

pub returns-in_default : goal.returns-in_default
returns-in_default g c =
    let s = c.args.tree.now in
    let found = c.in_ok-within.ensures in
    refused g.M.Medium.content g.M.Medium.size g.M.Medium.faults (λ a. Rmdir a c.args.dir.now c.args.name.now) s (rmdir_call g.M.Medium.content g.M.Medium.faults s c.args.dir.now c.args.name.now) s NoEnt refl
    (lacks g.M.Medium.content g.M.Medium.size s c.requires.whole c.args.dir.now c.in_ok-within.within found.handle found.kind_is c.args.name.now
    (sym c.place.ensures ∙ c.in_default.is)) (same_refl g.M.Medium.content g.M.Medium.size g.M.Medium.faults s) c.requires.whole

pub kind-requires : goal.kind-requires
kind-requires g c =
    let s = c.args.tree.now in
    led_counted g.M.Medium.content g.M.Medium.size s c.requires.whole c.in_ok-within.within c.in_ok-within.ensures.kind_is c.args.name.now c.in-Some.place (sym c.place.ensures ∙ c.in-Some.is)

pub unreachable-requires : goal.unreachable-requires
unreachable-requires g c =
    let s = c.args.tree.now in
    let k = some_of ((tables_of s.tables).kind c.in-Some.place.inode) (led_kind g.M.Medium.content g.M.Medium.size s c.requires.whole c.in_ok-within.within
    c.in_ok-within.ensures.kind_is c.args.name.now c.in-Some.place (sym c.place.ensures ∙ c.in-Some.is)) in
    some_none k.1 (sym c.kind.ensures ∙ c.in_default-kind.is)

pub returns-then-not-is_dir : goal.returns-then-not-is_dir
returns-then-not-is_dir g c =
    let s = c.args.tree.now in
    let found = c.in_ok-within.ensures in
    let ne : c.in-Some-kind.kind ≢ Dir = λ e. (let yes : false ≡ true = sym c.if-not-is_dir.true ∙ (c.is_dir.ensures).1 e in cc) in
    let node = sym c.kind.ensures ∙ c.in-Some-kind.is in
    refused g.M.Medium.content g.M.Medium.size g.M.Medium.faults (λ a. Rmdir a c.args.dir.now c.args.name.now) s (rmdir_call g.M.Medium.content g.M.Medium.faults s c.args.dir.now c.args.name.now) s NotDir refl
    (inr (is_some_and (IsNo names_in (tree_in g.M.Medium.content s)) (leads g.M.Medium.content g.M.Medium.size s c.requires.whole c.args.dir.now c.in_ok-within.within found.handle
    found.kind_is c.args.name.now c.in-Some.place (sym c.place.ensures ∙ c.in-Some.is)) (not_dir g.M.Medium.content g.M.Medium.size s c.requires.whole
    ((tables_of s.tables).handle c.in-Some.place.inode) c.in-Some.place.inode c.in-Some-kind.kind refl node ne)))
    (same_refl g.M.Medium.content g.M.Medium.size g.M.Medium.faults s) c.requires.whole

pub inode-requires-clause-within : goal.inode-requires-clause-within
inode-requires-clause-within g c =
    let s = c.args.tree.now in
    let l = led_counted g.M.Medium.content g.M.Medium.size s c.requires.whole c.in_ok-within.within c.in_ok-within.ensures.kind_is c.args.name.now c.in-Some.place (sym c.place.ensures ∙ c.in-Some.is) in
    let n = c.requires.whole.tied.inodes in
    omega (arith, l, n)

pub inode-requires-clause-used : goal.inode-requires-clause-used
inode-requires-clause-used g c =
    let s = c.args.tree.now in
    led_kind g.M.Medium.content g.M.Medium.size s c.requires.whole c.in_ok-within.within c.in_ok-within.ensures.kind_is c.args.name.now c.in-Some.place (sym c.place.ensures ∙ c.in-Some.is)

pub drop_dir-requires-clause-dir : goal.drop_dir-requires-clause-dir
drop_dir-requires-clause-dir g c =
    subst (λ (t : InodeTables). IsFound (tables_of t) c.args.dir.now Dir c.in_ok-within.within) (sym c.in-Ok.ensures.tables)
    c.in_ok-within.ensures

pub drop_dir-requires-clause-there : goal.drop_dir-requires-clause-there
drop_dir-requires-clause-there g c =
    ap (λ (t : InodeTables). (tables_of t).place c.in_ok-within.within c.args.name.now) c.in-Ok.ensures.tables
    ∙ sym c.place.ensures ∙ c.in-Some.is

pub drop_dir-requires-clause-node : goal.drop_dir-requires-clause-node
drop_dir-requires-clause-node g c =
    ap (λ (t : InodeTables). (tables_of t).kind c.in-Some.place.inode) c.in-Ok.ensures.tables
    ∙ sym c.kind.ensures ∙ c.in-Some-kind.is ∙ ap Some ((c.is_dir.ensures).0 c.if-not-is_dir.false)

pub drop_dir-requires-clause-size : goal.drop_dir-requires-clause-size
drop_dir-requires-clause-size g c f is =
    let s = c.args.tree.now in
    let e = c.in-Ok.ensures in
    (e.inode f (ap (λ a. file_at a (g.M.Medium.content s.store.medium) c.in-Some.place.inode) (sym e.area)
    ∙ ap (λ b. file_at c.inode.new.self.store.area b c.in-Some.place.inode) (sym e.content) ∙ is)).size

pub returns-in-Ok : goal.returns-in-Ok
returns-in-Ok g c =
    let s = c.args.tree.now in
    let n = c.inode.new.self in
    let e = c.in-Ok.ensures in
    let same : IsSame g.M.Medium.content g.M.Medium.size g.M.Medium.faults s n = record {
      alike = record { limits = e.limits; area = e.area; inodes = e.inodes; on_medium = e.size };
      tables = e.tables;
      blocks = e.content;
      count = e.cause.ok;
    } in
    after-same g.M.Medium.content g.M.Medium.size g.M.Medium.faults (λ a. Rmdir a c.args.dir.now c.args.name.now) s n c.drop_dir.result c.drop_dir.new.tree same c.drop_dir.ensures

pub returns-in-Err : goal.returns-in-Err
returns-in-Err g c =
    let s = c.args.tree.now in
    let e = c.in-Err.ensures in
    broke g.M.Medium.content g.M.Medium.size g.M.Medium.faults (λ a. Rmdir a c.args.dir.now c.args.name.now) s (rmdir_call g.M.Medium.content g.M.Medium.faults s c.args.dir.now c.args.name.now) c.inode.new.self c.in-Err.e c.srv_error.result
    c.srv_error.ensures (g.M.Medium.faults s.store.medium) refl record { limits = e.limits; area = e.area; inodes = e.inodes; on_medium = e.size } e.cause
