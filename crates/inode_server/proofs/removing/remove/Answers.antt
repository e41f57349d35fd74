use Rattle.std.proofs.Common.{◌≡◌, ◌≢◌, Some, true, false, refl, sym, ap, ◌∙◌, arith}
use Rattle.std.proofs.lemmas.Result.{err_from_is_err_and}
use Rattle.nfs2_types.specs.declared.fattr.Kind.TheVariants.{Dir}
use Rattle.server_trait.specs.Calls.{Remove, IsDir}
use Rattle.inode_store.specs.Held.{files_of}
use Rattle.server_trait.specs.declared.server.SrvErr.TheVariants.{NoEnt, WrongKind}
use Rattle.server_trait.proofs.NameSoftLaws.{remove_soft}
use Rattle.server_trait.proofs.TreeLaws.{is_some_and, some_same, some_none}
use Rattle.inode_tree.specs.Kept.{tables_of}
use Rattle.inode_tree.specs.Whole.{tree_in}
use Rattle.inode_tree.proofs.TiedLaws.{some_of, kind-file}
use Rattle.inode_server.proofs.AskLaws.{dir_kept}
use Rattle.inode_server.proofs.CallLaws.{same_refl, refused, broke, did}
use Rattle.inode_server.proofs.FoundLaws.{lacks, leads, not_dir, is_dir, led_kind, led_counted, within, from_store}
use Rattle.inode_server.proofs.MoveLaws.{remove_call, dir_remove, removed}
use Rattle.inode_server.proofs.removing.remove.Goals as goal

pub returns-in_err-within : goal.returns-in_err-within
returns-in_err-within g c =
    let s = c.args.tree.now in
    let p = err_from_is_err_and c.from_residual.result c.from_residual.ensures.1 in
    rw (p.1, p.2) (refused g.M.Medium.content g.M.Medium.size g.M.Medium.faults (λ a. Remove a c.args.dir.now c.args.name.now) s (remove_call g.M.Medium.content g.M.Medium.faults s c.args.dir.now c.args.name.now) s c.in_err-within.field-0.0 (dir_kept (tree_in g.M.Medium.content s) c.args.dir.now c.in_err-within.field-0.0 c.in_err-within.ensures) (dir_remove (tree_in g.M.Medium.content s) c.args.dir.now c.args.name.now c.in_err-within.field-0.0 c.in_err-within.ensures) (same_refl g.M.Medium.content g.M.Medium.size g.M.Medium.faults s) c.requires.whole)

pub place-requires : goal.place-requires
place-requires g c =
    c.in_ok-within.ensures.within

pub returns-in_default : goal.returns-in_default
returns-in_default g c =
    let s = c.args.tree.now in
    let found = c.in_ok-within.ensures in
    refused g.M.Medium.content g.M.Medium.size g.M.Medium.faults (λ a. Remove a c.args.dir.now c.args.name.now) s (remove_call g.M.Medium.content g.M.Medium.faults s c.args.dir.now c.args.name.now) s NoEnt refl
    (lacks g.M.Medium.content g.M.Medium.size s c.requires.whole c.args.dir.now c.in_ok-within.within found.handle found.kind_is c.args.name.now
    (sym c.place.ensures ∙ c.in_default.is)) (same_refl g.M.Medium.content g.M.Medium.size g.M.Medium.faults s) c.requires.whole

pub kind-requires : goal.kind-requires
kind-requires g c =
    let s = c.args.tree.now in
    led_counted g.M.Medium.content g.M.Medium.size s c.requires.whole c.in_ok-within.within c.in_ok-within.ensures.kind_is c.args.name.now c.in-Some.place (sym c.place.ensures ∙ c.in-Some.is)

pub unreachable-requires : goal.unreachable-requires
unreachable-requires g c =
    let s = c.args.tree.now in
    let k = some_of ((tables_of s.tables).kind c.in-Some.place.inode) (led_kind g.M.Medium.content g.M.Medium.size s c.requires.whole c.in_ok-within.within
    c.in_ok-within.ensures.kind_is c.args.name.now c.in-Some.place (sym c.place.ensures ∙ c.in-Some.is)) in
    some_none k.1 (sym c.kind.ensures ∙ c.in_default-kind.is)

pub returns-then-is_dir : goal.returns-then-is_dir
returns-then-is_dir g c =
    let s = c.args.tree.now in
    let found = c.in_ok-within.ensures in
    let node = sym c.kind.ensures ∙ c.in-Some-kind.is in
    refused g.M.Medium.content g.M.Medium.size g.M.Medium.faults (λ a. Remove a c.args.dir.now c.args.name.now) s (remove_call g.M.Medium.content g.M.Medium.faults s c.args.dir.now c.args.name.now) s WrongKind refl
    (is_some_and (IsDir (tree_in g.M.Medium.content s)) (leads g.M.Medium.content g.M.Medium.size s c.requires.whole c.args.dir.now c.in_ok-within.within found.handle
    found.kind_is c.args.name.now c.in-Some.place (sym c.place.ensures ∙ c.in-Some.is)) (is_dir g.M.Medium.content g.M.Medium.size s c.requires.whole
    ((tables_of s.tables).handle c.in-Some.place.inode) c.in-Some.place.inode refl
    (node ∙ ap Some ((c.is_dir.ensures).0 c.if-is_dir.true)))) (same_refl g.M.Medium.content g.M.Medium.size g.M.Medium.faults s) c.requires.whole

pub drop_name-requires-clause-within : goal.drop_name-requires-clause-within
drop_name-requires-clause-within g c =
    let l = c.in_ok-within.ensures.within in
    let n = c.requires.whole.tied.inodes in
    omega (arith, l, n)

pub drop_name-requires-clause-dir : goal.drop_name-requires-clause-dir
drop_name-requires-clause-dir g c =
    c.in_ok-within.ensures.kind_is

pub drop_name-requires-clause-there : goal.drop_name-requires-clause-there
drop_name-requires-clause-there g c =
    sym c.place.ensures ∙ c.in-Some.is

pub drop_name-requires-clause-node : goal.drop_name-requires-clause-node
drop_name-requires-clause-node g c =
    sym c.kind.ensures ∙ c.in-Some-kind.is

pub drop_name-requires-clause-another : goal.drop_name-requires-clause-another
drop_name-requires-clause-another g c e =
    let s = c.args.tree.now in
    let ne : c.in-Some-kind.kind ≢ Dir = λ e. (let yes : false ≡ true = sym c.if-is_dir.false ∙ (c.is_dir.ensures).1 e in cc) in
    let node = sym c.kind.ensures ∙ c.in-Some-kind.is in
    ne (some_same node (ap (tables_of s.tables).kind e ∙ c.in_ok-within.ensures.kind_is))

pub drop_name-requires-clause-other : goal.drop_name-requires-clause-other
drop_name-requires-clause-other g c e =
    let s = c.args.tree.now in
    let ne : c.in-Some-kind.kind ≢ Dir = λ e. (let yes : false ≡ true = sym c.if-is_dir.false ∙ (c.is_dir.ensures).1 e in cc) in
    let node = sym c.kind.ensures ∙ c.in-Some-kind.is in
    ne (some_same node (ap (tables_of s.tables).kind e ∙ c.requires.whole.tied.kinds 0 ∙ c.requires.whole.tied.root))

pub drop_name-requires-clause-bare : goal.drop_name-requires-clause-bare
drop_name-requires-clause-bare g c f is is_dir =
    let s = c.args.tree.now in
    let ne : c.in-Some-kind.kind ≢ Dir = λ e. (let yes : false ≡ true = sym c.if-is_dir.false ∙ (c.is_dir.ensures).1 e in cc) in
    let node = sym c.kind.ensures ∙ c.in-Some-kind.is in
    let l = within g.M.Medium.content g.M.Medium.size s c.requires.whole c.in-Some.place.inode c.in-Some-kind.kind node in
    absurd (ne (some_same node (kind-file s.store.inodes (files_of s.store.area s.store.inodes (g.M.Medium.content s.store.medium)) (tables_of s.tables) c.requires.whole.tied
    c.in-Some.place.inode f (from_store g.M.Medium.content g.M.Medium.size s c.requires.whole c.in-Some.place.inode l f is) ∙ ap Some is_dir)))

pub returns-in-Ok : goal.returns-in-Ok
returns-in-Ok g c =
    let s = c.args.tree.now in
    let n = c.drop_name.new.tree in
    let e = c.in-Ok.ensures in
    let found = c.in_ok-within.ensures in
    let ne : c.in-Some-kind.kind ≢ Dir = λ e. (let yes : false ≡ true = sym c.if-is_dir.false ∙ (c.is_dir.ensures).1 e in cc) in
    let node = sym c.kind.ensures ∙ c.in-Some-kind.is in
    did g.M.Medium.content g.M.Medium.size g.M.Medium.faults (λ a. Remove a c.args.dir.now c.args.name.now) s (remove_call g.M.Medium.content g.M.Medium.faults s c.args.dir.now c.args.name.now) n tt
    (removed g.M.Medium.content g.M.Medium.size s c.requires.whole c.args.dir.now c.args.name.now c.in_ok-within.within found.handle found.kind_is c.in-Some.place (sym c.place.ensures ∙ c.in-Some.is)
    _ (ap Some e.node))
    (remove_soft (tree_in g.M.Medium.content s) c.args.dir.now c.args.name.now ((tables_of s.tables).handle c.in-Some.place.inode)
    (leads g.M.Medium.content g.M.Medium.size s c.requires.whole c.args.dir.now c.in_ok-within.within found.handle found.kind_is c.args.name.now c.in-Some.place (sym c.place.ensures ∙ c.in-Some.is))
    (not_dir g.M.Medium.content g.M.Medium.size s c.requires.whole ((tables_of s.tables).handle c.in-Some.place.inode) c.in-Some.place.inode
    c.in-Some-kind.kind refl node ne)) record { limits = e.limits; area = e.area; inodes = e.inodes; on_medium = e.size } e.cause.ok e.whole e.first

pub returns-in-Err : goal.returns-in-Err
returns-in-Err g c =
    let s = c.args.tree.now in
    let e = c.in-Err.ensures in
    broke g.M.Medium.content g.M.Medium.size g.M.Medium.faults (λ a. Remove a c.args.dir.now c.args.name.now) s (remove_call g.M.Medium.content g.M.Medium.faults s c.args.dir.now c.args.name.now) c.drop_name.new.tree c.in-Err.e c.srv_error.result
    c.srv_error.ensures (g.M.Medium.faults s.store.medium) refl record { limits = e.limits; area = e.area; inodes = e.inodes; on_medium = e.size } e.cause
