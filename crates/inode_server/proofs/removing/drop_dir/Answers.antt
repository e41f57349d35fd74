use Rattle.std.proofs.Common.{Some, refl, ap, ◌∙◌, arith}
use Rattle.nfs2_types.specs.declared.fattr.Kind.TheVariants.{Dir}
use Rattle.server_trait.specs.Calls.{Rmdir}
use Rattle.server_trait.specs.Step.{HasNames}
use Rattle.server_trait.specs.declared.server.SrvErr.TheVariants.{NotEmpty}
use Rattle.server_trait.proofs.NameSoftLaws.{rmdir_soft}
use Rattle.server_trait.proofs.TreeLaws.{is_some_and}
use Rattle.inode_tree.specs.Kept.{tables_of}
use Rattle.inode_tree.specs.Whole.{tree_in}
use Rattle.inode_server.proofs.CallLaws.{same_refl, refused, broke, did}
use Rattle.inode_server.proofs.FoundLaws.{has, lacks, leads, none_is, not_dir, is_dir, led_other, within, file_at-kind, in_store, from_store}
use Rattle.inode_server.proofs.FoundLaws as found
use Rattle.inode_server.proofs.MoveLaws.{rmdir_call, removed, has_names, no_names, no_bytes, not_bare}
use Rattle.inode_server.proofs.removing.drop_dir.Goals as goal

pub returns-then-size-gt0 : goal.returns-then-size-gt0
returns-then-size-gt0 g c =
    let s = c.args.tree.now in
    let found = c.requires.dir in
    refused g.M.Medium.content g.M.Medium.size g.M.Medium.faults (λ a. Rmdir a c.args.dir.now c.args.name.now) s (rmdir_call g.M.Medium.content g.M.Medium.faults s c.args.dir.now c.args.name.now) s NotEmpty refl
    (is_some_and (HasNames (tree_in g.M.Medium.content s)) (leads g.M.Medium.content g.M.Medium.size s c.requires.whole c.args.dir.now c.args.within found.handle found.kind_is
    c.args.name.now c.args.place c.requires.there) (has_names g.M.Medium.content g.M.Medium.size s c.requires.whole c.args.place.inode c.requires.node c.args.size
    c.requires.size (let some = c.if-size-gt0.true in omega (arith, some)))) (same_refl g.M.Medium.content g.M.Medium.size g.M.Medium.faults s) c.requires.whole

pub drop_name-requires-clause-within : goal.drop_name-requires-clause-within
drop_name-requires-clause-within g c =
    let l = c.requires.dir.within in
    let n = c.requires.whole.tied.inodes in
    omega (arith, l, n)

pub drop_name-requires-clause-dir : goal.drop_name-requires-clause-dir
drop_name-requires-clause-dir g c =
    c.requires.dir.kind_is

pub drop_name-requires-clause-another : goal.drop_name-requires-clause-another
drop_name-requires-clause-another g c same =
    let s = c.args.tree.now in
    let none = c.if-size-gt0.false in
    let f = file_at-kind g.M.Medium.content g.M.Medium.size s c.requires.whole c.args.within Dir c.requires.dir.kind_is in
    not_bare g.M.Medium.content g.M.Medium.size s c.requires.whole c.args.dir.now c.args.name.now c.args.within c.requires.dir.handle c.requires.dir.kind_is c.args.place c.requires.there f.0 f.1
    (no_bytes g.M.Medium.content g.M.Medium.size s c.requires.whole c.args.place.inode c.requires.node c.args.size c.requires.size
    (omega (arith, none)) f.0 (in_store g.M.Medium.content g.M.Medium.size s c.requires.whole c.args.place.inode f.0 (ap (found.files g.M.Medium.content g.M.Medium.size s c.requires.whole) same ∙ f.1)))

pub drop_name-requires-clause-other : goal.drop_name-requires-clause-other
drop_name-requires-clause-other g c =
    let s = c.args.tree.now in
    led_other g.M.Medium.content g.M.Medium.size s c.requires.whole c.args.within c.requires.dir.kind_is c.args.name.now
    c.args.place c.requires.there

pub drop_name-requires-clause-bare : goal.drop_name-requires-clause-bare
drop_name-requires-clause-bare g c f is is_dir =
    let s = c.args.tree.now in
    let none = c.if-size-gt0.false in
    no_bytes g.M.Medium.content g.M.Medium.size s c.requires.whole c.args.place.inode c.requires.node c.args.size c.requires.size
    (omega (arith, none)) f is

pub returns-in-Ok : goal.returns-in-Ok
returns-in-Ok g c =
    let s = c.args.tree.now in
    let n = c.drop_name.new.tree in
    let e = c.in-Ok.ensures in
    let found = c.requires.dir in
    let none = c.if-size-gt0.false in
    did g.M.Medium.content g.M.Medium.size g.M.Medium.faults (λ a. Rmdir a c.args.dir.now c.args.name.now) s (rmdir_call g.M.Medium.content g.M.Medium.faults s c.args.dir.now c.args.name.now) n tt
    (removed g.M.Medium.content g.M.Medium.size s c.requires.whole c.args.dir.now c.args.name.now c.args.within found.handle found.kind_is c.args.place c.requires.there
    _ (ap Some e.node))
    (rmdir_soft (tree_in g.M.Medium.content s) c.args.dir.now c.args.name.now ((tables_of s.tables).handle c.args.place.inode)
    (leads g.M.Medium.content g.M.Medium.size s c.requires.whole c.args.dir.now c.args.within found.handle found.kind_is c.args.name.now c.args.place c.requires.there)
    (no_names g.M.Medium.content g.M.Medium.size s c.requires.whole c.args.place.inode c.requires.node c.args.size c.requires.size
    (omega (arith, none)))) record { limits = e.limits; area = e.area; inodes = e.inodes; on_medium = e.size } e.cause.ok e.whole e.first

pub returns-in-Err : goal.returns-in-Err
returns-in-Err g c =
    let s = c.args.tree.now in
    let e = c.in-Err.ensures in
    broke g.M.Medium.content g.M.Medium.size g.M.Medium.faults (λ a. Rmdir a c.args.dir.now c.args.name.now) s (rmdir_call g.M.Medium.content g.M.Medium.faults s c.args.dir.now c.args.name.now) c.drop_name.new.tree c.in-Err.e c.srv_error.result
    c.srv_error.ensures (g.M.Medium.faults s.store.medium) refl record { limits = e.limits; area = e.area; inodes = e.inodes; on_medium = e.size } e.cause
