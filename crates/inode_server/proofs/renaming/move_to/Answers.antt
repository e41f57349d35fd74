use Rattle.std.proofs.Common.{◌≡◌, Some, true, false, refl, sym, ap, ◌∙◌, arith}
use Rattle.nfs2_types.specs.declared.fattr.Kind.TheVariants.{Dir}
use Rattle.server_trait.specs.Calls.{Rename}
use Rattle.inode_tree.specs.Tables.{IsUnder}
use Rattle.server_trait.specs.declared.server.SrvErr.TheVariants.{Subtree}
use Rattle.inode_tree.specs.Kept.{tables_of}
use Rattle.inode_server.proofs.CallLaws.{same_refl, refused, broke, did}
use Rattle.inode_server.proofs.MoveLaws.{rename_call, way_within, is_below, only_soft, moved}
use Rattle.inode_server.proofs.renaming.move_to.Goals as goal

pub moves_below-requires : goal.moves_below-requires
moves_below-requires g c =
    let s = c.args.tree.now in
    record { way = way_within g.M.Medium.content g.M.Medium.size s c.requires.whole c.args.into c.requires.to.kind_is }

pub returns-then-moves_below : goal.returns-then-moves_below
returns-then-moves_below g c =
    let s = c.args.tree.now in
    let below = (c.moves_below.ensures).0 c.if-moves_below.true in
    refused g.M.Medium.content g.M.Medium.size g.M.Medium.faults (λ a. Rename a c.args.from.now c.args.name.now c.args.to.now c.args.to_name.now) s (rename_call g.M.Medium.content g.M.Medium.faults s c.args.from.now c.args.name.now c.args.to.now c.args.to_name.now) s Subtree refl (is_below g.M.Medium.content g.M.Medium.size s c.requires.whole c.args.from.now c.args.name.now c.args.to.now c.args.to_name.now c.args.within c.requires.from c.args.into c.requires.to c.args.place c.requires.there c.args.kind c.requires.node below.0 below.1) (same_refl g.M.Medium.content g.M.Medium.size g.M.Medium.faults s) c.requires.whole

pub move_name-requires-clause-within : goal.move_name-requires-clause-within
move_name-requires-clause-within g c =
    let l = c.requires.from.within in
    let n = c.requires.whole.tied.inodes in
    omega (arith, l, n)

pub move_name-requires-clause-from : goal.move_name-requires-clause-from
move_name-requires-clause-from g c =
    c.requires.from.kind_is

pub move_name-requires-clause-into : goal.move_name-requires-clause-into
move_name-requires-clause-into g c =
    let l = c.requires.to.within in
    let n = c.requires.whole.tied.inodes in
    omega (arith, l, n)

pub move_name-requires-clause-to : goal.move_name-requires-clause-to
move_name-requires-clause-to g c =
    c.requires.to.kind_is

pub returns-in-Ok : goal.returns-in-Ok
returns-in-Ok g c =
    let s = c.args.tree.now in
    let n = c.move_name.new.tree in
    let e = c.in-Ok.ensures in
    let apart : c.args.kind ≡ Dir → IsUnder (tables_of s.tables) c.args.place.inode c.args.into → ⊥ = λ is_dir under.
    (let yes : true ≡ false = sym ((c.moves_below.ensures).1 (is_dir, under)) ∙ c.if-moves_below.false in cc) in
    did g.M.Medium.content g.M.Medium.size g.M.Medium.faults (λ a. Rename a c.args.from.now c.args.name.now c.args.to.now c.args.to_name.now) s (rename_call g.M.Medium.content g.M.Medium.faults s c.args.from.now c.args.name.now c.args.to.now c.args.to_name.now) n tt (moved g.M.Medium.content g.M.Medium.size s c.requires.whole c.args.from.now c.args.name.now c.args.to.now c.args.to_name.now c.args.within c.requires.from c.args.into c.requires.to c.args.place c.requires.there c.args.kind c.requires.node c.requires.new apart _ (ap Some e.node))
    (only_soft g.M.Medium.content g.M.Medium.size s c.requires.whole c.args.from.now c.args.name.now c.args.to.now c.args.to_name.now c.args.within c.requires.from c.args.into c.requires.to c.args.place c.requires.there c.args.kind c.requires.node c.requires.new apart) record { limits = e.limits; area = e.area; inodes = e.inodes; on_medium = e.size } e.cause.ok e.whole e.first

pub returns-in-Err : goal.returns-in-Err
returns-in-Err g c =
    let s = c.args.tree.now in
    let e = c.in-Err.ensures in
    broke g.M.Medium.content g.M.Medium.size g.M.Medium.faults (λ a. Rename a c.args.from.now c.args.name.now c.args.to.now c.args.to_name.now) s (rename_call g.M.Medium.content g.M.Medium.faults s c.args.from.now c.args.name.now c.args.to.now c.args.to_name.now) c.move_name.new.tree c.in-Err.e c.srv_error.result
    c.srv_error.ensures (g.M.Medium.faults s.store.medium) refl record { limits = e.limits; area = e.area; inodes = e.inodes; on_medium = e.size } e.cause
