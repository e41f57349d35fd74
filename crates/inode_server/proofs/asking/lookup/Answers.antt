use Rattle.std.proofs.Common.{Some, refl, sym, ap, ◌∙◌}
use Rattle.std.proofs.lemmas.Result.{err_from_is_err_and}
use Rattle.server_trait.specs.Calls.{Lookup}
use Rattle.server_trait.specs.declared.server.SrvErr.TheVariants.{NoEnt}
use Rattle.server_trait.proofs.SoftLaws.{lookup_soft}
use Rattle.inode_tree.specs.Whole.{tree_in}
use Rattle.inode_server.proofs.AskLaws.{lookup_call, dir_kept, dir_lookup}
use Rattle.inode_server.proofs.CallLaws.{alike_refl, same_refl, refused, did}
use Rattle.inode_server.proofs.FoundLaws.{leads, lacks, led_counted}
use Rattle.inode_server.proofs.asking.lookup.Goals as goal

pub returns-in_err-within : goal.returns-in_err-within
returns-in_err-within g c =
    let s = c.args.tree.now in
    let p = err_from_is_err_and c.from_residual.result c.from_residual.ensures.1 in
    rw (p.1, p.2) (refused g.M.Medium.content g.M.Medium.size g.M.Medium.faults (λ a. Lookup a c.args.dir.now c.args.name.now) s (lookup_call g.M.Medium.content g.M.Medium.faults s c.args.dir.now c.args.name.now) s c.in_err-within.field-0.0 (dir_kept (tree_in g.M.Medium.content s) c.args.dir.now c.in_err-within.field-0.0 c.in_err-within.ensures) (dir_lookup (tree_in g.M.Medium.content s) c.args.dir.now c.args.name.now c.in_err-within.field-0.0 c.in_err-within.ensures) (same_refl g.M.Medium.content g.M.Medium.size g.M.Medium.faults s) c.requires)

pub place-requires : goal.place-requires
place-requires g c =
    c.in_ok-within.ensures.within

pub handle-requires : goal.handle-requires
handle-requires g c =
    let s = c.args.tree.now in
    led_counted g.M.Medium.content g.M.Medium.size s c.requires c.in_ok-within.within c.in_ok-within.ensures.kind_is c.args.name.now c.in-Some.place
    (sym c.place.ensures ∙ c.in-Some.is)

pub returns-in-Some : goal.returns-in-Some
returns-in-Some g c =
    let s = c.args.tree.now in
    let found = c.in_ok-within.ensures in
    let there = leads g.M.Medium.content g.M.Medium.size s c.requires c.args.dir.now c.in_ok-within.within found.handle found.kind_is c.args.name.now c.in-Some.place
    (sym c.place.ensures ∙ c.in-Some.is) ∙ ap Some (sym c.handle.ensures) in
    did g.M.Medium.content g.M.Medium.size g.M.Medium.faults (λ a. Lookup a c.args.dir.now c.args.name.now) s (lookup_call g.M.Medium.content g.M.Medium.faults s c.args.dir.now c.args.name.now) s c.handle.result (there, refl)
    (lookup_soft (tree_in g.M.Medium.content s) c.args.dir.now c.args.name.now c.handle.result there) (alike_refl g.M.Medium.size s) refl c.requires refl

pub returns-in-None : goal.returns-in-None
returns-in-None g c =
    let s = c.args.tree.now in
    let found = c.in_ok-within.ensures in
    refused g.M.Medium.content g.M.Medium.size g.M.Medium.faults (λ a. Lookup a c.args.dir.now c.args.name.now) s (lookup_call g.M.Medium.content g.M.Medium.faults s c.args.dir.now c.args.name.now) s NoEnt refl
    (lacks g.M.Medium.content g.M.Medium.size s c.requires c.args.dir.now c.in_ok-within.within found.handle found.kind_is c.args.name.now
    (sym c.place.ensures ∙ c.in-None.is)) (same_refl g.M.Medium.content g.M.Medium.size g.M.Medium.faults s) c.requires
