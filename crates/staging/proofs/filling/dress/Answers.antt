use Rattle.std.proofs.Common.{refl, sym, ap, ◌∙◌, Some, arith}
use Rattle.std.proofs.lemmas.Option.{slice_get-get_or}
use Rattle.staging.proofs.Fillings.{node_there, below_there, unshared_there, dressed_after, never}
use Rattle.staging.proofs.filling.dress.Goals as goal

pub returns-in-None-clause-dressed : goal.returns-in-None-clause-dressed
returns-in-None-clause-dressed g c t A S has can = never t c.args.staging.now c.args.table.now A S c.args.index can c.in-None.ensures

pub set_owners-requires : goal.set_owners-requires
set_owners-requires g c = record { node = node_there _ c.args.staging.now c.args.table.now c.args.index c.requires.can c.in-Some.node c.in-Some.ensures }

pub index-old-requires : goal.index-old-requires
index-old-requires g c =
    let low = below_there _ c.args.staging.now c.args.table.now c.args.index c.requires.can c.in-Some.node c.in-Some.ensures in
    let size = c.args.table.now.rows.ok.0 in
    omega (arith, low, size)

pub bind_row-requires-clause-unshared : goal.bind_row-requires-clause-unshared
bind_row-requires-clause-unshared g c =
    let low = below_there _ c.args.staging.now c.args.table.now c.args.index c.requires.can c.in-Some.node c.in-Some.ensures in
    unshared_there _ c.args.staging.now c.args.table.now c.args.index c.requires.can c.in-Some.node c.in-Some.ensures c.index-old.result.now
    (slice_get-get_or c.args.table.now.rows.items c.args.index c.index-old.result.now low ∙ ap Some (sym c.index-old.ensures))

pub returns-in-Ok-clause-dressed : goal.returns-in-Ok-clause-dressed
returns-in-Ok-clause-dressed g c t A S has can =
    let low = below_there _ c.args.staging.now c.args.table.now c.args.index c.requires.can c.in-Some.node c.in-Some.ensures in
    dressed_after t c.args.staging.now c.args.table.now A S c.args.index can c.in-Some.node c.in-Some.ensures c.index-old.result.now
    (slice_get-get_or c.args.table.now.rows.items c.args.index c.index-old.result.now low ∙ ap Some (sym c.index-old.ensures))
    c.args.generation c.args.attr.now c.bind_row.new.table _ refl c.in-Ok.ensures.rows c.in-Ok.ensures.in_step _ (c.in_ok-set_owners.ensures.set t has)
