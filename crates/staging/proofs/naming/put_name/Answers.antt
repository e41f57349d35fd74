use Rattle.std.proofs.Common.{◌∙◌, ap}
use Rattle.nfs2_types.specs.Names.{is_name}
use Rattle.staging.proofs.Namings.{good_name, place_there, link_there, never_dir, never_object, put_staged, put_linked, placing}
use Rattle.staging.proofs.naming.put_name.Goals as goal

pub returns-in-None-clause-put : goal.returns-in-None-clause-put
returns-in-None-clause-put g c t A C S has can = never_dir t _ c.args.staging.now c.args.table.now A C S c.args.is_staged c.args.d c.args.row.now can c.in-None.ensures

pub place-requires-clause-can : goal.place-requires-clause-can
place-requires-clause-can g c = place_there _ _ c.args.staging.now c.args.table.now c.args.is_staged c.args.d c.args.row.now c.requires.can c.if-is_staged.true c.in-Some.handle c.in-Some.ensures _ (c.as_bytes.ensures.value ∙ c.in-Ok.ensures.text)

pub place-requires-clause-good : goal.place-requires-clause-good
place-requires-clause-good g c = ap is_name (c.as_bytes.ensures.value ∙ c.in-Ok.ensures.text) ∙ c.in-Ok.ensures.good

pub returns-then-is_staged-clause-put : goal.returns-then-is_staged-clause-put
returns-then-is_staged-clause-put g c t A C S has can = put_staged _ c.args.staging.now c.args.table.now A S c.args.is_staged c.args.d c.args.row.now _ c.if-is_staged.true (c.as_bytes.ensures.value ∙ c.in-Ok.ensures.text)
    (c.in_ok-place.ensures.placed t A C S has (placing t _ c.args.staging.now c.args.table.now A C S c.args.is_staged c.args.d c.args.row.now can c.if-is_staged.true c.in-Some.handle c.in-Some.ensures _ (c.as_bytes.ensures.value ∙ c.in-Ok.ensures.text)))

pub returns-in-None-handle_of-clause-put : goal.returns-in-None-handle_of-clause-put
returns-in-None-handle_of-clause-put g c t A C S has can = never_object t _ c.args.staging.now c.args.table.now A C S c.args.is_staged c.args.d c.args.row.now can c.if-is_staged.false c.in-None-handle_of.ensures

pub link_name-requires-clause-can : goal.link_name-requires-clause-can
link_name-requires-clause-can g c = link_there _ _ c.args.staging.now c.args.table.now c.args.is_staged c.args.d c.args.row.now c.requires.can c.if-is_staged.false c.in-Some.handle c.in-Some-handle_of.node
    c.in-Some.ensures c.in-Some-handle_of.ensures _ c.as_slice.ensures

pub link_name-requires-clause-name : goal.link_name-requires-clause-name
link_name-requires-clause-name g c = ap is_name c.as_slice.ensures ∙ good_name _ _ c.args.staging.now c.args.table.now c.args.is_staged c.args.d c.args.row.now c.requires.can

pub returns-clause-put : goal.returns-clause-put
returns-clause-put g c t A C S has can = put_linked t _ c.args.staging.now c.args.table.now A C S c.args.is_staged c.args.d c.args.row.now can c.if-is_staged.false c.in-Some.handle c.in-Some-handle_of.node _
    c.in-Some.ensures c.in-Some-handle_of.ensures c.as_slice.ensures _ (c.in_ok-link_name.ensures.linked t has)
