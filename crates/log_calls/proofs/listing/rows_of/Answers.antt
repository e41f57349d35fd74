use Rattle.std.proofs.Common.{◌≡◌, ◌∙◌, map, take, sym, ap, subst, arith}
use Rattle.std.proofs.lemmas.List.{take_all}
use Rattle.server_trait.specs.Calls.{Lists}
use Rattle.log_tree.specs.Held.{names_of}
use Rattle.log_store.specs.Store.{live_in, records_in}
use Rattle.log_calls.specs.Rows.{row_from}
use Rattle.log_calls.proofs.RowLaws.{rows_are}
use Rattle.log_calls.proofs.listing.rows_of.Goals as goal

pub returns-clause-rows : goal.returns-clause-rows
returns-clause-rows g c =
    let content = g.M.Medium.content in
    let size = g.M.Medium.size in
    let records = records_in content size c.args.store.now in
    let dir = c.args.dir.now in
    let items = c.deref-place-items.result.now in
    let all : take c.loop-place.place-index items ≡ items = take_all c.loop-place.place-index items
    (omega (arith, c.loop-place-test.false)) in
    let rows = c.loop-place.invariant.rows ∙ ap (map (row_from records)) (all ∙ c.deref-place-items.ensures.value) in
    subst (λ rs. Lists rs (names_of (live_in content size c.args.store.now) dir)) (sym rows)
    (rows_are records dir c.in_ok-places.places.items c.told-dir c.in_ok-places.ensures)
