use Rattle.std.proofs.Common.{◌≡◌, ◌∙◌, Some, ap, sym}
use Rattle.std.specs.Prelude.{option_map}
use Rattle.log_segments.specs.Newest.{find}
use Rattle.log_records.specs.Layout.{name_key, value_of, child_in}
use Rattle.log_tree.specs.Held.{handle_of}
use Rattle.log_store.specs.Store.{live_in}
use Rattle.log_store.proofs.StoreLaws.{name_at, name_size}
use Rattle.log_store.proofs.store.LogStore.lookup.Goals as goal

pub read_child-requires : goal.read_child-requires
read_child-requires g c =
    let live = live_in g.M.Medium.content g.M.Medium.size c.args.self.now in
    let found : c.in_ok-block.field-0 ≡ find (name_key c.args.dir.now c.args.name.now) live =
    c.in_ok-block.ensures.found ∙ ap (λ k. find k live) c.in_ok-key.ensures in
    name_size live c.args.dir.now c.args.name.now c.in-Some.block c.told-dir c.requires.name
    (rw c.in-Some.is at c.in_ok-block.ensures.whole) (sym found ∙ c.in-Some.is)

pub returns-in-Some-clause-found : goal.returns-in-Some-clause-found
returns-in-Some-clause-found g c =
    let live = live_in g.M.Medium.content g.M.Medium.size c.args.self.now in
    let found : c.in_ok-block.field-0 ≡ find (name_key c.args.dir.now c.args.name.now) live =
    c.in_ok-block.ensures.found ∙ ap (λ k. find k live) c.in_ok-key.ensures in
    ap (λ id. Some (handle_of id)) c.read_child.ensures
    ∙ (ap (option_map (λ r. handle_of (child_in (value_of r)))) (sym c.in-Some.is ∙ found)
    ∙ sym (name_at live c.args.dir.now c.args.name.now c.told-dir))

pub returns-clause-found : goal.returns-clause-found
returns-clause-found g c =
    let live = live_in g.M.Medium.content g.M.Medium.size c.args.self.now in
    let found : c.in_ok-block.field-0 ≡ find (name_key c.args.dir.now c.args.name.now) live =
    c.in_ok-block.ensures.found ∙ ap (λ k. find k live) c.in_ok-key.ensures in
    ap (option_map (λ r. handle_of (child_in (value_of r)))) (sym c.in-None.is ∙ found)
    ∙ sym (name_at live c.args.dir.now c.args.name.now c.told-dir)
