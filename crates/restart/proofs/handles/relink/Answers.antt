use Rattle.std.proofs.Common.{ℕ, List, Option, Some, length, sym, ap, ◌∙◌, subst, refl}
use Rattle.server_trait.specs.declared.bench.ConfEntry.{ConfEntry}
use Rattle.restart.specs.Rows.{AreApart, handle_of}
use Rattle.restart.proofs.RowSteps.{cleared_null}
use Rattle.restart.proofs.Relinked.{found_apart, relinked, are_relinked}
use Rattle.restart.proofs.handles.relink.Goals as goal

pub find_all-requires : goal.find_all-requires
find_all-requires g c = let s = c.requires.going in record { going = (c.args.table.now, s.0, s.1, s.2) }

pub bind_all-requires-clause-size : goal.bind_all-requires-clause-size
bind_all-requires-clause-size g c =
    let s = c.requires.going in
    let all = c.in_ok-find_all.ensures.all c.args.table.now s.0 s.1 s.2 s.3 in
    ap (λ (hs : List (Option (List ℕ))). length hs) c.deref.ensures.value ∙ all.0.size ∙ sym c.clear_all.ensures.size

pub bind_all-requires-clause-null : goal.bind_all-requires-clause-null
bind_all-requires-clause-null g c = cleared_null c.args.table.now.rows.items c.clear_all.new.table.rows.items c.clear_all.ensures.size c.clear_all.ensures.rows

pub bind_all-requires-clause-apart : goal.bind_all-requires-clause-apart
bind_all-requires-clause-apart g c =
    let s = c.requires.going in
    let all = c.in_ok-find_all.ensures.all c.args.table.now s.0 s.1 s.2 s.3 in
    subst AreApart (sym c.deref.ensures.value) (found_apart _ c.args.table.now s.0 s.1 c.find_all.new.found all.0)

pub returns-clause-stands : goal.returns-clause-stands
returns-clause-stands g c A k going first =
    let all = c.in_ok-find_all.ensures.all c.args.table.now A k going first in
    let bound = c.in_ok-bind_all.ensures in
    relinked _ c.args.table.now A k c.find_all.new.found all.0 all.1 c.clear_all.new.table _ c.clear_all.ensures.size c.clear_all.ensures.rows bound.size
    (λ i r at. bound.rows i r at ∙ ap (λ (hs : List (Option (List ℕ))). Some (let x : ConfEntry = record r { handle = handle_of hs i } in x)) c.deref.ensures.value)
    (bound.in_step (c.clear_all.ensures.in_step k.stands.placed.by_handle)) _ c.in_ok-find_all.ensures.same

pub returns-clause-rows : goal.returns-clause-rows
returns-clause-rows g c =
    let bound = c.in_ok-bind_all.ensures in
    are_relinked c.args.table.now c.clear_all.new.table _ _ c.clear_all.ensures.size c.clear_all.ensures.rows c.clear_all.ensures.used bound.size bound.rows bound.used refl
