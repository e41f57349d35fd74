use Rattle.std.proofs.Common.{is_gt, map, ◌∷◌, ◌++◌, [], ap, subst, sym, ◌∙◌}
use Rattle.std.proofs.lemmas.List.{append-nil}
use Rattle.path_store.specs.Walks.{AreUnder, entry_of}
use Rattle.path_store.proofs.AmongLaws.{map-reverse}
use Rattle.path_store.proofs.OrderLaws.{forward}
use Rattle.path_store.proofs.WalkLaws.{walk_is, under_found, under_reversed}
use Rattle.path_store.proofs.keys.PathKeys.under.Goals as goal

pub range-path-items-requires : goal.range-path-items-requires
range-path-items-requires c =
    ap is_gt (forward c.args.top.now c.in_ok-low.low c.in_ok-high.high
    (c.in_ok-low.ensures ∙ ap (λ l. l ++ 47 ∷ []) c.as_slice.ensures)
    (c.in_ok-high.ensures ∙ ap (λ l. l ++ 48 ∷ []) c.as_slice-2.ensures))

pub returns : goal.returns
returns c =
    subst (AreUnder c.args.top.now c.args.self.now)
    (sym (ap (map entry_of) c.reverse.ensures.items ∙ map-reverse entry_of c.loop-path.found.items))
    (under_reversed c.args.top.now c.args.self.now (map entry_of c.loop-path.found.items)
    (under_found c.args.top.now c.args.self.now (map entry_of c.in_ok-found.found.items)
    (map entry_of c.loop-path.found.items) c.in_ok-found.ensures
    (sym (append-nil (map entry_of c.loop-path.found.items))
    ∙ ap (λ l. map entry_of c.loop-path.found.items ++ l) (sym c.in-None.ensures.steps.0)
    ∙ c.loop-path.invariant
    ∙ ap (λ l. map entry_of c.in_ok-found.found.items ++ l)
    (walk_is c.args.top.now c.args.self.now c.in_ok-low.low c.in_ok-high.high (c.args.top.now ++ 47 ∷ [])
    (c.in_ok-low.ensures ∙ ap (λ l. l ++ 47 ∷ []) c.as_slice.ensures)
    (c.in_ok-high.ensures ∙ ap (λ l. l ++ 48 ∷ []) c.as_slice-2.ensures)
    c.self.inside.keys.entries c.range-path-items.ensures.ordered c.self.view_is c.into_iter-path-iterator.result
    (c.into_iter-path-iterator.ensures.into_iter_gives ∙ c.range-path-items.ensures.between tt)))))
