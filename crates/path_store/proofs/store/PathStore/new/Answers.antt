use Rattle.std.proofs.Common.{◌≡◌, true, false, is_some, sym, ap, ◌∙◌}
use Rattle.std.specs.FinMap.{get, insert, empty, get-empty}
use Rattle.std.specs.Ordering.{nat_cmp}
use Rattle.std.specs.Cmp.Lexicographic.{slice_cmp}
use Rattle.path_store.specs.Placed.{Dirs}
use Rattle.path_store.proofs.CallLaws.{started}
use Rattle.path_store.proofs.store.PathStore.new.Goals as goal

pub insert-requires : goal.insert-requires
insert-requires c = λ q there _. absurd (let bad : false ≡ true = sym (ap (λ (m : Dirs). is_some (get m q))
    c.new-dirs.ensures ∙ ap is_some (get-empty (slice_cmp nat_cmp) q)) ∙ there in cc)

pub invariant_of-result : goal.invariant_of-result
invariant_of-result c = λ _. (started c.args.root.now c.new-3.result c.new-4.result c.insert.new.self c.new-3.ensures
    c.new-4.ensures.empty (c.in-Ok.ensures ∙ ap (λ (m : Dirs). insert m c.args.root.now c.in_ok-top.top) c.new-dirs.ensures
    ∙ ap (insert empty c.args.root.now) (c.in_ok-top.ensures ∙ c.new.ensures.items)) c.told-root).0

pub returns : goal.returns
returns c = (started c.args.root.now c.new-3.result c.new-4.result c.insert.new.self c.new-3.ensures
    c.new-4.ensures.empty (c.in-Ok.ensures ∙ ap (λ (m : Dirs). insert m c.args.root.now c.in_ok-top.top) c.new-dirs.ensures
    ∙ ap (insert empty c.args.root.now) (c.in_ok-top.ensures ∙ c.new.ensures.items)) c.told-root).1
