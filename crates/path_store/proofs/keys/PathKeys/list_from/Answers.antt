use Rattle.std.proofs.Common.{is_gt, length, ◌++◌, map, refl, ap, sym, ◌∙◌, option_map}
use Rattle.path_store.specs.Walks.{pair, listed_of}
use Rattle.path_store.proofs.SeekLaws.{runs_forward, lists_on, lists_all, next_listed}
use Rattle.path_store.proofs.WalkLaws.{walk_is}
use Rattle.path_store.proofs.keys.PathKeys.list_from.Goals as goal

pub range-path-items-requires : goal.range-path-items-requires
range-path-items-requires c =
    ap is_gt (runs_forward c.args.top.now c.args.low c.in_ok-end.end c.requires.low c.in_ok-end.ensures)

pub returns-in-Some-2 : goal.returns-in-Some-2
returns-in-Some-2 c =
    let walk = walk_is c.args.top.now c.args.self.now c.args.low c.in_ok-end.end c.args.low refl c.in_ok-end.ensures
    c.self.inside.keys.entries c.range-path-items.ensures.ordered c.self.view_is c.into_iter-path-iterator.result
    (c.into_iter-path-iterator.ensures.into_iter_gives ∙ c.range-path-items.ensures.between tt) in
    let done = c.loop-path.invariant.1 in
    let past = rw (c.in-Some-2.is, c.as_slice-path.ensures) at c.in_ok-next.ensures in
    lists_on c.args.top.now c.args.self.now c.args.rows.now c.args.dir.now c.args.low c.requires.low c.requires.placed
    (c.in-Some.path.now, c.in-Some.key.now) done.0 c.next.new.self
    (ap (λ l. done.0 ++ l) (sym c.in-Some.ensures.steps) ∙ done.1 ∙ walk)
    c.in-Some-2.next past c.args.listed.now.items c.loop-path.listed.items
    (ap (λ l. map pair c.loop-path.listed.items ++ listed_of c.args.rows.now c.args.dir.now (length c.args.top.now) l)
    (sym c.in-Some.ensures.steps) ∙ c.loop-path.invariant.0
    ∙ ap (λ l. map pair c.args.listed.now.items
    ++ listed_of c.args.rows.now c.args.dir.now (length c.args.top.now) l) walk)

pub loop-path-preserved : goal.loop-path-preserved
loop-path-preserved c = next_listed c.args.rows.now c.args.dir.now (length c.args.top.now)
    (c.in-Some.path.now, c.in-Some.key.now) c.loop-path.path-iterator c.next.new.self c.into_iter-path-iterator.result
    (map pair c.loop-path.listed.items) (map pair c.push_listed.new.listed.items) (map pair c.args.listed.now.items)
    (option_map pair c.in_ok-row.row) c.in-Some.ensures.steps (rw c.as_slice-path.ensures at c.in_ok-row.ensures)
    c.in_ok-push_listed.ensures c.loop-path.invariant

pub returns : goal.returns
returns c =
    let walk = walk_is c.args.top.now c.args.self.now c.args.low c.in_ok-end.end c.args.low refl c.in_ok-end.ensures
    c.self.inside.keys.entries c.range-path-items.ensures.ordered c.self.view_is c.into_iter-path-iterator.result
    (c.into_iter-path-iterator.ensures.into_iter_gives ∙ c.range-path-items.ensures.between tt) in
    lists_all c.args.top.now c.args.self.now c.args.rows.now c.args.dir.now c.args.low c.requires.low
    c.requires.placed c.args.listed.now.items c.loop-path.listed.items
    (ap (λ l. map pair c.loop-path.listed.items ++ listed_of c.args.rows.now c.args.dir.now (length c.args.top.now) l)
    (sym c.in-None.ensures.steps.0) ∙ c.loop-path.invariant.0
    ∙ ap (λ l. map pair c.args.listed.now.items
    ++ listed_of c.args.rows.now c.args.dir.now (length c.args.top.now) l) walk)
