use Rattle.std.proofs.Common.{◌++◌, map, ap, sym, ◌∙◌}
use Rattle.std.proofs.lemmas.List.{append-nil}
use Rattle.path_store.specs.Walks.{pair, names_left}
use Rattle.path_store.proofs.WalkLaws.{list_found}
use Rattle.path_store.proofs.keys.PathKeys.list.Goals as goal

pub returns : goal.returns
returns c = list_found c.args.top.now c.args.self.now c.args.rows.now c.args.dir.now c.loop-next.listed.items
    (sym (append-nil (map pair c.loop-next.listed.items))
    ∙ ap (λ o. map pair c.loop-next.listed.items ++ names_left c.args.rows.now c.args.dir.now c.args.top.now
    c.args.self.now o) (sym c.in_default.is)
    ∙ c.loop-next.invariant.0)
