use Rattle.std.proofs.Common.{rules, List, ◌++◌, reverse, sym, ap, ◌∙◌}
use Rattle.std.specs.Prelude.{nat_le, filter}
use Rattle.std.specs.Option.{option_to_list}
use Rattle.std.proofs.lemmas.Fn.{filter_same}
use Rattle.cluster_model.specs.State.{Checkpoint}
use Rattle.cow_checkpoint.proofs.Holding.{filter-kept}
use Rattle.cow_checkpoint.proofs.held.Held.drop_before.Goals as goal

pub returns : goal.returns
returns c =
    let h = c.self.inside in
    let older = filter_same _ (λ (d : Checkpoint). nat_le c.args.place d.place) _ (λ x b f' k. search rules) h.older.items c.retain.new.self.items c.retain.ensures.filtered in
    let newest = c.still-newest.ensures ∙ ap (λ o. filter (λ (d : Checkpoint). nat_le c.args.place d.place) (option_to_list o)) c.take-newest.ensures.value in
    c.refill.ensures.same
    ∙ ap (λ (ds : List Checkpoint). option_to_list c.still-newest.result ++ reverse ds) older
    ∙ ap (λ (ds : List Checkpoint). ds ++ reverse (filter (λ (d : Checkpoint). nat_le c.args.place d.place) h.older.items)) newest
    ∙ sym (filter-kept (λ (d : Checkpoint). nat_le c.args.place d.place) h.newest h.older.items)
    ∙ ap (filter (λ (d : Checkpoint). nat_le c.args.place d.place)) c.self.view_is
