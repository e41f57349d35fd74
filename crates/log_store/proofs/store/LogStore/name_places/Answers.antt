use Rattle.std.proofs.Common.{ℕ, ◌∙◌, ◌∷◌, ap, subst}
use Rattle.std.specs.Prelude.{IfOk, Vec}
use Rattle.std.proofs.lemmas.List.{append-nil}
use Rattle.std.specs.declared.alloc.Global.{Global}
use Rattle.log_segments.specs.Newest.{ArePlacesUnder}
use Rattle.log_store.specs.Store.{records_in}
use Rattle.log_store.proofs.store.LogStore.name_places.Goals as goal

pub returns : goal.returns
returns g c =
    let records = records_in g.M.Medium.content g.M.Medium.size c.args.self.now in
    subst (λ k. IfOk c.places_under.result (λ (places : Vec ℕ Global). ArePlacesUnder records k places.items))
    (c.in_ok-prefix.ensures ∙ ap (λ d. 2 ∷ d) (append-nil c.args.dir.now)) c.places_under.ensures
