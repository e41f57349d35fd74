use Rattle.std.proofs.Common.{◌<◌, length, refl, ◌∙◌, sym, ap, subst}
use Rattle.std.specs.List.{All}
use Rattle.cluster_model.specs.Right.{is_told}
use Rattle.replica.proofs.Overs.{touched_low, taken_is}
use Rattle.replica.proofs.running.Replica.take_checkpoint.Goals as goal

pub refresh-requires-clause-rows : goal.refresh-requires-clause-rows
refresh-requires-clause-rows g c =
    touched_low (length c.args.table.now.rows.items) c.args.self.now.store.told c.as_slice.result.now
    (λ i. ap (is_told i) c.as_slice.ensures.value ∙ c.in_ok-told.ensures.touched.same i) c.requires.over.told

pub refresh-requires-clause-leaves : goal.refresh-requires-clause-leaves
refresh-requires-clause-leaves g c =
    subst (λ n. All (λ i. i < n) c.as_slice.result.now) (sym c.requires.over.digests)
    (touched_low (length c.args.table.now.rows.items) c.args.self.now.store.told c.as_slice.result.now
    (λ i. ap (is_told i) c.as_slice.ensures.value ∙ c.in_ok-told.ensures.touched.same i) c.requires.over.told)

pub take-requires-clause-size : goal.take-requires-clause-size
take-requires-clause-size g c = c.refresh.ensures.size ∙ c.requires.over.digests ∙ sym c.requires.over.size

pub returns-clause-taken : goal.returns-clause-taken
returns-clause-taken g c = λ A st. taken_is A c.args.self.now
    (record {
      place = c.args.self.now.place;
      tree = c.refresh.new.tree;
      store = c.take.new.self;
      lies = c.args.self.now.lies;
      harmed = c.args.self.now.harmed;
    }) c.as_slice.result.now
    refl (λ i. ap (is_told i) c.as_slice.ensures.value ∙ c.in_ok-told.ensures.touched.same i)
    (c.in_ok-refresh.ensures.refreshed A st) c.in_ok-take.ensures refl refl
