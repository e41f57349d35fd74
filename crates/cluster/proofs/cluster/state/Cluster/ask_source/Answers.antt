use Rattle.std.proofs.Common.{◌≡◌, ◌<◌, refl, sym, ap, ◌∙◌, subst, arith, length, Err}
use Rattle.std.specs.Prelude.{slice_set}
use Rattle.std.proofs.lemmas.List.{set-set, length-set}
use Rattle.std.proofs.lemmas.Option.{slice_get_within}
use Rattle.cluster_model.specs.Tree.{item}
use Rattle.server_trait.specs.declared.WrapErr.TheVariants.{Down}
use Rattle.replica.specs.Replicas.{IsOver}
use Rattle.seats.specs.declared.Seat.TheVariants.{Live as LiveSeat}
use Rattle.seats.specs.Positions.{ChangesAt}
use Rattle.seats.proofs.Positions.{changes_set}
use Rattle.seats.proofs.Seats.{live_is, stays_unlive, left_of_live, left_unlive}
use Rattle.cluster.specs.Kept.{kept}
use Rattle.cluster.specs.OverBench.{Kept}
use Rattle.cluster.proofs.Casts.{sized_of}
use Rattle.cluster.proofs.Turns.{live_same}
use Rattle.cluster.proofs.Seated.{over_set}
use Rattle.cluster.proofs.Struck.{later_at}
use Rattle.cluster.proofs.TurnClauses.{at_index}
use Rattle.cluster.proofs.Harms.{set_read}
use Rattle.cluster.proofs.Asking.{asks_unlive, asks_live, asks_fell}
use Rattle.cluster.proofs.cluster.state.Cluster.ask_source.Goals as goal

pub invariant_of-self : goal.invariant_of-self
invariant_of-self g c =
    let s = c.args.self.now in
    let r = c.args.source in
    let xs = s.seats.items in
    let x = c.take_live.new.self in
    record {
      within = s.within;
      sizes = s.sizes;
      replicas = s.replicas;
      interval = s.interval;
      few = s.few;
      times = s.times;
      sized = length-set xs r x ∙ s.sized;
      over = over_set s.limits.n r xs x s.over (λ k e. absurd (left_unlive _ k (sym c.take_live.ensures.left ∙ e)));
      voters = s.voters;
      root_voters = s.root_voters;
    }

pub returns-in_default-clause-led : goal.returns-in_default-clause-led
returns-in_default-clause-led g c =
    let s = c.args.self.now in
    let v = kept s in
    let r = c.args.source in
    let o = c.index_mut.result.now in
    let within : r < length v.seats = omega (arith, c.requires.source, s.seats.ok.0) in
    let at = at_index v.seats r o o within c.index_mut.ensures.value refl in
    let unlive = sym c.take_live.ensures.live ∙ c.in_default.is in
    asks_unlive _ v _ _ _ _ c.args.r c.args.stage r within c.requires.arrays c.requires.room
    (item c.args.item.level c.args.item.number) o at unlive
    (record v { seats = slice_set v.seats r c.take_live.new.self })
    (ap (λ xs. let x : Kept = record v { seats = xs } in x)
    (ap (slice_set v.seats r) (c.take_live.ensures.left ∙ stays_unlive o unlive) ∙ set_read v.seats r o at))

pub returns-in_default-clause-seats : goal.returns-in_default-clause-seats
returns-in_default-clause-seats g c = changes_set _ c.args.source _

pub serve_at-served-requires-clause-stands : goal.serve_at-served-requires-clause-stands
serve_at-served-requires-clause-stands g c =
    let v = kept c.args.self.now in
    let r = c.args.source in
    let within : r < length v.seats = omega (arith, c.requires.source, c.args.self.now.seats.ok.0) in
    c.requires.arrays r (LiveSeat c.in-Some.replica)
    (at_index v.seats r c.index_mut.result.now (LiveSeat c.in-Some.replica) within c.index_mut.ensures.value
    (live_is _ _ (sym c.take_live.ensures.live ∙ c.in-Some.is)))

pub serve_at-served-requires-clause-over : goal.serve_at-served-requires-clause-over
serve_at-served-requires-clause-over g c =
    let v = kept c.args.self.now in
    let r = c.args.source in
    let within : r < length v.seats = omega (arith, c.requires.source, c.args.self.now.seats.ok.0) in
    c.args.self.now.over r c.in-Some.replica
    (at_index v.seats r c.index_mut.result.now (LiveSeat c.in-Some.replica) within c.index_mut.ensures.value
    (live_is _ _ (sym c.take_live.ensures.live ∙ c.in-Some.is)))

pub invariant_of-self-in-Ok : goal.invariant_of-self-in-Ok
invariant_of-self-in-Ok g c =
    let s = c.args.self.now in
    let r = c.args.source in
    let xs = s.seats.items in
    let x = c.take_live.new.self in
    let k = c.in-Some.replica in
    let k' = c.serve_at-served.new.replica in
    let within : r < length xs = omega (arith, c.requires.source, s.seats.ok.0) in
    let at = at_index xs r c.index_mut.result.now (LiveSeat k) within c.index_mut.ensures.value
    (live_is _ _ (sym c.take_live.ensures.live ∙ c.in-Some.is)) in
    let over' : IsOver s.limits.n k' = subst (IsOver s.limits.n) (sym c.serve_at-served.ensures.same) (s.over r k at) in
    record {
      within = s.within;
      sizes = s.sizes;
      replicas = s.replicas;
      interval = s.interval;
      few = s.few;
      times = s.times;
      sized = length-set (slice_set xs r x) r (LiveSeat k') ∙ length-set xs r x ∙ s.sized;
      over = over_set s.limits.n r (slice_set xs r x) (LiveSeat k')
          (over_set s.limits.n r xs x s.over (λ j e. absurd (left_unlive _ j (sym c.take_live.ensures.left ∙ e))))
          (λ j e. subst (IsOver s.limits.n) (live_same _ j e) over');
      voters = s.voters;
      root_voters = s.root_voters;
    }

pub returns-in-Ok-clause-led : goal.returns-in-Ok-clause-led
returns-in-Ok-clause-led g c =
    let s = c.args.self.now in
    let v = kept s in
    let r = c.args.source in
    let k = c.in-Some.replica in
    let x = c.take_live.new.self in
    let k' = c.serve_at-served.new.replica in
    let within : r < length v.seats = omega (arith, c.requires.source, s.seats.ok.0) in
    let at = at_index v.seats r c.index_mut.result.now (LiveSeat k) within c.index_mut.ensures.value
    (live_is _ _ (sym c.take_live.ensures.live ∙ c.in-Some.is)) in
    asks_live _ v _ _ _ _ c.args.r c.args.stage r within c.requires.arrays c.requires.room k at _
    c.serve_at-served.ensures.servers _ (ap (λ ts. ts.items) c.serve_at-served.ensures.tables)
    c.serve_at-served.result c.serve_at-served.ensures.watched c.args.item.level c.args.item.number c.in-Ok.text
    c.in-Ok.is (sized_of v.limits s.within s.sizes) (s.over r k at) c.in-Ok.ensures.given c.in-Ok.ensures.stands
    (record v { seats = slice_set (slice_set v.seats r x) r (LiveSeat k') })
    (ap (λ xs. let x : Kept = record v { seats = xs } in x) (set-set v.seats r x (LiveSeat k')
    ∙ ap (λ j. slice_set v.seats r (LiveSeat j)) c.serve_at-served.ensures.same ∙ set_read v.seats r (LiveSeat k) at))

pub returns-in-Ok-clause-seats : goal.returns-in-Ok-clause-seats
returns-in-Ok-clause-seats g c =
    let s = c.args.self.now in
    let r = c.args.source in
    let xs = s.seats.items in
    let x = c.take_live.new.self in
    let y = LiveSeat c.serve_at-served.new.replica in
    subst (λ ys. ChangesAt r xs ys) (sym (set-set xs r x y)) (changes_set xs r y)

pub returns-in-Ok-clause-servers : goal.returns-in-Ok-clause-servers
returns-in-Ok-clause-servers g c =
    let r = c.args.source in
    later_at _ _ _ r (slice_get_within _ r _ c.serve_at-served.ensures.watched.is_before)
    c.serve_at-served.ensures.servers c.serve_at-served.result c.serve_at-served.ensures.watched _ c.requires.source

pub invariant_of-self-in-Err-1 : goal.invariant_of-self-in-Err-1
invariant_of-self-in-Err-1 g c =
    let s = c.args.self.now in
    let r = c.args.source in
    let xs = s.seats.items in
    let x = c.take_live.new.self in
    record {
      within = s.within;
      sizes = s.sizes;
      replicas = s.replicas;
      interval = s.interval;
      few = s.few;
      times = s.times;
      sized = length-set xs r x ∙ s.sized;
      over = over_set s.limits.n r xs x s.over (λ k e. absurd (left_unlive _ k (sym c.take_live.ensures.left ∙ e)));
      voters = s.voters;
      root_voters = s.root_voters;
    }

pub returns-in-Err-Down-clause-led : goal.returns-in-Err-Down-clause-led
returns-in-Err-Down-clause-led g c =
    let s = c.args.self.now in
    let v = kept s in
    let r = c.args.source in
    let k = c.in-Some.replica in
    let x = c.take_live.new.self in
    let within : r < length v.seats = omega (arith, c.requires.source, s.seats.ok.0) in
    let at = at_index v.seats r c.index_mut.result.now (LiveSeat k) within c.index_mut.ensures.value
    (live_is _ _ (sym c.take_live.ensures.live ∙ c.in-Some.is)) in
    asks_fell _ v _ _ _ _ c.args.r c.args.stage r within c.requires.arrays c.requires.room k at _
    c.serve_at-served.ensures.servers _ (ap (λ ts. ts.items) c.serve_at-served.ensures.tables)
    c.serve_at-served.result c.serve_at-served.ensures.watched (item c.args.item.level c.args.item.number)
    (let e : c.serve_at-served.result ≡ Err c.in-Err-Down.field-0 = c.in-Err-Down.is in
    let f : c.in-Err-Down.field-0 ≡ Down = rw e at c.in-Err-Down.field-0-is in
    e ∙ ap Err f)
    (record v { seats = slice_set v.seats r x })
    (ap (λ o. let y : Kept = record v { seats = slice_set v.seats r o } in y)
    (c.take_live.ensures.left ∙ left_of_live _ _ (sym c.take_live.ensures.live ∙ c.in-Some.is))) _
    (rw c.from.ensures at c.in_ok-push_fall_at-in-Err-Down.ensures.points) _
    c.in_ok-push_fall_at-in-Err-Down.ensures.lines

pub returns-in-Err-Down-clause-seats : goal.returns-in-Err-Down-clause-seats
returns-in-Err-Down-clause-seats g c = changes_set _ c.args.source _

pub returns-in_err-push_fall_at-in-Err-Down-clause-servers : goal.returns-in_err-push_fall_at-in-Err-Down-clause-servers
returns-in_err-push_fall_at-in-Err-Down-clause-servers g c =
    let r = c.args.source in
    later_at _ _ _ r (slice_get_within _ r _ c.serve_at-served.ensures.watched.is_before)
    c.serve_at-served.ensures.servers c.serve_at-served.result c.serve_at-served.ensures.watched _ c.requires.source

pub returns-in-Err-Down-clause-servers : goal.returns-in-Err-Down-clause-servers
returns-in-Err-Down-clause-servers g c =
    let r = c.args.source in
    later_at _ _ _ r (slice_get_within _ r _ c.serve_at-served.ensures.watched.is_before)
    c.serve_at-served.ensures.servers c.serve_at-served.result c.serve_at-served.ensures.watched _ c.requires.source

pub returns-clause-servers : goal.returns-clause-servers
returns-clause-servers g c =
    let r = c.args.source in
    later_at _ _ _ r (slice_get_within _ r _ c.serve_at-served.ensures.watched.is_before)
    c.serve_at-served.ensures.servers c.serve_at-served.result c.serve_at-served.ensures.watched _ c.requires.source
