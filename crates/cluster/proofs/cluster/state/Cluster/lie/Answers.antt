use Rattle.std.proofs.Common.{◌<◌, refl, sym, ap, ◌∙◌, subst, arith, length, [], ◌∷◌, ◌++◌}
use Rattle.std.specs.Prelude.{slice_set}
use Rattle.std.proofs.lemmas.List.{set-set, length-set}
use Rattle.log_format.specs.declared.Line.TheVariants as lines
use Rattle.log_format.specs.declared.IdleCause.TheVariants.{NotLive}
use Rattle.replica.specs.Replicas.{IsOver}
use Rattle.seats.specs.declared.Seat.TheVariants.{Live as LiveSeat}
use Rattle.seats.proofs.Seats.{live_is, stays_unlive, left_of_live, left_unlive}
use Rattle.cluster.specs.Kept.{kept}
use Rattle.cluster.specs.OverBench.{Kept}
use Rattle.cluster.proofs.Turns.{live_same}
use Rattle.cluster.proofs.Seated.{over_set}
use Rattle.cluster.proofs.TurnClauses.{at_index, arrays_set}
use Rattle.cluster.proofs.Harms.{set_read, went_no_liar, went_liar, over_liar, changes_none}
use Rattle.cluster.proofs.cluster.state.Cluster.lie.Goals as goal

pub returns-in_default-clause-went : goal.returns-in_default-clause-went
returns-in_default-clause-went g c =
    let s = c.args.self.now in
    let v = kept s in
    let r = c.args.r in
    let o = c.index_mut.result.now in
    let within : r < length v.seats = omega (arith, c.requires.replica, s.seats.ok.0) in
    let at = at_index v.seats r o o within c.index_mut.ensures.value refl in
    let unlive = sym c.take_live.ensures.live ∙ c.in_default.is in
    λ met no_met. went_no_liar _ v _ _ r c.args.lie within o at unlive
    (record v { seats = slice_set v.seats r c.take_live.new.self })
    (ap (λ xs. let x : Kept = record v { seats = xs } in x)
    (ap (slice_set v.seats r) (c.take_live.ensures.left ∙ stays_unlive o unlive) ∙ set_read v.seats r o at)) _
    (c.in_ok-push_line.ensures ∙ ap (λ xs. xs ++ lines.Idle r NotLive ∷ []) c.requires.none) met no_met

pub returns-in_default-clause-arrays : goal.returns-in_default-clause-arrays
returns-in_default-clause-arrays g c =
    let s = c.args.self.now in
    let v = kept s in
    let r = c.args.r in
    let o = c.index_mut.result.now in
    let within : r < length v.seats = omega (arith, c.requires.replica, s.seats.ok.0) in
    let at = at_index v.seats r o o within c.index_mut.ensures.value refl in
    let new : Kept = record v { seats = slice_set v.seats r c.take_live.new.self } in
    arrays_set _ v new _ _ _ _ r o c.requires.arrays (changes_none _ _) (changes_none _ _) refl
    (ap (slice_set v.seats r) (c.take_live.ensures.left ∙ stays_unlive o (sym c.take_live.ensures.live ∙ c.in_default.is)))
    (c.requires.arrays r o at)

pub returns-clause-went : goal.returns-clause-went
returns-clause-went g c =
    let s = c.args.self.now in
    let v = kept s in
    let r = c.args.r in
    let k = c.in-Some.replica in
    let within : r < length v.seats = omega (arith, c.requires.replica, s.seats.ok.0) in
    let at = at_index v.seats r c.index_mut.result.now (LiveSeat k) within c.index_mut.ensures.value
    (live_is _ _ (sym c.take_live.ensures.live ∙ c.in-Some.is)) in
    λ met no_met. went_liar _ v _ _ r c.args.lie within k at _
    (ap (λ xs. let x : Kept = record v { seats = xs } in x) (set-set v.seats r c.take_live.new.self (LiveSeat c.lie.new.self)
    ∙ ap (λ j. slice_set v.seats r (LiveSeat j)) c.in_ok-lie.ensures.ok)) _ c.requires.none met no_met

pub returns-clause-arrays : goal.returns-clause-arrays
returns-clause-arrays g c =
    let s = c.args.self.now in
    let v = kept s in
    let r = c.args.r in
    let k = c.in-Some.replica in
    let within : r < length v.seats = omega (arith, c.requires.replica, s.seats.ok.0) in
    let at = at_index v.seats r c.index_mut.result.now (LiveSeat k) within c.index_mut.ensures.value
    (live_is _ _ (sym c.take_live.ensures.live ∙ c.in-Some.is)) in
    let seats = slice_set (slice_set v.seats r c.take_live.new.self) r (LiveSeat c.lie.new.self) in
    arrays_set _ v (record v { seats = seats }) _ _ _ _ r (LiveSeat c.lie.new.self) c.requires.arrays (changes_none _ _) (changes_none _ _) refl
    (set-set v.seats r c.take_live.new.self (LiveSeat c.lie.new.self)) (c.requires.arrays r (LiveSeat k) at)

pub invariant_of-self : goal.invariant_of-self
invariant_of-self g c =
    let s = c.args.self.now in
    let r = c.args.r in
    let xs = s.seats.items in
    let x = c.take_live.new.self in
    record {
      within = s.within;
      sizes = s.sizes;
      replicas = s.replicas;
      interval = s.interval;
      few = s.few;
      times = s.times;
      sized = length-set xs r x ∙ s.sized;
      over = over_set s.limits.n r xs x s.over (λ k e. absurd (left_unlive _ k (sym c.take_live.ensures.left ∙ e)));
      voters = s.voters;
      root_voters = s.root_voters;
    }

pub invariant_of-self-in-Break-branch-2 : goal.invariant_of-self-in-Break-branch-2
invariant_of-self-in-Break-branch-2 g c =
    let s = c.args.self.now in
    let r = c.args.r in
    let xs = s.seats.items in
    let x = c.take_live.new.self in
    record {
      within = s.within;
      sizes = s.sizes;
      replicas = s.replicas;
      interval = s.interval;
      few = s.few;
      times = s.times;
      sized = length-set xs r x ∙ s.sized;
      over = over_set s.limits.n r xs x s.over (λ k e. absurd (left_unlive _ k (sym c.take_live.ensures.left ∙ e)));
      voters = s.voters;
      root_voters = s.root_voters;
    }

pub invariant_of-self-2 : goal.invariant_of-self-2
invariant_of-self-2 g c =
    let s = c.args.self.now in
    let r = c.args.r in
    let xs = s.seats.items in
    let x = c.take_live.new.self in
    let k = c.in-Some.replica in
    let within : r < length xs = omega (arith, c.requires.replica, s.seats.ok.0) in
    let at = at_index xs r c.index_mut.result.now (LiveSeat k) within c.index_mut.ensures.value
    (live_is _ _ (sym c.take_live.ensures.live ∙ c.in-Some.is)) in
    let over' : IsOver s.limits.n c.lie.new.self = subst (IsOver s.limits.n) (sym c.in_ok-lie.ensures.ok)
    (over_liar s.limits.n c.args.lie k (s.over r k at)) in
    record {
      within = s.within;
      sizes = s.sizes;
      replicas = s.replicas;
      interval = s.interval;
      few = s.few;
      times = s.times;
      sized = length-set (slice_set xs r x) r (LiveSeat c.lie.new.self) ∙ length-set xs r x ∙ s.sized;
      over = over_set s.limits.n r (slice_set xs r x) (LiveSeat c.lie.new.self)
          (over_set s.limits.n r xs x s.over (λ j e. absurd (let gone = (c.take_live.ensures.left ∙ left_of_live _ _ (sym c.take_live.ensures.live ∙ c.in-Some.is)) in cc)))
          (λ j e. subst (IsOver s.limits.n) (live_same _ j e) over');
      voters = s.voters;
      root_voters = s.root_voters;
    }
