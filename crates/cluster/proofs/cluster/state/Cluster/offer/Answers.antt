use Rattle.std.proofs.Common.{◌<◌, refl, sym, ◌∙◌, ap, arith, length}
use Rattle.std.proofs.lemmas.List.{length-set}
use Rattle.seats.specs.declared.Seat.TheVariants.{Live as LiveSeat}
use Rattle.seats.specs.Seats.{live_in}
use Rattle.seats.proofs.Seats.{live_is}
use Rattle.cluster.specs.Kept.{kept}
use Rattle.cluster.specs.Fetching.{scene}
use Rattle.cluster.proofs.Seated.{over_set}
use Rattle.cluster.proofs.TurnClauses.{at_index}
use Rattle.cluster.proofs.Offering.{offered_nothing, offered_text}
use Rattle.cluster.proofs.cluster.state.Cluster.offer.Goals as goal

pub invariant_of-self : goal.invariant_of-self
invariant_of-self g c =
    let s = c.ask_source.new.self in
    let r = c.args.r in
    let xs = s.seats.items in
    let o = c.index_mut.result.now in
    let x = c.give.new.self in
    let size = c.in_ok-text.ensures.seats.size in
    let within : r < length xs = omega (arith, c.requires.replica, c.args.self.now.seats.ok.0, size) in
    record {
      within = s.within;
      sizes = s.sizes;
      replicas = s.replicas;
      interval = s.interval;
      few = s.few;
      times = s.times;
      sized = length-set xs r x ∙ s.sized;
      over = over_set s.limits.n r xs x s.over (λ k e. s.over r k (at_index xs r o (LiveSeat k) within
          c.index_mut.ensures.value (live_is o k (sym c.give.ensures.live ∙ ap live_in e))));
      voters = s.voters;
      root_voters = s.root_voters;
    }

pub returns-in-Some-clause-offered : goal.returns-in-Some-clause-offered
returns-in-Some-clause-offered g c =
    let v = kept c.args.self.now in
    let u = kept c.ask_source.new.self in
    let r = c.args.r in
    let o = c.index_mut.result.now in
    let size = c.in_ok-text.ensures.seats.size in
    let within : r < length u.seats =
    omega (arith, c.requires.replica, c.args.self.now.seats.ok.0, size) in
    let at = at_index u.seats r o o within c.index_mut.ensures.value refl in
    offered_text _ r c.args.stage c.args.source (scene v _ _ _ _) (scene u _ _ _ _) c.args.item c.requires.wanted
    c.in_ok-text.ensures.seats c.requires.source.1 c.in_ok-text.field-0 c.in-Some.text c.in-Some.is
    c.in_ok-text.ensures.led o c.give.new.self at c.give.result
    (rw c.as_slice.ensures at c.give.ensures.answered)

pub returns-in-None-clause-offered : goal.returns-in-None-clause-offered
returns-in-None-clause-offered g c =
    let v = kept c.args.self.now in
    let u = kept c.ask_source.new.self in
    offered_nothing _ c.args.r c.args.stage c.args.source (scene v _ _ _ _) (scene u _ _ _ _) c.args.item
    c.requires.wanted c.in_ok-text.ensures.seats c.requires.source.1 c.in_ok-text.field-0 c.in-None.is
    c.in_ok-text.ensures.led
