use Rattle.std.proofs.Common.{◌<◌, refl, sym, ◌∙◌, length, arith}
use Rattle.service_laws.specs.Served.{service}
use Rattle.cluster.specs.Kept.{kept}
use Rattle.cluster.proofs.Casts.{service_k, service_is, sized_of}
use Rattle.cluster.proofs.Turns.{idle_is, next_is, busy}
use Rattle.cluster.proofs.TurnClauses.{turned_idle}
use Rattle.cluster.proofs.cluster.state.Cluster.turn.Goals as goal

pub returns-in-Err-clause-turned : goal.returns-in-Err-clause-turned
returns-in-Err-clause-turned g c =
    let v = kept c.args.self.now in
    let r = c.args.r in
    let within : r < length v.seats = omega (arith, c.requires.replica, c.args.self.now.seats.ok.0) in
    turned_idle _ v _ _ _ _ _ c.in-Err.cause
    (λ m h. idle_is _ (service v.limits) v (service_k v.limits) _ _ r c.in-Err.cause within
    (sym c.next_of.ensures ∙ c.in-Err.is) m h)

pub returns-in-Err-clause-idle : goal.returns-in-Err-clause-idle
returns-in-Err-clause-idle g c =
    let v = kept c.args.self.now in
    let r = c.args.r in
    let within : r < length v.seats = omega (arith, c.requires.replica, c.args.self.now.seats.ok.0) in (
      refl,
      refl,
      refl,
      refl,
      refl,
      λ m h. idle_is _ (service v.limits) v (service_k v.limits) _ _ r c.in-Err.cause within
          (sym c.next_of.ensures ∙ c.in-Err.is) m h,
    )

pub run_turn-requires-clause-next : goal.run_turn-requires-clause-next
run_turn-requires-clause-next g c = sym c.next_of.ensures ∙ c.in-Ok.is

pub returns-in_ok-run_turn-in-Ok-clause-idle : goal.returns-in_ok-run_turn-in-Ok-clause-idle
returns-in_ok-run_turn-in-Ok-clause-idle g c =
    let v = kept c.args.self.now in
    let r = c.args.r in
    let within : r < length v.seats = omega (arith, c.requires.replica, c.args.self.now.seats.ok.0) in
    let sized = sized_of v.limits c.args.self.now.within c.args.self.now.sizes in
    λ m h d e. busy _ (service v.limits) v (service_is v.limits sized) _ _ r c.in-Ok.next within
    (next_is v r c.in-Ok.next within (sym c.next_of.ensures ∙ c.in-Ok.is)) m h d e
