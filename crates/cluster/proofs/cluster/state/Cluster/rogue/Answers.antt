use Rattle.std.proofs.Common.{◌<◌, ◌+◌, ◌*◌, refl, sym, ◌∙◌, length, arith}
use Rattle.service_laws.specs.Served.{service}
use Rattle.cluster.specs.Kept.{kept}
use Rattle.cluster.proofs.Casts.{service_k}
use Rattle.cluster.proofs.Turns.{idle_is}
use Rattle.cluster.proofs.StepClauses.{went_by}
use Rattle.cluster.proofs.Harms.{rogue_idle}
use Rattle.cluster.proofs.cluster.state.Cluster.rogue.Goals as goal

pub returns-in_ok-push_line-in-Err-clause-went : goal.returns-in_ok-push_line-in-Err-clause-went
returns-in_ok-push_line-in-Err-clause-went g c =
    let v = kept c.args.self.now in
    let r = c.args.r in
    let within : r < length v.seats = omega (arith, c.requires.replica, c.args.self.now.seats.ok.0) in
    rogue_idle _ v _ _ _ _ _ r c.in-Err.cause c.requires.none.0 c.requires.none.1 c.in_ok-push_line-in-Err.ensures
    (λ m h. idle_is _ (service v.limits) v (service_k v.limits) _ _ r c.in-Err.cause within
    (sym c.next_of.ensures ∙ c.in-Err.is) m h) c.args.request.now

pub rogue_turn-requires-clause-next : goal.rogue_turn-requires-clause-next
rogue_turn-requires-clause-next g c = sym c.next_of.ensures ∙ c.in-Ok.is

pub returns-in_ok-rogue_turn-in-Ok-clause-went : goal.returns-in_ok-rogue_turn-in-Ok-clause-went
returns-in_ok-rogue_turn-in-Ok-clause-went g c =
    let small : c.args.r < 3 * c.args.self.now.limits.f + 1 =
    omega (arith, c.requires.replica, c.args.self.now.seats.ok.0, c.args.self.now.sized) in
    went_by _ _ _ (kept c.args.self.now) (kept c.rogue_turn.new.self) _ _ _ _ _ _ refl (λ k spare e. absurd (cc))
    (λ faults m. (refl, refl)) (λ faults m. refl) c.args.r _ _ c.requires.none.0 c.requires.none.1 small
    c.in_ok-rogue_turn-in-Ok.ensures.turned c.in_ok-rogue_turn-in-Ok.ensures.stays.same
