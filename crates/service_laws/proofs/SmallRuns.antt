-- Small runs are computed.
use Rattle.std.proofs.Common.{◌≡◌, ◌≤◌, Bool, true, false, ◌&&◌, List, [], ◌∷◌, refl, subst, arith}
use Rattle.std.specs.Prelude.{nat_le}
use Rattle.std.specs.List.{list_all, count_by}
use Rattle.std.proofs.lemmas.Bool.{leb-true}
use Rattle.log_format.specs.declared.Line.TheVariants as lines
use Rattle.xdr_core.specs.Items.{item_in}
use Rattle.xdr_core.specs.Grammar.{item_at}
use Rattle.rpc_core.specs.Call.{header, head_in}
use Rattle.dispatch.specs.Answer.{answer}
use Rattle.cluster_model.specs.Service.{Service}
use Rattle.cluster_model.specs.State.{is_unsound}
use Rattle.cluster_model.specs.Moments.{Moment}
use Rattle.cluster_model.specs.Fair.{IsFair}
use Rattle.cluster_model.specs.Run.{run, end_of, Always}
use Rattle.service_laws.specs.Served.{service}
use Rattle.service_laws.specs.SmallRuns.{four, asked, one_failure, lying, two_rogues}

abbrev are_fair : Service → List Moment → Bool
are_fair S ms = list_all (λ (m : Moment). nat_le (count_by is_unsound m.state.replicas) S.f) ms

fair_all : (S : Service) (ms : List Moment) → are_fair S ms ≡ true → Always (IsFair S) ms
fair_all S [] h = tt
fair_all S (m ∷ ms) h = by (nat_le (count_by is_unsound m.state.replicas) S.f) refl h (fair_all S ms)
  where
    by : (b : Bool) → nat_le (count_by is_unsound m.state.replicas) S.f ≡ b → (b && are_fair S ms) ≡ true →
        (are_fair S ms ≡ true → Always (IsFair S) ms) → Always (IsFair S) (m ∷ ms)
    by true e g rest = (leb-true (count_by is_unsound m.state.replicas) S.f e, rest g)
    by false e g rest = absurd (cc)

failing_fair : are_fair (service four) (run (service four) 4 one_failure asked) ≡ true
unfolding service answer head_in header item_at item_in
failing_fair = refl

lying_fair : are_fair (service four) (run (service four) 4 [] lying) ≡ true
unfolding service answer head_in header item_at item_in
lying_fair = refl

pub failure_fair : Always (IsFair (service four)) (run (service four) 4 one_failure asked)
failure_fair = fair_all (service four) (run (service four) 4 one_failure asked) failing_fair

pub lie_fair : Always (IsFair (service four)) (run (service four) 4 [] lying)
lie_fair = fair_all (service four) (run (service four) 4 [] lying) lying_fair

pub lie_lines : (end_of (service four) 4 [] lying).lines
    ≡ lines.Silent 1 ∷ lines.At 0 1 ∷ lines.At 1 1 ∷ lines.At 2 1 ∷ lines.At 3 1 ∷ []
unfolding service answer head_in header item_at item_in
lie_lines = refl

rogues_unsound : count_by is_unsound (end_of (service four) 4 [] two_rogues).state.replicas ≡ 2
unfolding service answer head_in header item_at item_in
rogues_unsound = refl

one_spare : (service four).f ≡ 1
unfolding service
one_spare = refl

pub rogues_unfair : IsFair (service four) (end_of (service four) 4 [] two_rogues) → ⊥
rogues_unfair fair =
    let low : 2 ≤ 1 = subst (λ n. 2 ≤ n) one_spare (subst (λ n. n ≤ (service four).f) rogues_unsound fair) in
    omega arith
