-- What holds of every run of the service: of fair moments, and where no record harms.
use Rattle.std.proofs.Common.{◌≡◌, ◌≢◌, ℕ, suc, ◌+◌, ◌*◌, List, [], ◌∷◌, ◌++◌, length, get_or, refl, sym, ◌∙◌, ap, subst, arith}
use Rattle.std.specs.List.{All}
use Rattle.log_format.specs.declared.Event.{Event}
use Rattle.nfs2_types.specs.declared.Limits.{Limits}
use Rattle.server_trait.specs.declared.FaultPoint.{FaultPoint}
use Rattle.cluster_model.specs.Service.{Service}
use Rattle.cluster_model.specs.Tree.{below}
use Rattle.cluster_model.specs.Moments.{Moment}
use Rattle.cluster_model.specs.Turns.{last, moments}
use Rattle.cluster_model.specs.Loose.{LooseStep}
use Rattle.cluster_model.specs.Good.{FitsEvent}
use Rattle.cluster_model.specs.Calm.{IsHarmless}
use Rattle.cluster_model.specs.Run.{fresh, start, start_fault, run, LooseFrom, LooseRun, Always, SameUptoApart, UptoApart, nothing, IsAsPromised, IsOnce, replies}
use Rattle.cluster_model.specs.Served.{IsServed}
use Rattle.cluster_model.proofs.Growing.{faults_behind}
use Rattle.cluster_model.proofs.Lines.{Chain}
use Rattle.cluster_model.proofs.Failures.{run_chain}
use Rattle.cluster_model.proofs.Once.{run_once}
use Rattle.cluster_model.proofs.Voted.{Always-last}
use Rattle.cluster_model.proofs.CalmRuns.{loose_run_calm}
use Rattle.cluster_model.proofs.ExactRuns.{exact_run}
use Rattle.cluster_model.proofs.Headline.{headline}
use Rattle.service_laws.specs.Served.{IsSized, service}
use Rattle.service_laws.proofs.Served.{service_lawful, service_orderly}
use Rattle.basefs.specs.Run.{IsTold, end_of}

-- FAULT POINTS OF LATER RECORDS MAKE NO DIFFERENCE

from_more : (S : Service) (downs met : List FaultPoint) (e n : ℕ) (events : List Event) (m : Moment)
    (ms : List Moment) → e + length events ≡ n → All (λ (d : FaultPoint). d.event ≡ n) met →
    LooseFrom S downs e events m ms → LooseFrom S (downs ++ met) e events m ms
from_more S downs met e n [] m ms en h loose = loose
from_more S downs met e n (event ∷ events) m ms en h loose =
    let other : All (λ (d : FaultPoint). d.event ≢ e) met = λ k d within same.
    (let f : (get_or met k d).event ≡ n = h k d within in absurd (omega arith)) in (
      loose.0,
      loose.1,
      loose.2,
      subst (λ f. LooseStep S f event m loose.0) (sym (faults_behind e downs met other)) loose.3,
      from_more S downs met (suc e) n events (last m loose.0) loose.1 (omega arith) h loose.4,
    )

-- a run that the fault points of the record behind it leave as it is
pub run_more : (S : Service) (servers : ℕ) (downs met : List FaultPoint) (events : List Event) (ms : List Moment) →
    All (λ (d : FaultPoint). d.event ≡ suc (length events)) met → LooseRun S servers downs events ms →
    LooseRun S servers (downs ++ met) events ms
run_more S servers downs met events ms h loose =
    let n = length events in
    let other : All (λ (d : FaultPoint). d.event ≢ 0) met = λ k d within same.
    (let f : (get_or met k d).event ≡ suc n = h k d within in absurd (omega arith)) in
    let same : start S servers (downs ++ met) ≡ start S servers downs =
    ap (λ f. fresh S servers ∷ moments (start_fault f) (fresh S servers) (below (3 * S.f + 1)))
    (faults_behind 0 downs met other) in
    let one : 1 + n ≡ suc n = omega arith in (
      loose.0,
      loose.1 ∙ ap (λ xs. xs ++ loose.0) (sym same),
      subst (λ xs. LooseFrom S (downs ++ met) 1 events (last (fresh S servers) xs) loose.0) (sym same)
          (from_more S downs met 1 (suc n) events (last (fresh S servers) (start S servers downs)) loose.0 one h
          loose.2),
    )

-- WHAT HOLDS OF RUNS

chain_told : (m : Moment) (ms : List Moment) → Chain m ms → replies m.lines ≡ m.state.decisions →
    replies (last m ms).lines ≡ (last m ms).state.decisions
chain_told m [] chain h = h
chain_told m (x ∷ ms) chain h = chain_told x ms chain.1 (chain.0.told h)

module _ (limits : Limits) (servers : ℕ) (downs : List FaultPoint) (events : List Event) (ms : List Moment)
    (loose : LooseRun (service limits) servers downs events ms) where
  -- each reply is a decision, and stands once
  pub run_told : IsTold (end_of limits servers ms)
  run_told =
      let first = fresh (service limits) servers in
      let all : replies (end_of limits servers ms).lines ≡ (end_of limits servers ms).state.decisions =
      chain_told first ms (run_chain (service limits) servers downs events ms loose) refl in
      record {
        decisions = all;
        once = subst IsOnce (sym all)
            (Always-last (λ (m : Moment). IsOnce m.state.decisions) first ms tt
            (run_once (service limits) servers downs events ms loose));
      }

  pub run_exact : IsSized limits → All (FitsEvent (service limits)) events →
      SameUptoApart (service limits) nothing ms (run (service limits) servers downs events)
  run_exact sized fits =
      exact_run (service limits) (service_lawful limits sized) servers downs events fits ms loose

  pub run_promised : IsSized limits → All (FitsEvent (service limits)) events →
      UptoApart (service limits) nothing (IsAsPromised (service limits)) ms
  run_promised sized fits =
      headline (service limits) (service_lawful limits sized) servers downs events fits ms loose

  pub run_served : All IsHarmless events → Always (IsServed (service limits)) ms
  run_served harmless =
      loose_run_calm (service limits) (service_orderly limits) servers downs events harmless ms loose
