-- Each place is decided once, at every moment, fair or not.
use Rattle.std.proofs.Common.{◌≡◌, ℕ, suc, ◌+◌, ◌*◌, Bool, true, false, cond, List, [], ◌∷◌, ◌++◌, refl, sym, subst}
use Rattle.std.specs.Prelude.{Option, Some, None, nat_le, nat_lt, ◌==◌}
use Rattle.std.proofs.lemmas.Bool.{eqb-true, eq-eqb}
use Rattle.nfs2_types.specs.declared.Word.{Word}
use Rattle.log_format.specs.declared.Event.{Event}
use Rattle.server_trait.specs.declared.FaultPoint.{FaultPoint}
use Rattle.cluster_model.specs.Service.{Service}
use Rattle.cluster_model.specs.Tree.{below}
use Rattle.cluster_model.specs.State.{State, lookup, has}
use Rattle.cluster_model.specs.Moments.{Moment, Faults, is_decided, votes, root_votes, decides, adds_word, casts_word, becomes_stable, adds_root, casts_root, fails}
use Rattle.cluster_model.specs.Turns.{moments, last}
use Rattle.cluster_model.specs.Loose.{LooseStep}
use Rattle.cluster_model.specs.Run.{Always, IsOnce, faults_in, fresh, start_fault, LooseFrom, LooseRun}
use Rattle.cluster_model.proofs.Keeping.{IsClosed, any_keeps}
use Rattle.cluster_model.proofs.Voted.{Always-append, Always-moments, Always-last}

has_none : {X : Type 0} (o : Option X) → has o ≡ false → o ≡ None
has_none None e = refl
has_none (Some x) e = absurd (cc)

append_other : (k p : ℕ) (w : Word) (us : List (ℕ × Word)) → (k == p) ≡ false → lookup k us ≡ None →
    lookup k (us ++ (p, w) ∷ []) ≡ None
append_other k p w [] other e = front (p == k) refl
  where
    front : (b : Bool) → (p == k) ≡ b → cond b (Some w) None ≡ None
    front true t = absurd (let same : p ≡ k = eqb-true p k t in let u : (k == p) ≡ true = eq-eqb k p (sym same) in cc)
    front false t = refl
append_other k p w (u ∷ us) other e = go (u.0 == k) e (append_other k p w us other)
  where
    go : (b : Bool) → cond b (Some u.1) (lookup k us) ≡ None →
        (lookup k us ≡ None → lookup k (us ++ (p, w) ∷ []) ≡ None) →
        cond b (Some u.1) (lookup k (us ++ (p, w) ∷ [])) ≡ None
    go true f rest = absurd (cc)
    go false f rest = rest f

once_push : (ws : List (ℕ × Word)) (p : ℕ) (w : Word) → has (lookup p ws) ≡ false → IsOnce ws →
    IsOnce (ws ++ (p, w) ∷ [])
once_push [] p w none h = (refl, tt)
once_push (v ∷ vs) p w none h = by (v.0 == p) refl none (once_push vs p w)
  where
    by : (b : Bool) → (v.0 == p) ≡ b → has (cond b (Some v.1) (lookup p vs)) ≡ false →
        (has (lookup p vs) ≡ false → IsOnce vs → IsOnce (vs ++ (p, w) ∷ [])) → IsOnce (v ∷ (vs ++ (p, w) ∷ []))
    by true e g rest = absurd (cc)
    by false e g rest = (append_other v.0 p w vs e h.0, rest g h.1)

abbrev Once : State → Type 0
Once s = IsOnce s.decisions

word_once : (S : Service) (r p : ℕ) (w : Word) (m : Moment) → Once m.state → Once (casts_word S r p w m).state
word_once S r p w m h = by (is_decided p m.state) refl (nat_le (S.f + 1) (votes p w (adds_word r p w m.state)))
  where
    by : (a : Bool) → is_decided p m.state ≡ a → (b : Bool) →
        Once (cond a m (cond b (decides p w (record m { state = adds_word r p w m.state }))
        (record m { state = adds_word r p w m.state }))).state
    by true e b = h
    by false e false = h
    by false e true = once_push m.state.decisions p w e h

root_once : (S : Service) (r p : ℕ) (d : List ℕ) (m : Moment) → Once m.state → Once (casts_root S r p d m).state
root_once S r p d m h = by (nat_lt m.state.stable p) (nat_le (2 * S.f + 1) (root_votes p d (adds_root r p d m.state)))
  where
    by : (a b : Bool) → Once
        (cond a (cond b (becomes_stable p d (record m { state = adds_root r p d m.state }))
        (record m { state = adds_root r p d m.state })) m).state
    by false b = h
    by true true = h
    by true false = h

once_closed : (S : Service) → IsClosed S Once
once_closed S = record {
  live = λ r l s h. h;
  down = λ r s h. h;
  reboot = λ r c s h. h;
  withdraw = λ r s h. h;
  word = λ r p w m h. word_once S r p w m h;
  root_word = λ r p d m h. root_once S r p d m h;
  ask = λ q s h. h;
}

-- What the small changes keep, a loose run keeps

module _ (S : Service) (P : State → Type 0) (closed : IsClosed S P)
    (any : (e : Event) (f : Faults) (m : Moment) (ms : List Moment) → P m.state → LooseStep S f e m ms →
    Always (λ n. P n.state) ms) where
  from_keeps : (downs : List FaultPoint) (e : ℕ) (events : List Event) (m : Moment) (ms : List Moment) → P m.state →
      LooseFrom S downs e events m ms → Always (λ n. P n.state) ms
  from_keeps downs e [] m ms h loose = subst (Always (λ n. P n.state)) (sym loose) tt
  from_keeps downs e (event ∷ events) m ms h loose =
      let now = any event (faults_in downs e) m loose.0 h loose.3 in
      subst (Always (λ n. P n.state)) (sym loose.2)
      (Always-append (λ n. P n.state) loose.0 loose.1 now
      (from_keeps downs (suc e) events (last m loose.0) loose.1 (Always-last (λ n. P n.state) m loose.0 h now) loose.4))

  pub run_keeps : (servers : ℕ) (downs : List FaultPoint) (events : List Event) (ms : List Moment) →
      P (fresh S servers).state → LooseRun S servers downs events ms → Always (λ n. P n.state) ms
  run_keeps servers downs events ms h loose =
      let m = fresh S servers in
      let ns = moments (start_fault (faults_in downs 0)) m (below (3 * S.f + 1)) in
      let hs : Always (λ n. P n.state) ns = Always-moments (λ n. P n.state) (start_fault (faults_in downs 0))
      (λ k r g. by r k g (faults_in downs 0 0 r)) m (below (3 * S.f + 1)) h in
      subst (Always (λ n. P n.state)) (sym loose.1) (
        h,
        Always-append (λ n. P n.state) ns loose.0 hs
            (from_keeps downs 1 events (last m ns) loose.0 (Always-last (λ n. P n.state) m ns h hs) loose.2),
      )
    where
      by : (r : ℕ) (k : Moment) → P k.state → (b : Bool) → P (cond b (fails r k) k).state
      by r k g true = closed.down r k.state g
      by r k g false = g

pub run_once : (S : Service) (servers : ℕ) (downs : List FaultPoint) (events : List Event) (ms : List Moment) →
    LooseRun S servers downs events ms → Always (λ n. IsOnce n.state.decisions) ms
run_once S servers downs events ms loose =
    run_keeps S Once (once_closed S)
    (λ e f m ns h l. any_keeps S Once (once_closed S) (λ r c s g. g) f m h e
    (λ r spare i. h) ns l) servers downs events ms tt loose
