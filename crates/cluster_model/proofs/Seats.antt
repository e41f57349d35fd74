-- One replica of a state: reading, changing, and what Right needs of the change.
use Rattle.std.proofs.Common.{◌≡◌, ℕ, ◌+◌, ◌*◌, ◌<◌, ◌≤◌, true, false, List, length, set, refl, sym, ◌∙◌, ap, ⊎_elim, arith}
use Rattle.std.specs.List.{count_by}
use Rattle.std.proofs.lemmas.List.{length-set, set_past, get_or_past, get_or-set_same}
use Rattle.std.proofs.lemmas.List.Elements.{All-set, All-get_or}
use Rattle.std.proofs.lemmas.Bool.{cases_lt}
use Rattle.cluster_model.specs.declared.request.Request.{Request}
use Rattle.cluster_model.specs.Service.{Service}
use Rattle.cluster_model.specs.State.{Condition, Live, Down, Rebuilding, Running, Replica, State, is_unsound, is_harmed}
use Rattle.cluster_model.specs.Moments.{gone, replica, put}
use Rattle.cluster_model.specs.Right.{IsRightLive, IsRightIn, IsRightReplica, IsRight, is_source}
use Rattle.cluster_model.proofs.Counting.{count_by-set_le, count_by-set_same}

-- a replica of the bench that is not there counts as Down
pub replica_right : (S : Service) (s : State) (r : ℕ) → IsRight S s → IsRightReplica S s.requests (replica s r)
replica_right S s r h = ⊎_elim (λ l. All-get_or (IsRightReplica S s.requests) s.replicas r gone l h.replicas)
    (λ g. let e : replica s r ≡ gone = get_or_past s.replicas r gone g in rw e tt) (cases_lt r (length s.replicas))

-- a state stays right where one replica becomes one that is right and no less a source
pub put_right : (S : Service) (s : State) (r : ℕ) (x : Replica) → IsRight S s → IsRightReplica S s.requests x →
    (is_source s.stable (replica s r) ≡ true → is_source s.stable x ≡ true) → IsRight S (put r x s)
put_right S s r x h right source =
    record {
      size = length-set s.replicas r x ∙ h.size;
      fit = h.fit;
      stable = h.stable;
      stable_root = h.stable_root;
      decided = h.decided;
      replicas = All-set (IsRightReplica S s.requests) s.replicas r x right h.replicas;
      sources = ⊎_elim
          (λ l. let e : count_by (is_source s.stable) s.replicas ≤ count_by (is_source s.stable) (set s.replicas r x) =
          count_by-set_le (is_source s.stable) s.replicas r x gone l source in
          let old : 2 * S.f + 1 ≤ count_by (is_source s.stable) s.replicas = h.sources in omega arith)
          (λ g. rw (set_past s.replicas r x g) h.sources)
          (cases_lt r (length s.replicas));
    }

-- which replicas are unsound does not change where one stays as it is
pub put_unsound : (s : State) (r : ℕ) (x : Replica) → is_unsound x ≡ is_unsound (replica s r) →
    count_by is_unsound (put r x s).replicas ≡ count_by is_unsound s.replicas
put_unsound s r x e = ⊎_elim
    (λ l. count_by-set_same is_unsound s.replicas r x gone l e)
    (λ g. ap (count_by is_unsound) (set_past s.replicas r x g))
    (cases_lt r (length s.replicas))

-- what is known of a sound replica
pub record IsSound (S : Service) (q : List Request) (x : Replica) : Type 0 where
  pub live : Running
  pub is_live : x.condition ≡ Live live
  pub unharmed : live.harmed ≡ false
  pub right : IsRightLive S q live x.words x.roots

sound_in : (S : Service) (q : List Request) (c : Condition) (x : Replica) → x.condition ≡ c →
    IsRightIn S q x.words x.roots c → is_harmed c ≡ false → IsSound S q x
sound_in S q (Live l) x e h u = record { live = l; is_live = e; unharmed = u; right = h u }
sound_in S q Down x e h u = absurd (cc)
sound_in S q (Rebuilding b) x e h u = absurd (cc)

pub sound_right : (S : Service) (q : List Request) (x : Replica) → IsRightReplica S q x → is_unsound x ≡ false →
    IsSound S q x
sound_right S q x h u = sound_in S q x.condition x refl h u

pub put_same : (s : State) (r : ℕ) (x : Replica) → r < length s.replicas → replica (put r x s) r ≡ x
put_same s r x l = get_or-set_same s.replicas r x gone l

-- a Live replica is one of the bench
pub live_within : (s : State) (r : ℕ) (l : Running) → (replica s r).condition ≡ Live l → r < length s.replicas
live_within s r l e = ⊎_elim (λ h. h)
    (λ g. let d : replica s r ≡ gone = get_or_past s.replicas r gone g in
    let k : Down ≡ Live l = ap (λ (x : Replica). x.condition) (sym d) ∙ e in absurd (cc))
    (cases_lt r (length s.replicas))
