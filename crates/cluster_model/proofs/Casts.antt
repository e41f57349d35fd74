-- A word cast, a decision, and a stable place keep a state right.
use Rattle.std.proofs.Common.{◌≡◌, ℕ, ◌+◌, ◌*◌, ◌≤◌, Bool, true, false, cond, List, ◌∷◌, map, length, refl, ◌∙◌, ap, arith}
use Rattle.std.specs.Prelude.{◌==◌, nat_le, not}
use Rattle.std.proofs.lemmas.Bool.{leb-true}
use Rattle.std.specs.List.{count_by}
use Rattle.std.proofs.lemmas.List.Elements.{All-cons, All-filter, All-map, All-weaker, All-push}
use Rattle.std.proofs.lemmas.List.{length-map}
use Rattle.cluster_model.specs.declared.request.Request.{Request}
use Rattle.nfs2_types.specs.declared.Word.{Word}
use Rattle.cluster_model.specs.Service.{Service}
use Rattle.cluster_model.specs.State.{Condition, Live, Down, Rebuilding, State, is_unsound}
use Rattle.cluster_model.specs.Moments.{Moment, replica, is_decided, votes, decides, forgets_words, adds_word, counts_word, casts_word, without}
use Rattle.cluster_model.specs.Fair.{IsFair}
use Rattle.cluster_model.specs.Right.{IsRightIn, IsRightReplica, IsRight, is_source, IsRightWord}
use Rattle.cluster_model.proofs.Counting.{count_by-map, count_by-map_same}
use Rattle.cluster_model.proofs.Seats.{put_right, put_unsound, replica_right}
use Rattle.cluster_model.proofs.Votes.{votes_right}

-- fewer words of a replica stand

pub fewer_in : (S : Service) (q : List Request) (p : ℕ) (ws : List (ℕ × Word)) (ds : List (ℕ × List ℕ))
    (c : Condition) →
    IsRightIn S q ws ds c → IsRightIn S q (without p ws) ds c
fewer_in S q p ws ds (Live l) h = λ u. record {
  array = (h u).array;
  place = (h u).place;
  lies = (h u).lies;
  believes = (h u).believes;
  untold = (h u).untold;
  ordered = (h u).ordered;
  holds = (h u).holds;
  said = All-filter (λ (w : ℕ × Word). not (w.0 == p)) (IsRightWord S q l.place) ws (h u).said;
  rooted = (h u).rooted;
}
fewer_in S q p ws ds Down h = tt
fewer_in S q p ws ds (Rebuilding b) h = (ap (without p) h.0, h.1)

-- a decision
pub decides_right : (S : Service) (p : ℕ) (w : Word) (m : Moment) → IsRight S m.state →
    IsRightWord S m.state.requests (length m.state.requests) (p, w) → IsRight S (decides p w m).state
decides_right S p w m h right =
    let s = m.state in
    record {
      size = length-map s.replicas (forgets_words p) ∙ h.size;
      fit = h.fit;
      stable = h.stable;
      stable_root = h.stable_root;
      decided = All-push (IsRightWord S s.requests (length s.requests)) s.decisions (p, w) h.decided right;
      replicas = All-map (IsRightReplica S s.requests) (forgets_words p) s.replicas
          (All-weaker (IsRightReplica S s.requests) (λ x. IsRightReplica S s.requests (forgets_words p x))
          (λ x g. fewer_in S s.requests p x.words x.roots x.condition g) s.replicas h.replicas);
      sources =
          let e : count_by (is_source s.stable) s.replicas ≤ count_by (is_source s.stable)
          (map (forgets_words p) s.replicas) =
          count_by-map (is_source s.stable) (is_source s.stable) (forgets_words p) s.replicas (λ x g. g) in
          let old : 2 * S.f + 1 ≤ count_by (is_source s.stable) s.replicas = h.sources in omega arith;
    }

pub decides_unsound : (p : ℕ) (w : Word) (m : Moment) →
    count_by is_unsound (decides p w m).state.replicas ≡ count_by is_unsound m.state.replicas
decides_unsound p w m = count_by-map_same is_unsound (forgets_words p) m.state.replicas (λ x. refl)

-- a word of a replica is added

-- what a word needs to stand beside what is known of its replica
abbrev pub MaySay : Service → List Request → ℕ × Word → Condition → Type 0
MaySay S q w (Live l) = l.harmed ≡ false → IsRightWord S q l.place w
MaySay S q w Down = Unit {0}
MaySay S q w (Rebuilding b) = ⊥

more_in : (S : Service) (q : List Request) (w : ℕ × Word) (ws : List (ℕ × Word)) (ds : List (ℕ × List ℕ))
    (c : Condition) →
    MaySay S q w c → IsRightIn S q ws ds c → IsRightIn S q (w ∷ ws) ds c
more_in S q w ws ds (Live l) may h = λ u. record {
  array = (h u).array;
  place = (h u).place;
  lies = (h u).lies;
  believes = (h u).believes;
  untold = (h u).untold;
  ordered = (h u).ordered;
  holds = (h u).holds;
  said = All-cons (IsRightWord S q l.place) w ws (may u) (h u).said;
  rooted = (h u).rooted;
}
more_in S q w ws ds Down may h = tt
more_in S q w ws ds (Rebuilding b) may h = absurd may

pub adds_word_right : (S : Service) (r p : ℕ) (w : Word) (s : State) → IsRight S s →
    MaySay S s.requests (p, w) (replica s r).condition → IsRight S (adds_word r p w s)
adds_word_right S r p w s h may =
    put_right S s r (record (replica s r) { words = (p, w) ∷ (replica s r).words }) h
    (more_in S s.requests (p, w) (replica s r).words (replica s r).roots (replica s r).condition may
    (replica_right S s r h))
    (λ g. g)

pub adds_word_unsound : (r p : ℕ) (w : Word) (s : State) →
    count_by is_unsound (adds_word r p w s).replicas ≡ count_by is_unsound s.replicas
adds_word_unsound r p w s = put_unsound s r (record (replica s r) { words = (p, w) ∷ (replica s r).words }) refl

-- a word is cast

counts_word_right : (S : Service) (p : ℕ) (w : Word) (m : Moment) → IsRight S m.state → IsFair S m →
    IsRight S (counts_word S p w m).state
counts_word_right S p w m h fair = counted (nat_le (S.f + 1) (votes p w m.state)) refl
  where
    counted : (b : Bool) → nat_le (S.f + 1) (votes p w m.state) ≡ b → IsRight S (cond b (decides p w m) m).state
    counted true e = decides_right S p w m h
        (votes_right S m.state p w h fair (leb-true (S.f + 1) (votes p w m.state) e))
    counted false e = h

counts_word_unsound : (S : Service) (p : ℕ) (w : Word) (m : Moment) →
    count_by is_unsound (counts_word S p w m).state.replicas ≡ count_by is_unsound m.state.replicas
counts_word_unsound S p w m = counted (nat_le (S.f + 1) (votes p w m.state))
  where
    counted : (b : Bool) → count_by is_unsound (cond b (decides p w m) m).state.replicas
        ≡ count_by is_unsound m.state.replicas
    counted true = decides_unsound p w m
    counted false = refl

abbrev pub with_word : ℕ → ℕ → Word → Moment → Moment
with_word r p w m = record m { state = adds_word r p w m.state }

pub casts_word_unsound : (S : Service) (r p : ℕ) (w : Word) (m : Moment) →
    count_by is_unsound (casts_word S r p w m).state.replicas ≡ count_by is_unsound m.state.replicas
casts_word_unsound S r p w m = decided (is_decided p m.state)
  where
    decided : (b : Bool) → count_by is_unsound (cond b m (counts_word S p w (with_word r p w m))).state.replicas
        ≡ count_by is_unsound m.state.replicas
    decided true = refl
    decided false = counts_word_unsound S p w (with_word r p w m) ∙ adds_word_unsound r p w m.state

pub casts_word_right : (S : Service) (r p : ℕ) (w : Word) (m : Moment) → IsRight S m.state → IsFair S m →
    MaySay S m.state.requests (p, w) (replica m.state r).condition → IsRight S (casts_word S r p w m).state
casts_word_right S r p w m h fair may = decided (is_decided p m.state)
  where
    still : IsFair S (with_word r p w m)
    still = let e = adds_word_unsound r p w m.state in rw e fair

    decided : (b : Bool) → IsRight S (cond b m (counts_word S p w (with_word r p w m))).state
    decided true = h
    decided false = counts_word_right S p w (with_word r p w m) (adds_word_right S r p w m.state h may) still
