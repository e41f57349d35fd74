-- Whole runs, and the headline over them.
use Rattle.std.specs.Prelude.{count_by, true, not, nat_lt, nat_le, if◌then◌else◌, map, slice_index, drop, false, None, ◌≡◌, ℕ, suc, ◌+◌, ◌*◌, ◌≤◌, ◌⊎◌, Bool, cond, ◌&&◌, ◌==◌, List, [], ◌∷◌, ◌++◌, length, replicate, All}
use Rattle.std.specs.List.{list_any, flat_map}
use Rattle.nfs2_types.specs.declared.Word.{Word}
use Rattle.nfs2_types.specs.declared.Word.TheVariants as words
use Rattle.server_trait.specs.declared.FaultPoint.{FaultPoint}
use Rattle.log_format.specs.declared.Event.{Event}
use Rattle.log_format.specs.declared.Line.{Line}
use Rattle.log_format.specs.declared.Line.TheVariants as lines
use Rattle.cluster_model.specs.Service.{Service, array_at, said_at}
use Rattle.cluster_model.specs.Tree.{root, below}
use Rattle.cluster_model.specs.State.{Condition, Live, Down, Rebuilding, is_unsound, lookup}
use Rattle.cluster_model.specs.Moments.{is_decided, Moment, Faults, decision_line, replica, fails}
use Rattle.cluster_model.specs.Turns.{moments, last, begins, is_checkpoint}
use Rattle.cluster_model.specs.Step.{step}
use Rattle.cluster_model.specs.Fair.{IsFair, IsText}
use Rattle.cluster_model.specs.Right.{IsRight}
use Rattle.cluster_model.specs.Loose.{LooseStep}

-- which servers fail in the event with this number, by stage and replica
abbrev pub faults_in : List FaultPoint → ℕ → Faults
faults_in downs e stage r = list_any
    (λ (d : FaultPoint). (d.event == e) && (d.stage == stage) && (d.replica == r)) downs

-- all replicas are Live at place 0, in a bench of this many servers
abbrev pub fresh : Service → ℕ → Moment
fresh S servers = record {
  state = record {
    requests = [];
    bench = below servers;
    replicas = replicate (3 * S.f + 1)
        (record { condition = Live (begins S 0 S.empty); words = []; roots = [] });
    decisions = [];
    stable = 0;
    root = root S S.empty;
  };
  lines = [];
}

-- the start of replica r: it is down where its server fails in stage 0
abbrev pub start_fault : Faults → Moment → ℕ → Moment
start_fault faults m r = cond (faults 0 r) (fails r m) m

-- the moments of the start, the last of them its end
abbrev pub start : Service → ℕ → List FaultPoint → List Moment
start S servers downs = fresh S servers ∷ moments (start_fault (faults_in downs 0)) (fresh S servers)
    (below (3 * S.f + 1))

-- the moments of these events, the first of them having the number e
abbrev pub run_from : Service → List FaultPoint → ℕ → List Event → Moment → List Moment
run_from S downs e [] m = []
run_from S downs e (event ∷ events) m =
    let ms = step S (faults_in downs e) event m in
    ms ++ run_from S downs (suc e) events (last m ms)

-- the moments of a run
abbrev pub run : Service → ℕ → List FaultPoint → List Event → List Moment
run S servers downs events =
    let ms = start S servers downs in
    ms ++ run_from S downs 1 events (last (fresh S servers) ms)

-- the last moment of a run
abbrev pub end_of : Service → ℕ → List FaultPoint → List Event → Moment
end_of S servers downs events = last (fresh S servers) (run S servers downs events)

-- these moments follow m in a run of these events, in which a Fetch may stop early; the first event has the
-- number e
abbrev pub LooseFrom : Service → List FaultPoint → ℕ → List Event → Moment → List Moment → Type 0
LooseFrom S downs e [] m ms = ms ≡ []
LooseFrom S downs e (event ∷ events) m ms =
    (now later : List Moment) × (ms ≡ now ++ later)
    × LooseStep S (faults_in downs e) event m now
    × LooseFrom S downs (suc e) events (last m now) later

-- these are the moments of a whole run in which a Fetch may stop early
abbrev pub LooseRun : Service → ℕ → List FaultPoint → List Event → List Moment → Type 0
LooseRun S servers downs events ms =
    (later : List Moment) × (ms ≡ start S servers downs ++ later)
    × LooseFrom S downs 1 events (last (fresh S servers) (start S servers downs)) later

-- Q of each of these moments
abbrev pub Always : (Moment → Type 0) → List Moment → Type 0
Always Q [] = Unit {0}
Always Q (m ∷ ms) = Q m × Always Q ms

-- Q of each moment up to which P held of it and of all earlier ones
abbrev pub Upto : (Moment → Type 0) → (Moment → Type 0) → List Moment → Type 0
Upto P Q [] = Unit {0}
Upto P Q (m ∷ ms) = P m → Q m × Upto P Q ms

-- the texts known after a moment, and after these moments, where those of T were known
abbrev pub and_texts : Service → (List ℕ → Type 0) → Moment → List ℕ → Type 0
and_texts S T m t = T t ⊎ IsText S m.state t

-- the texts known after these moments
abbrev pub known_after : Service → (List ℕ → Type 0) → List Moment → List ℕ → Type 0
known_after S T [] = T
known_after S T (m ∷ ms) = known_after S (and_texts S T m) ms

-- at first no text is known
abbrev pub nothing : List ℕ → Type 0
nothing t = ⊥

-- no two different texts of T share a digest
abbrev pub IsApartIn : Service → (List ℕ → Type 0) → Type 0
IsApartIn S T = (a b : List ℕ) → T a → T b → S.digest a ≡ S.digest b → a ≡ b

-- Q of each moment up to which Fair held of it and of all earlier ones, and Apart of all texts up to it
abbrev pub UptoApart : Service → (List ℕ → Type 0) → (Moment → Type 0) → List Moment → Type 0
UptoApart S T Q [] = Unit {0}
UptoApart S T Q (m ∷ ms) = IsFair S m → IsApartIn S (and_texts S T m) →
    Q m × UptoApart S (and_texts S T m) Q ms

-- these moments are those of another list likewise
abbrev pub SameUptoApart : Service → (List ℕ → Type 0) → List Moment → List Moment → Type 0
SameUptoApart S T [] [] = Unit {0}
SameUptoApart S T [] (n ∷ ns) = ⊥
SameUptoApart S T (m ∷ ms) [] = IsFair S m → IsApartIn S (and_texts S T m) → ⊥
SameUptoApart S T (m ∷ ms) (n ∷ ns) = IsFair S m → IsApartIn S (and_texts S T m) →
    (m ≡ n) × SameUptoApart S (and_texts S T m) ms ns

-- these moments are those of another list, up to the last at which P held of it and of all earlier ones
abbrev pub SameUpto : (Moment → Type 0) → List Moment → List Moment → Type 0
SameUpto P [] [] = Unit {0}
SameUpto P [] (n ∷ ns) = ⊥
SameUpto P (m ∷ ms) [] = P m → ⊥
SameUpto P (m ∷ ms) (n ∷ ns) = P m → (m ≡ n) × SameUpto P ms ns

-- the decision that a line tells of, if it is one, and the stable place likewise
abbrev pub told_by : Line → List (ℕ × Word)
told_by (lines.Reply p bytes) = (p, words.Reply bytes) ∷ []
told_by (lines.Silent p) = (p, words.Silent) ∷ []
told_by _ = []

-- the stable place that a line tells of, if it is one: a place and its root
abbrev pub stable_of : Line → List (ℕ × List ℕ)
stable_of (lines.Stable p d) = (p, d) ∷ []
stable_of _ = []

-- the decisions that all these lines tell of, in order
abbrev pub replies : List Line → List (ℕ × Word)
replies ls = flat_map told_by ls

-- the stable places that all these lines tell of, in order
abbrev pub stables : List Line → List (ℕ × List ℕ)
stables ls = flat_map stable_of ls

-- what the lines so far tell is right
pub record IsToldRight (S : Service) (m : Moment) : Type 0 where
  -- each reply line is a decision, and each decision has its line
  pub each_decision : replies m.lines ≡ m.state.decisions
  pub each_reply : All (λ (w : ℕ × Word). (1 ≤ w.0) × (w.0 ≤ length m.state.requests)
      × (w.1 ≡ said_at S m.state.requests w.0)) (replies m.lines)
  pub each_stable : All
      (λ (d : ℕ × List ℕ). (d.0 ≤ length m.state.requests)
      × (d.1 ≡ root S (array_at S m.state.requests d.0))) (stables m.lines)

-- the replicas whose servers failed, in order
abbrev pub failed_of : Line → List ℕ
failed_of (lines.Down r) = r ∷ []
failed_of _ = []

-- each fault point has its line, in order
abbrev pub AreMet : List FaultPoint → List Line → Type 0
AreMet downs ls = map (λ (d : FaultPoint). d.replica) downs ≡ flat_map failed_of ls

-- their event numbers never fall
abbrev pub IsRising : List FaultPoint → Type 0
IsRising [] = Unit {0}
IsRising (d ∷ ds) = All (λ (e : FaultPoint). d.event ≤ e.event) ds × IsRising ds

-- how often the server with number s, among those given at the start, failed in these moments, which follow
-- m:
-- a fault strikes the server that stands at its replica at that moment
abbrev pub strikes_in : ℕ → List ℕ → List ℕ → ℕ
strikes_in s bench [] = 0
strikes_in s bench (r ∷ rs) = (if slice_index bench r == s then 1 else 0) + strikes_in s bench rs

-- the same over all these moments
abbrev pub strikes : ℕ → Moment → List Moment → ℕ
strikes s m [] = 0
strikes s m (n ∷ ms) = strikes_in s n.state.bench
    (flat_map failed_of (drop (length m.lines) n.lines)) + strikes s n ms

-- the place that r had after its last rebuild or the start
abbrev pub since_step : ℕ → ℕ → Line → ℕ
since_step r p (lines.Rebuilt k at nodes objects) = cond (k == r) at p
since_step r p _ = p

-- the same after these lines
abbrev pub since_from : ℕ → ℕ → List Line → ℕ
since_from r p [] = p
since_from r p (x ∷ ls) = since_from r (since_step r p x) ls

-- the same at the end of these lines, from the start
abbrev pub since : ℕ → List Line → ℕ
since r ls = since_from r 0 ls

-- the place of a live replica
abbrev pub place_in : Condition → ℕ
place_in (Live l) = l.place
place_in Down = 0
place_in (Rebuilding b) = 0

-- replica r is sound, and has run place p since its last rebuild
abbrev pub has_run : ℕ → Moment → ℕ → Bool
has_run p m r = not (is_unsound (replica m.state r)) &&
    (nat_lt (since r m.lines) p && nat_le p (place_in (replica m.state r).condition))

-- each place that f + 1 sound replicas have run since their last rebuild is decided
abbrev pub HasEnough : Service → Moment → Type 0
HasEnough S m = (p : ℕ) → S.f + 1 ≤ count_by (has_run p m) (below (length m.state.replicas)) →
    is_decided p m.state ≡ true

-- each place of a checkpoint that 2f + 1 sound replicas have run since their last rebuild is stable, or lies below
-- the stable one
abbrev pub HasEnoughRoots : Service → Moment → Type 0
HasEnoughRoots S m = (p : ℕ) → is_checkpoint S p ≡ true →
    2 * S.f + 1 ≤ count_by (has_run p m) (below (length m.state.replicas)) → p ≤ m.state.stable

-- each place that 2f + 1 replicas have run since their last rebuild is decided, where at most f replicas
-- are unsound: these may have run it and failed, or be harmed, whatever stands of them
abbrev pub HasEnoughOf : Service → Moment → Type 0
HasEnoughOf S m = (p : ℕ) (ran : ℕ → Bool) →
    ((r : ℕ) → ran r ≡ true → is_unsound (replica m.state r) ≡ false → has_run p m r ≡ true) →
    2 * S.f + 1 ≤ count_by ran (below (length m.state.replicas)) → is_decided p m.state ≡ true

-- no place stands twice in the list
abbrev pub IsOnce : List (ℕ × Word) → Type 0
IsOnce [] = Unit {0}
IsOnce (w ∷ ws) = (lookup w.0 ws ≡ None) × IsOnce ws

-- what a moment up to which Fair and Apart held is promised to be: its state, its lines, each place with at
-- most one of them, and with one where enough replicas have run it
pub record IsAsPromised (S : Service) (m : Moment) : Type 0 where
  pub right : IsRight S m.state
  pub told : IsToldRight S m
  pub once : IsOnce (replies m.lines)
  pub enough : HasEnough S m
  pub enough_of : HasEnoughOf S m
