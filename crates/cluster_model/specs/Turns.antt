-- How a replica runs a request, takes a checkpoint and casts its words, and the turns of all replicas.
use Rattle.std.specs.Prelude.{ℕ, zero, suc, ◌+◌, ◌%◌, Bool, true, false, cond, List, [], ◌∷◌, ◌++◌, map, slice_get, slice_set, Option, Some, None, ◌==◌, nat_lt}
use Rattle.abs_model.specs.declared.Entry.{Entry}
use Rattle.cluster_model.specs.declared.request.Request.{Request}
use Rattle.nfs2_types.specs.declared.Word.{Word}
use Rattle.log_format.specs.declared.Event.TheVariants.{Run, RunAll, Rogue, Skip}
use Rattle.log_format.specs.declared.Line.TheVariants as lines
use Rattle.log_format.specs.declared.IdleCause.{IdleCause}
use Rattle.log_format.specs.declared.IdleCause.TheVariants.{NotLive, AtEnd, Behind}
use Rattle.cluster_model.specs.Service.{Service, request}
use Rattle.cluster_model.specs.Tree.{text_of, digests, root_of, below}
use Rattle.cluster_model.specs.State.{lookup, or_else, has, Checkpoint, Lies, Running, Condition, Live, Down, Rebuilding, State}
use Rattle.cluster_model.specs.Moments.{Moment, Faults, replica, print, becomes, fails, without, casts_word, casts_root}

-- One replica

-- under the newest checkpoint held, the present text of each index told that has no saved text there
abbrev pub saves : Service → List Entry → List ℕ → List (ℕ × List ℕ) → List (ℕ × List ℕ)
saves S a [] saved = saved
saves S a (i ∷ told) saved = saves S a told (cond (has (lookup i saved)) saved ((i, text_of S a i) ∷ saved))

-- the same under the newest of these checkpoints
abbrev pub saves_newest : Service → List Entry → List ℕ → List Checkpoint → List Checkpoint
saves_newest S a told [] = []
saves_newest S a told (c ∷ cs) = record c { saved = saves S a told c.saved } ∷ cs

-- a request is run
abbrev pub ran : Service → Request → Running → Running
ran S q l = record l {
  array = S.next l.array q;
  place = suc l.place;
  told = l.told ++ S.told l.array q;
  holds = saves_newest S l.array (S.saving l.array (S.told l.array q)) l.holds;
}

-- a place is passed with no request run
abbrev pub skipped : Running → Running
skipped l = record l { place = suc l.place; harmed = true }

-- the digests, those of the objects told read anew
abbrev pub refreshed : Service → List Entry → List ℕ → List (List ℕ) → List (List ℕ)
refreshed S a [] ds = ds
refreshed S a (i ∷ told) ds = refreshed S a told (slice_set ds i (S.digest (text_of S a i)))

-- a checkpoint of the place is taken: the digests, and no text saved yet
abbrev pub takes_checkpoint : Service → Running → Running
takes_checkpoint S l = record l {
  believed = refreshed S l.array l.told l.believed;
  told = [];
  holds = record { place = l.place; digests = refreshed S l.array l.told l.believed; saved = [] } ∷ l.holds;
}

-- a checkpoint is due at place p
abbrev pub is_checkpoint : Service → ℕ → Bool
is_checkpoint S p = p % S.k == 0

-- with its checkpoint, where one is due
abbrev pub checked : Service → Running → Running
checked S l = cond (is_checkpoint S l.place) (takes_checkpoint S l) l

-- no lies
abbrev pub honest : Lies
honest = record { words = []; roots = []; items = [] }

-- Live at place p with this array, and its checkpoint held
abbrev pub begins : Service → ℕ → List Entry → Running
begins S p a = record {
  array = a;
  believed = digests S a;
  place = p;
  told = [];
  holds = record { place = p; digests = digests S a; saved = [] } ∷ [];
  lies = honest;
  harmed = false;
}

-- it may be wrong from now on
abbrev pub harm : Running → Running
harm l = record l { harmed = true }

-- Run

-- the root word at a checkpoint
abbrev pub casts_root_of : Service → ℕ → Running → Moment → Moment
casts_root_of S r l m =
    cond (is_checkpoint S l.place)
    (casts_root S r l.place (or_else (lookup l.place l.lies.roots) (root_of S l.believed)) m)
    m

-- replica r, Live as l, passes its next place with this word
abbrev pub passes : Service → ℕ → Running → Word → Moment → Moment
passes S r l w m = casts_root_of S r l
    (casts_word S r l.place (or_else (lookup l.place l.lies.words) w) (becomes r (Live l) m))

-- replica r, live as l, runs a request, takes its checkpoint where one is due, and casts its words
abbrev pub runs : Service → ℕ → Running → Request → Moment → Moment
runs S r l q m = passes S r (checked S (ran S q l)) (S.word l.array q) m

-- replica r, live as l, passes a place without running its request: it casts no reply word
abbrev pub skips : Service → ℕ → Running → Moment → Moment
skips S r l m = casts_root_of S r (checked S (skipped l)) (becomes r (Live (checked S (skipped l))) m)

-- what a replica may run next, or why it is idle
pub data Turn : Type 0 where
  Next : Running → Request → Turn
  Not : IdleCause → Turn

-- by the request behind its place, if there is one
abbrev pub turn_at : Service → State → Running → Option Request → Turn
turn_at S s l None = Not AtEnd
turn_at S s l (Some q) = cond (nat_lt (l.place + S.k) s.stable) (Not Behind) (Next l q)

-- by its condition
abbrev pub turn_in : Service → State → Condition → Turn
turn_in S s (Live l) = turn_at S s l (slice_get s.requests l.place)
turn_in S s Down = Not NotLive
turn_in S s (Rebuilding b) = Not NotLive

-- what replica r may run next
abbrev pub turn : Service → State → ℕ → Turn
turn S s r = turn_in S s (replica s r).condition

-- the server of replica r fails before it does this, or it does it
abbrev pub fails_or : Bool → ℕ → (Moment → Moment) → Moment → Moment
fails_or true r does m = fails r m
fails_or false r does m = does m

-- Run, Rogue and Skip of r, by its turn
abbrev pub run_turn : Service → Bool → ℕ → Turn → Moment → Moment
run_turn S fault r (Next l q) m = fails_or fault r (runs S r l q) m
run_turn S fault r (Not c) m = print (lines.Idle r c) m

-- the same with another request in place of its own
abbrev pub rogue_turn : Service → Bool → ℕ → Request → Turn → Moment → Moment
rogue_turn S fault r q (Next l _) m = fails_or fault r (runs S r (harm l) q) m
rogue_turn S fault r q (Not c) m = print (lines.Idle r c) m

-- the same without the request
abbrev pub skip_turn : Service → Bool → ℕ → Turn → Moment → Moment
skip_turn S fault r (Next l _) m = fails_or fault r (skips S r l) m
skip_turn S fault r (Not c) m = print (lines.Idle r c) m

-- RunAll: as many rounds as there are requests, and in each round each replica in rising order

-- a turn in a round: where nothing may be run, nothing is printed
abbrev pub quiet_turn : Service → Bool → ℕ → Turn → Moment → Moment
quiet_turn S fault r (Next l q) m = fails_or fault r (runs S r l q) m
quiet_turn S fault r (Not c) m = m

-- a turn of a replica in a round
pub record Slot : Type 0 where
  pub round : ℕ
  pub replica : ℕ

-- the turns of so many rounds, of which the first is 1, for n replicas
abbrev pub slots : ℕ → ℕ → List Slot
slots zero n = []
slots (suc rounds) n = slots rounds n ++ map (λ r. record { round = suc rounds; replica = r }) (below n)

-- the moment after a turn; the round is the stage at which a server may fail
abbrev pub slot_turn : Service → Faults → Moment → Slot → Moment
slot_turn S faults m t = quiet_turn S (faults t.round t.replica) t.replica (turn S m.state t.replica) m

-- the moments of small steps, one after another
abbrev pub moments : {X : Type 0} → (Moment → X → Moment) → Moment → List X → List Moment
moments small m [] = []
moments small m (x ∷ xs) = small m x ∷ moments small (small m x) xs

-- the last of these moments, which follow m
abbrev pub last : Moment → List Moment → Moment
last m [] = m
last m (x ∷ xs) = last x xs
