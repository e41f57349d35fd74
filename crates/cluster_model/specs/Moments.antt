-- Moments of a cluster, the small changes of them, and how words are cast and counted.
use Rattle.std.specs.Prelude.{ℕ, ◌+◌, ◌*◌, Bool, cond, not, List, [], ◌∷◌, ◌++◌, map, slice_index_or, slice_set, ◌==◌, nat_le, nat_lt, filter, count_by}
use Rattle.nfs2_types.specs.declared.Word.{Word}
use Rattle.nfs2_types.specs.declared.Word.TheVariants as words
use Rattle.log_format.specs.declared.Line.{Line}
use Rattle.log_format.specs.declared.Line.TheVariants as lines
use Rattle.cluster_model.specs.Service.{Service}
use Rattle.cluster_model.specs.State.{lookup, has, Checkpoint, Condition, Live, Down, Rebuilding, Replica, State, says, says_root}

-- a moment: the state, and the lines so far
pub record Moment : Type 0 where
  pub state : State
  pub lines : List Line

-- which replica fails at which stage of the step
abbrev pub Faults : Type 0
Faults = ℕ → ℕ → Bool

-- Small changes of a moment

-- what stands for a replica that there is none of
abbrev pub gone : Replica
gone = record { condition = Down; words = []; roots = [] }

-- the replica with this number
abbrev pub replica : State → ℕ → Replica
replica s r = slice_index_or s.replicas r gone

-- replica r is now x
abbrev pub put : ℕ → Replica → State → State
put r x s = record s { replicas = slice_set s.replicas r x }

-- one line more
abbrev pub print : Line → Moment → Moment
print line m = record m { lines = m.lines ++ line ∷ [] }

-- replica r comes into this condition; its words stay
abbrev pub becomes : ℕ → Condition → Moment → Moment
becomes r c m = record m { state = put r (record (replica m.state r) { condition = c }) m.state }

-- the server of replica r fails: `down` is printed, and its words stand
abbrev pub fails : ℕ → Moment → Moment
fails r m = print (lines.Down r) (becomes r Down m)

-- Words

-- place p has a decision
abbrev pub is_decided : ℕ → State → Bool
is_decided p s = has (lookup p s.decisions)

-- how many standing words for place p are w
abbrev pub votes : ℕ → Word → State → ℕ
votes p w s = count_by (says p w) s.replicas

-- how many standing root words for place p are d
abbrev pub root_votes : ℕ → List ℕ → State → ℕ
root_votes p d s = count_by (says_root p d) s.replicas

-- the pairs but those with the key p
abbrev pub without : {X : Type 0} → ℕ → List (ℕ × X) → List (ℕ × X)
without p ws = filter (λ w. not (w.0 == p)) ws

-- the pairs with keys above p
abbrev pub above : {X : Type 0} → ℕ → List (ℕ × X) → List (ℕ × X)
above p ws = filter (λ w. nat_lt p w.0) ws

-- place p is decided: its words are no longer kept
abbrev pub forgets_words : ℕ → Replica → Replica
forgets_words p x = record x { words = without p x.words }

-- the line of a decision
abbrev pub decision_line : ℕ → Word → Line
decision_line p words.Silent = lines.Silent p
decision_line p (words.Reply bytes) = lines.Reply p bytes

-- place p is decided with w, and the line of the decision is printed
abbrev pub decides : ℕ → Word → Moment → Moment
decides p w m =
    print (decision_line p w) (record m {
      state = record m.state {
        decisions = m.state.decisions ++ (p, w) ∷ [];
        replicas = map (forgets_words p) m.state.replicas;
      };
    })

-- the word w of replica r for place p stands
abbrev pub adds_word : ℕ → ℕ → Word → State → State
adds_word r p w s = put r (record (replica s r) { words = (p, w) ∷ (replica s r).words }) s

-- a reply word of r for place p
abbrev pub counts_word : Service → ℕ → Word → Moment → Moment
counts_word S p w m = cond (nat_le (S.f + 1) (votes p w m.state)) (decides p w m) m

-- replica r casts this word for place p; the first decision of a place is kept
abbrev pub casts_word : Service → ℕ → ℕ → Word → Moment → Moment
casts_word S r p w m = cond (is_decided p m.state) m
    (counts_word S p w (record m { state = adds_word r p w m.state }))

-- what a replica keeps once place p is stable: no checkpoint of a lower place, no root word up to p
abbrev pub from_place : ℕ → List Checkpoint → List Checkpoint
from_place p cs = filter (λ c. nat_le p c.place) cs

-- the checkpoints of lower places are forgotten
abbrev pub drops_before : ℕ → Condition → Condition
drops_before p (Live l) = Live (record l { holds = from_place p l.holds })
drops_before p Down = Down
drops_before p (Rebuilding b) = Rebuilding b

-- the same of a replica, whose root words up to p are dropped
abbrev pub sees_stable : ℕ → Replica → Replica
sees_stable p x = record x { condition = drops_before p x.condition; roots = above p x.roots }

-- place p is stable with the root d, and the line of it is printed
abbrev pub becomes_stable : ℕ → List ℕ → Moment → Moment
becomes_stable p d m =
    print (lines.Stable p d) (record m {
      state = record m.state {
        stable = p;
        root = d;
        replicas = map (sees_stable p) m.state.replicas;
      };
    })

-- the root word d of replica r for place p stands
abbrev pub adds_root : ℕ → ℕ → List ℕ → State → State
adds_root r p d s = put r (record (replica s r) { roots = (p, d) ∷ (replica s r).roots }) s

-- 2f + 1 equal standing root words make a place stable
abbrev pub counts_root : Service → ℕ → List ℕ → Moment → Moment
counts_root S p d m = cond (nat_le (2 * S.f + 1) (root_votes p d m.state)) (becomes_stable p d m) m

-- a root word of r for place p
abbrev pub casts_root : Service → ℕ → ℕ → List ℕ → Moment → Moment
casts_root S r p d m = cond (nat_lt m.state.stable p)
    (counts_root S p d (record m { state = adds_root r p d m.state })) m
