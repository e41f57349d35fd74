-- The state of a cluster.
use Rattle.std.specs.Prelude.{ℕ, Bool, true, false, cond, List, [], ◌∷◌, Option, Some, None, bytes_eq, ◌==◌, nat_le}
use Rattle.std.specs.List.{list_any}
use Rattle.abs_model.specs.declared.Entry.{Entry}
use Rattle.cluster_model.specs.declared.request.Request.{Request}
use Rattle.nfs2_types.specs.declared.Word.{Word}
use Rattle.cluster_model.specs.Service.{Service, same_word}
use Rattle.cluster_model.specs.Tree.{Item, same_item, text_of}

-- A short list of pairs is a map: the first pair with a key counts.
abbrev pub lookup : {X : Type 0} → ℕ → List (ℕ × X) → Option X
lookup k [] = None
lookup k (p ∷ ps) = cond (p.0 == k) (Some p.1) (lookup k ps)

-- the same where the keys are items
abbrev pub lookup_item : Item → List (Item × List ℕ) → Option (List ℕ)
lookup_item i [] = None
lookup_item i (p ∷ ps) = cond (same_item p.0 i) (Some p.1) (lookup_item i ps)

-- the value, or x where there is none
abbrev pub or_else : {X : Type 0} → Option X → X → X
or_else None x = x
or_else (Some y) x = y

-- there is a value
abbrev pub has : {X : Type 0} → Option X → Bool
has None = false
has (Some y) = true

-- a checkpoint that is held: its place, the digests of the entry texts there, and the texts saved since
pub record Checkpoint : Type 0 where
  pub place : ℕ
  pub digests : List (List ℕ)
  pub saved : List (ℕ × List ℕ)

-- what a replica was told to lie about: words and roots by place, texts by item
pub record Lies : Type 0 where
  pub words : List (ℕ × Word)
  pub roots : List (ℕ × List ℕ)
  pub items : List (Item × List ℕ)

-- a live replica: its array, what it believes of its digests, how many requests it has passed, the objects
-- told since its newest checkpoint, the checkpoints that it holds, its lies, and whether it was harmed
pub record Running : Type 0 where
  pub array : List Entry
  -- the digests of the entry texts, but for the objects told since the newest checkpoint taken
  pub believed : List (List ℕ)
  pub place : ℕ
  pub told : List ℕ
  -- the newest first
  pub holds : List Checkpoint
  pub lies : Lies
  pub harmed : Bool

-- a replica that is being rebuilt: its array, the place that it is fetched towards, and the items got so
-- far
pub record Fetching : Type 0 where
  pub array : List Entry
  pub target : Option ℕ
  pub got : List (Item × List ℕ)

-- a replica is live, down since its server failed, or being rebuilt
pub data Condition : Type 0 where
  Live : Running → Condition
  Down : Condition
  Rebuilding : Fetching → Condition

-- a replica with its standing words: reply words by place, and root words by place
pub record Replica : Type 0 where
  pub condition : Condition
  pub words : List (ℕ × Word)
  pub roots : List (ℕ × List ℕ)

-- the requests in their order, the order of servers, the replicas by number, each decided place with its
-- first decision, and the stable place with its root
pub record State : Type 0 where
  pub requests : List Request
  -- which of the servers given at the start stands at each position of the bench
  pub bench : List ℕ
  pub replicas : List Replica
  pub decisions : List (ℕ × Word)
  pub stable : ℕ
  pub root : List ℕ

-- Unsound

-- a replica in this condition may be wrong
abbrev pub is_harmed : Condition → Bool
is_harmed (Live l) = l.harmed
is_harmed Down = true
is_harmed (Rebuilding b) = true

-- the same of a replica
abbrev pub is_unsound : Replica → Bool
is_unsound x = is_harmed x.condition

-- Votes

-- there is a word, and it is w
abbrev pub is_word : Word → Option Word → Bool
is_word w None = false
is_word w (Some v) = same_word w v

-- there is a digest, and it is d
abbrev pub is_digest : List ℕ → Option (List ℕ) → Bool
is_digest d None = false
is_digest d (Some e) = bytes_eq d e

-- whether this replica's word for place p stands, and is w
abbrev pub says : ℕ → Word → Replica → Bool
says p w x = is_word w (lookup p x.words)

-- the replica's root word for place p stands, and is d
abbrev pub says_root : ℕ → List ℕ → Replica → Bool
says_root p d x = is_digest d (lookup p x.roots)

-- what a replica holds

-- a checkpoint of place p is among these
abbrev pub holds_in : ℕ → List Checkpoint → Bool
holds_in p cs = list_any (λ (c : Checkpoint). c.place == p) cs

-- a replica in this condition holds the checkpoint of place p
abbrev pub holds_at : ℕ → Condition → Bool
holds_at p (Live l) = holds_in p l.holds
holds_at p Down = false
holds_at p (Rebuilding b) = false

-- the text of index i at place p: going back from the present text, what each checkpoint at or after p
-- saved
abbrev pub held_from : ℕ → ℕ → List Checkpoint → List ℕ → List ℕ
held_from p i [] now = now
held_from p i (c ∷ cs) now = held_from p i cs (cond (nat_le p c.place) (or_else (lookup i c.saved) now) now)

-- the text of index i at place p, as a live replica holds it
abbrev pub held_text : Service → Running → ℕ → ℕ → List ℕ
held_text S l p i = held_from p i l.holds (text_of S l.array i)
