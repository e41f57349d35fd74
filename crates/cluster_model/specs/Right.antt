-- What earlier fair moments leave: the invariant of the headline.
use Rattle.std.specs.Prelude.{◌≡◌, ℕ, ◌+◌, ◌*◌, ◌^◌, ◌<◌, ◌≤◌, Bool, true, false, ◌||◌, ◌==◌, List, [], ◌∷◌, length, slice_get, slice_index_or, Some, count_by, All}
use Rattle.std.specs.List.{list_any}
use Rattle.abs_model.specs.declared.Entry.{Entry}
use Rattle.cluster_model.specs.declared.request.Request.{Request}
use Rattle.nfs2_types.specs.declared.Word.{Word}
use Rattle.cluster_model.specs.Service.{Service, array_at, said_at}
use Rattle.cluster_model.specs.Tree.{text_of, digests, root}
use Rattle.cluster_model.specs.State.{Checkpoint, Running, Condition, Live, Down, Rebuilding, Replica, State, is_unsound, holds_in, holds_at, held_text}
use Rattle.cluster_model.specs.Turns.{honest}

-- an index is among those told
abbrev pub is_told : ℕ → List ℕ → Bool
is_told i told = list_any (λ j. j == i) told

-- the places of checkpoints that are held fall
abbrev pub IsNewestFirst : List Checkpoint → Type 0
IsNewestFirst [] = Unit {0}
IsNewestFirst (c ∷ cs) = All (λ (d : Checkpoint). d.place < c.place) cs × IsNewestFirst cs

-- What the crates below promise. Of requests alone: an array keeps its length, what is not told stays, and
-- what is told is saved.
pub record IsOrderly (S : Service) : Type 0 where
  pub as_long : (a : List Entry) (q : Request) → length (S.next a q) ≡ length a
  pub untold : (a : List Entry) (q : Request) (i : ℕ) → is_told i (S.told a q) ≡ false →
      text_of S (S.next a q) i ≡ text_of S a i
  pub saves_told : (a : List Entry) (told : List ℕ) (i : ℕ) → is_told i (S.saving a told) ≡ false →
      is_told i told ≡ false

-- Of texts and digests: good arrays stay good, the entries of two good arrays are spelled apart, and a node
-- gives back its sixteen digests.
pub record IsSpelled (S : Service) : Type 0 where
  pub good_empty : S.good S.empty
  pub good_next : (a : List Entry) (q : Request) → S.fits q → S.good a → S.good (S.next a q)
  pub good_scratched : (a b : List Entry) (i offset : ℕ) (bytes : List ℕ) → All (λ c. c < 256) bytes →
      S.good a → S.scratched a i offset bytes ≡ Some b → S.good b
  pub good_size : (a : List Entry) → S.good a → length a ≡ 16 ^ S.levels
  pub saving_within : (a : List Entry) (q : Request) → S.good a →
      All (λ i. i < length a) (S.saving a (S.told a q))
  pub text_is : (a b : List Entry) → S.good a → S.good b → (i : ℕ) (x y : Entry) → slice_get a i ≡ Some x →
      slice_get b i ≡ Some y → S.text i x ≡ S.text i y → x ≡ y
  pub digest_size : (t : List ℕ) → length (S.digest t) ≡ 32
  pub parts_node : (l k : ℕ) (ds : List (List ℕ)) → length ds ≡ 16 → All (λ d. length d ≡ 32) ds →
      S.parts (S.node l k ds) ≡ ds

-- both
pub record IsLawful (S : Service) : Type 0 where
  pub orderly : IsOrderly S
  pub spelled : IsSpelled S

-- a checkpoint held by l is that of its place
pub record IsRightCheckpoint (S : Service) (q : List Request) (l : Running) (c : Checkpoint) : Type 0 where
  pub passed : c.place ≤ l.place
  pub listed : c.digests ≡ digests S (array_at S q c.place)
  pub texts : (i : ℕ) → held_text S l c.place i ≡ text_of S (array_at S q c.place) i

-- a word for a place from 1 to this one is that of its place
abbrev pub IsRightWord : Service → List Request → ℕ → ℕ × Word → Type 0
IsRightWord S q place w = (1 ≤ w.0) × (w.0 ≤ place) × (w.1 ≡ said_at S q w.0)

-- a root word for a place that the replica has passed is that of its place, whose checkpoint it still holds
abbrev pub IsRightRoot : Service → List Request → Running → ℕ × List ℕ → Type 0
IsRightRoot S q l d = (1 ≤ d.0) × (d.0 ≤ l.place) × (d.1 ≡ root S (array_at S q d.0))
    × (holds_in d.0 l.holds ≡ true)

-- what is known of a sound replica and its standing words
pub record IsRightLive (S : Service) (q : List Request) (l : Running) (ws : List (ℕ × Word))
    (ds : List (ℕ × List ℕ)) : Type 0 where
  pub array : l.array ≡ array_at S q l.place
  pub place : l.place ≤ length q
  pub lies : l.lies ≡ honest
  pub believes : length l.believed ≡ length l.array
  pub untold : (i : ℕ) → i < length l.array → is_told i l.told ≡ false →
      slice_index_or l.believed i [] ≡ S.digest (text_of S l.array i)
  pub ordered : IsNewestFirst l.holds
  pub holds : All (IsRightCheckpoint S q l) l.holds
  pub said : All (IsRightWord S q l.place) ws
  pub rooted : All (IsRightRoot S q l) ds

-- what is known of a replica in this condition, where it is not harmed, and of its standing words
abbrev pub IsRightIn : Service → List Request → List (ℕ × Word) → List (ℕ × List ℕ) → Condition → Type 0
IsRightIn S q words roots (Live l) = l.harmed ≡ false → IsRightLive S q l words roots
IsRightIn S q words roots Down = Unit {0}
IsRightIn S q words roots (Rebuilding b) = (words ≡ []) × (roots ≡ [])

-- the same of a replica
abbrev pub IsRightReplica : Service → List Request → Replica → Type 0
IsRightReplica S q x = IsRightIn S q x.words x.roots x.condition

-- unsound, or a holder of the checkpoint of place p
abbrev pub is_source : ℕ → Replica → Bool
is_source p x = is_unsound x || holds_at p x.condition

-- what is known of a state: its decisions are right, its unharmed replicas are, and 2f + 1 replicas are
-- unsound or hold the stable checkpoint
pub record IsRight (S : Service) (s : State) : Type 0 where
  pub size : length s.replicas ≡ 3 * S.f + 1
  pub fit : All S.fits s.requests
  pub stable : s.stable ≤ length s.requests
  pub stable_root : s.root ≡ root S (array_at S s.requests s.stable)
  pub decided : All (IsRightWord S s.requests (length s.requests)) s.decisions
  pub replicas : All (IsRightReplica S s.requests) s.replicas
  pub sources : 2 * S.f + 1 ≤ count_by (is_source s.stable) s.replicas
