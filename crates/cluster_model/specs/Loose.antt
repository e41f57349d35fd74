-- The loose run: Step, but for which items a Fetch gets and how it ends.
use Rattle.std.specs.Prelude.{◌≡◌, ◌≢◌, ℕ, zero, suc, ◌<◌, ◌≤◌, false, cond, ◌==◌, List, [], ◌∷◌, ◌++◌, length, take, Option, Some, None, All}
use Rattle.abs_model.specs.declared.Entry.{Entry}
use Rattle.log_format.specs.declared.Event.{Event}
use Rattle.log_format.specs.declared.Event.TheVariants.{Fetch}
use Rattle.log_format.specs.declared.Line.TheVariants as lines
use Rattle.log_format.specs.declared.IdleCause.TheVariants.{NotRebuilding}
use Rattle.cluster_model.specs.Service.{Service}
use Rattle.cluster_model.specs.Tree.{Item, text_of, digests, root, node_text}
use Rattle.cluster_model.specs.State.{Checkpoint, Running, Fetching, Condition, Live, Down, Rebuilding, State, lookup_item, or_else, held_text}
use Rattle.cluster_model.specs.Moments.{Moment, Faults, replica, print}
use Rattle.cluster_model.specs.Step.{FetchEnd, Whole, step, fetches, aimed, aims, items_towards, end_towards}
use Rattle.cluster_model.specs.Fair.{IsApartNow, IsItem}

-- the digests that are held for a place
abbrev pub held_digests : ℕ → List Checkpoint → Option (List (List ℕ))
held_digests p [] = None
held_digests p (c ∷ cs) = cond (c.place == p) (Some c.digests) (held_digests p cs)

-- the text of a node of level l + 1 over these digests, where there are such
abbrev pub node_held : Service → ℕ → ℕ → Option (List (List ℕ)) → Option (List ℕ)
node_held S l k None = None
node_held S l k (Some ds) = Some (node_text S ds l k)

-- an entry text, where there are digests that it belongs to
abbrev pub text_held : Option (List (List ℕ)) → List ℕ → Option (List ℕ)
text_held None t = None
text_held (Some ds) t = Some t

-- what l gives for an item at place p, its lies aside
abbrev pub held_item : Service → ℕ → Running → ℕ → ℕ → Option (List ℕ)
held_item S p l zero k = text_held (held_digests p l.holds) (held_text S l p k)
held_item S p l (suc level) k = node_held S level k (held_digests p l.holds)

-- the lie, where there is one
abbrev pub lie_or : Option (List ℕ) → Option (List ℕ) → Option (List ℕ)
lie_or None held = held
lie_or (Some lie) held = Some lie

-- serve_item: the kept lie, else what is held
abbrev pub given : Service → ℕ → Running → Item → Option (List ℕ)
given S p l i = lie_or (lookup_item i l.lies.items) (held_item S p l i.level i.number)

-- a replica in this condition gives this text for this item
abbrev pub gives : Service → ℕ → Item × List ℕ → Condition → Type 0
gives S p x (Live l) = given S p l x.0 ≡ Some x.1
gives S p x Down = ⊥
gives S p x (Rebuilding b) = ⊥

-- a replica other than r, Live before the step, gives this text for this item
abbrev pub IsGiven : Service → State → ℕ → Item × List ℕ → Type 0
IsGiven S s r x = (j : ℕ) × (j < length s.replicas) × (j ≢ r) × gives S s.stable x (replica s j).condition

-- a is the array b with the entries got put in
pub record IsPut (S : Service) (b : List Entry) (got : List (Item × List ℕ)) (a : List Entry) : Type 0 where
  pub as_long : length a ≡ length b
  pub texts : (i : ℕ) → i < length b → text_of S a i ≡ or_else
      (lookup_item (record { level = 0; number = i }) got) (text_of S b i)

-- l serves place p with the array c, whose root is d
pub record Serves (S : Service) (p : ℕ) (d : List ℕ) (l : Running) (c : List Entry) : Type 0 where
  pub good : S.good c
  pub has_root : root S c ≡ d
  pub no_lie : l.lies.items ≡ []
  pub listed : held_digests p l.holds ≡ Some (digests S c)
  pub texts : (i : ℕ) → held_text S l p i ≡ text_of S c i

-- a replica in this condition serves place p with the array c, whose root is d
abbrev pub ServesIn : Service → ℕ → List ℕ → List Entry → Condition → Type 0
ServesIn S p d c (Live l) = Serves S p d l c
ServesIn S p d c Down = ⊥
ServesIn S p d c (Rebuilding b) = ⊥

-- what holds of a Fetch of r of at most n items, at the moment m, where r has what b says
pub record IsLooseFetch (S : Service) (faults : Faults) (r n : ℕ) (m : Moment) (b : Fetching)
    (items : List (Item × List ℕ)) (end : FetchEnd) : Type 0 where
  pub few : length items ≤ n
  pub given : All (IsGiven S m.state r) items
  pub inside : All (λ (x : Item × List ℕ). IsItem S x.0) items
  pub whole : (a : List Entry) → end ≡ Whole a →
      S.good a × (root S a ≡ m.state.root) × IsPut S b.array ((aimed m.state.stable b).got ++ items) a
  pub nothing : root S b.array ≡ m.state.root → (items ≡ []) × (end ≡ Whole b.array)
  -- a true source, at each stage up to which it has not failed: what is got next is what Step gets, and the
  -- Fetch ends there where Step's does, as it does
  pub true_source : IsApartNow S m.state → (j : ℕ) (c : List Entry) → j < length m.state.replicas → j ≢ r →
      ServesIn S m.state.stable m.state.root c (replica m.state j).condition →
      (g : ℕ) → ((stage : ℕ) → stage ≤ g → faults stage j ≡ false) →
      (take (suc g) items ≡ take (suc g) (items_towards S c n (aimed m.state.stable b)))
      × (length items ≤ g → end ≡ end_towards S c n (aimed m.state.stable b))

-- what a Fetch may do, by the condition of its replica
abbrev pub LooseFetch : Service → Faults → ℕ → ℕ → Moment → Condition → List Moment → Type 0
LooseFetch S faults r n m (Live l) ms = ms ≡ print (lines.Idle r NotRebuilding) m ∷ []
LooseFetch S faults r n m Down ms = ms ≡ print (lines.Idle r NotRebuilding) m ∷ []
LooseFetch S faults r n m (Rebuilding b) ms =
    (items : List (Item × List ℕ)) × (end : FetchEnd)
    × IsLooseFetch S faults r n m b items end
    × (ms ≡ fetches S faults r end 0 items (aims r m b))

-- what a record may do: a Fetch as above, each other record exactly the step
abbrev pub LooseStep : Service → Faults → Event → Moment → List Moment → Type 0
LooseStep S faults (Fetch r n) m ms = LooseFetch S faults r n m (replica m.state r).condition ms
LooseStep S faults e m ms = ms ≡ step S faults e m
