-- A replica that is being rebuilt, as its callers see it. Its array is not among it: A is what its server and table
-- stand for.
use Rattle.std.specs.Prelude.{◌≡◌, ℕ, ◌^◌, List, [], ◌∷◌, ◌++◌, Option, None, Some, if◌then◌else◌, length}
use Rattle.abs_model.specs.declared.Entry.{Entry}
use Rattle.cluster_model.specs.Tree as tree
use Rattle.cluster_model.specs.Step.{is_target}
use Rattle.state_transfer.specs.declared.item.Item.{Item}
use Rattle.state_transfer.specs.Stand.{next_in}
use Rattle.state_transfer.specs.Fetch.{Fetch, begun}
use Rattle.state_transfer.specs.Got.{HasGot}
use Rattle.replica.specs.Replicas.{digests_of}

-- the place that it is fetched towards, if one is set; that place's root, and before one is set its own; and the fetch
pub record Rebuilt : Type 0 where
  pub target : Option ℕ
  pub root : List ℕ
  pub fetch : Fetch

-- the beginning of its fetch
abbrev pub from_start : Rebuilt → Fetch
from_start b = begun b.fetch.own b.fetch.place b.fetch.levels b.root

-- a place with its root is the target, and nothing is got
abbrev pub retargeted : ℕ → List ℕ → Rebuilt → Rebuilt
retargeted place root b =
    record { target = Some place; root = root; fetch = begun b.fetch.own place b.fetch.levels root }

-- the same, unless the place was the target before: then nothing changes
abbrev pub aimed : ℕ → List ℕ → Rebuilt → Rebuilt
aimed place root b = if is_target place b.target then b else retargeted place root b

-- its own digests are those of the array, and these are the items that it got since the beginning of its fetch
pub record HasFetched (A : List Entry) (got : List (tree.Item × List ℕ)) (b : Rebuilt) : Type 0 where
  pub own : b.fetch.own ≡ digests_of A
  pub size : length b.fetch.own ≡ 16 ^ b.fetch.levels
  pub leads : HasGot (from_start b) got b.fetch

-- no place is set, nothing is got, and nothing is missing
pub record Begins (A : List Entry) (b : Rebuilt) : Type 0 where
  pub target : b.target ≡ None
  pub fetched : HasFetched A [] b
  pub none : next_in b.fetch.stand ≡ None

-- the items got, with one more that has this text
abbrev pub with_item : List (tree.Item × List ℕ) → Option Item → List ℕ → List (tree.Item × List ℕ)
with_item got None text = got
with_item got (Some i) text = got ++ (tree.item i.level i.number, text) ∷ []
