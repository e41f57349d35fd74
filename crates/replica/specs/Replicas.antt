-- What a replica keeps: at its beginning, after a request, and after a checkpoint. Its array is not among it: A is what
-- its server and table stand for.
use Rattle.std.specs.Prelude.{◌≡◌, ℕ, suc, ◌%◌, ◌≤◌, ◌<◌, Bool, true, false, ◌==◌, if◌then◌else◌, List, [], ◌∷◌, set, length, Option, Some, None, All}
use Rattle.sha2.specs.Sha256.{sha256}
use Rattle.nfs2_types.specs.declared.Limits.{Limits}
use Rattle.abs_model.specs.declared.Entry.{Entry}
use Rattle.abs_model.specs.Array.{entry_at, empty_array}
use Rattle.abs_text.specs.Text.{entry_text}
use Rattle.partition_tree.specs.Digests.{IsRoot}
use Rattle.cow_checkpoint.specs.Store as stores
use Rattle.dispatch.specs.Answer.{Answer}
use Rattle.cluster_model.specs.State.{Checkpoint, lookup, or_else}
use Rattle.cluster_model.specs.Turns.{honest}
use Rattle.replica.specs.declared.running.Replica.{Replica}

-- the digests of the texts of these entries, the first of them at this index
abbrev pub digests_from : ℕ → List Entry → List (List ℕ)
digests_from i [] = []
digests_from i (e ∷ es) = sha256 (entry_text i e) ∷ digests_from (suc i) es

-- the digests of the entry texts of an array
abbrev pub digests_of : List Entry → List (List ℕ)
digests_of A = digests_from 0 A

-- at a place with these digests, whose checkpoint is held; honest, and not harmed
abbrev pub begun_at : ℕ → List (List ℕ) → Replica
begun_at place digests = record {
  place = place;
  tree = digests;
  store = stores.begun place digests;
  lies = honest;
  harmed = false;
}

-- at place 0 over the array of a beginning
abbrev pub begun : ℕ → Replica
begun n = begun_at 0 (digests_of (empty_array n))

-- it may be wrong from now on
abbrev pub harm : Replica → Replica
harm k = record k { harmed = true }

-- it passed a place and ran no request, so it may be wrong
abbrev pub skipped : Replica → Replica
skipped k = record k { place = suc k.place; harmed = true }

-- the digests, those of the objects told read anew
abbrev pub refreshed : List Entry → List ℕ → List (List ℕ) → List (List ℕ)
refreshed A [] ds = ds
refreshed A (i ∷ told) ds = refreshed A told (set ds i (sha256 (entry_text i (entry_at A i))))

-- it passed a place, and was told of these objects while the array was A
abbrev pub told_of : List Entry → List ℕ → Replica → Replica
told_of A told k = record k { place = suc k.place; store = stores.all_noticed A told k.store }

-- it takes the checkpoint of its place over the array A
abbrev pub takes_checkpoint : List Entry → Replica → Replica
takes_checkpoint A k = record k {
  tree = refreshed A k.store.told k.tree;
  store = stores.takes k.place (refreshed A k.store.told k.tree) k.store;
}

-- a checkpoint is due at a place
abbrev pub is_due : Limits → ℕ → Bool
is_due limits place = place % limits.k == 0

-- with the checkpoint of its place, where one is due
abbrev pub checked : Limits → List Entry → Replica → Replica
checked limits A k = if is_due limits k.place then takes_checkpoint A k else k

-- after an answer that was given from the array A
abbrev pub passed : Limits → List Entry → Answer → Replica → Replica
passed limits A a k = checked limits a.array (told_of A a.told k)

-- the root word of a replica that stands at its place: where a checkpoint is due its lie about the place, or else the
-- root of its digests; where none is due there is none
abbrev pub IsRootWord : Limits → Replica → Option (List ℕ) → Type 0
IsRootWord limits k None = is_due limits k.place ≡ false
IsRootWord limits k (Some digest) = (is_due limits k.place ≡ true)
    × ((root : List ℕ) × IsRoot k.tree root × (digest ≡ or_else (lookup k.place k.lies.roots) root))

-- a replica of a service with n entries: it has so many digests, in its checkpoints too; each object told is one of
-- them; and its newest checkpoint is of no place behind its own
pub record IsOver (n : ℕ) (k : Replica) : Type 0 where
  pub digests : length k.tree ≡ n
  pub size : k.store.size ≡ n
  pub held : All (λ (c : Checkpoint). length c.digests ≡ n) k.store.holds
  pub told : All (λ i. i < n) k.store.told
  pub taken : k.store.taken ≤ k.place
