-- What a run of a request does to a replica, its server and its table.
use Rattle.std.specs.Prelude.{◌≡◌, ℕ, List, Option}
use Rattle.nfs2_types.specs.declared.Limits.{Limits}
use Rattle.nfs2_types.specs.declared.Time.{Time}
use Rattle.abs_model.specs.declared.Entry.{Entry}
use Rattle.server_trait.specs.Tree.{Tree}
use Rattle.server_trait.specs.declared.ConfTable.{ConfTable}
use Rattle.conf_map.specs.Stands.{StandsValid}
use Rattle.dispatch.specs.Answer.{Answer, answer}
use Rattle.cluster_model.specs.State.{lookup, or_else}
use Rattle.replica.specs.declared.running.Cast.{Cast}
use Rattle.replica.specs.declared.running.Replica.{Replica}
use Rattle.replica.specs.Replicas.{passed, skipped, checked, IsRootWord}

-- the words that a replica casts after an answer: its lie about the place, or else the answer's word; and a root word
-- where a checkpoint was due
pub record IsCast (limits : Limits) (a : Answer) (k : Replica) (cast : Cast) : Type 0 where
  pub place : cast.place ≡ k.place
  pub word : cast.word ≡ or_else (lookup k.place k.lies.words) a.word
  pub root : IsRootWord limits k cast.root

-- A request of these bytes at this time was answered: from whatever array tree and table stood for, they stand for the
-- array after it, the replica keeps what it has after that answer, and these are the words that it casts.
pub record Passed (limits : Limits) (time : Time) (bytes : List ℕ) (tree tree' : Option Tree)
    (table table' : ConfTable) (k k' : Replica) (cast : Cast) : Type 0 where
  pub step : (A : List Entry) → StandsValid limits tree table A →
      let a = answer A limits time bytes in
      StandsValid limits tree' table' a.array × (k' ≡ passed limits A a k) × IsCast limits a k' cast

-- A place was passed with no request: tree and table stand for the array that they stood for, the replica keeps what it
-- has after a checkpoint where one is due, and this is its root word.
pub record Skipped (limits : Limits) (tree tree' : Option Tree) (table : ConfTable) (k k' : Replica)
    (root : Option (List ℕ)) : Type 0 where
  pub step : (A : List Entry) → StandsValid limits tree table A →
      StandsValid limits tree' table A × (k' ≡ checked limits A (skipped k))
  pub root_word : IsRootWord limits k' root
