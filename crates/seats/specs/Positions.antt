-- Claims on a position of a bench. Each takes `state`, which says what a server of the bench is, and what stands at a
-- position of the lists of servers and of tables, as `slice_get servers r`.
use Rattle.std.specs.Prelude.{◌≡◌, ◌≢◌, ℕ, ◌≤◌, List, Option, Some, Result, slice_get, length}
use Rattle.nfs2_types.specs.declared.Limits.{Limits}
use Rattle.abs_model.specs.declared.Entry.{Entry}
use Rattle.server_trait.specs.Tree.{Server}
use Rattle.server_trait.specs.declared.ConfTable.{ConfTable}
use Rattle.server_trait.specs.declared.WrapErr.{WrapErr}
use Rattle.conf_map.specs.Stands.{StandsValid, HasRoom}
use Rattle.conf_map.specs.Notice.{Watched}
use Rattle.dispatch.specs.Answer.{answer}
use Rattle.cluster_model.specs.declared.Request.{Request}
use Rattle.replica.specs.declared.Replica.{Replica}
use Rattle.replica.specs.declared.Cast.{Cast}
use Rattle.replica.specs.Replicas.{passed, skipped, checked, IsRootWord}
use Rattle.replica.specs.Passed.{IsCast}
use Rattle.recovery.specs.declared.FinishErr.{FinishErr}
use Rattle.recovery.specs.Ends.{FinishWatched}

-- server and table at a position stand for an array
pub record StandsAt {X : Type 0} (state : X → Server) (limits : Limits) (s : Option X) (t : Option ConfTable)
    (A : List Entry) : Type 0 where
  pub server : X
  pub table : ConfTable
  pub is_server : s ≡ Some server
  pub is_table : t ≡ Some table
  pub stands : StandsValid limits (state server).tree table A

-- the server at a position, if there is one, can hold every array within the limits
pub record HasRoomAt {X : Type 0} (state : X → Server) (limits : Limits) (s : Option X) : Type 0 where
  pub room : (x : X) → s ≡ Some x → HasRoom limits (state x).limits

-- only this position may differ
pub record ChangesAt {X : Type 0} (r : ℕ) (old new : List X) : Type 0 where
  pub size : length new ≡ length old
  pub others : (k : ℕ) → k ≢ r → slice_get new k ≡ slice_get old k

-- limits and count of the server at a position, over a call
pub record WatchedAt {X T : Type 0} (state : X → Server) (old new : Option X)
    (result : Result T WrapErr) : Type 0 where
  pub before : X
  pub after : X
  pub is_before : old ≡ Some before
  pub is_after : new ≡ Some after
  pub watched : Watched (state before) (state after) result

-- the same, over the end of a rebuilding
pub record FinishWatchedAt {X T : Type 0} (state : X → Server) (old new : Option X)
    (result : Result T FinishErr) : Type 0 where
  pub before : X
  pub after : X
  pub is_before : old ≡ Some before
  pub is_after : new ≡ Some after
  pub watched : FinishWatched (state before) (state after) result

-- the replica at a position passed a request from whatever array the position stood for
pub record PassedAt {X : Type 0} (state : X → Server) (limits : Limits) (q : Request) (s : Option X)
    (t : Option ConfTable) (s' : Option X) (t' : Option ConfTable) (k k' : Replica) (cast : Cast) : Type 0 where
  pub step : (A : List Entry) → StandsAt state limits s t A →
      let a = answer A limits q.time q.bytes in
      StandsAt state limits s' t' a.array × (k' ≡ passed limits A a k) × IsCast limits a k' cast

-- the replica at a position passed a place with no request, and its position stands for the array that it stood for
pub record SkippedAt {X : Type 0} (state : X → Server) (limits : Limits) (s : Option X) (t : Option ConfTable)
    (s' : Option X) (t' : Option ConfTable) (k k' : Replica) (root : Option (List ℕ)) : Type 0 where
  pub step : (A : List Entry) → StandsAt state limits s t A →
      StandsAt state limits s' t' A × (k' ≡ checked limits A (skipped k))
  pub root_word : IsRootWord limits k' root

-- each server has the limits that it had, its count has not fallen, there are as many, and from position n on none
-- changed
pub record AreLater {X : Type 0} (state : X → Server) (n : ℕ) (old new : List X) : Type 0 where
  pub size : length new ≡ length old
  pub limits : (r : ℕ) (x y : X) → slice_get old r ≡ Some x → slice_get new r ≡ Some y →
      (state y).limits ≡ (state x).limits
  pub faults : (r : ℕ) (x y : X) → slice_get old r ≡ Some x → slice_get new r ≡ Some y →
      (state x).faults ≤ (state y).faults
  pub beyond : (r : ℕ) → n ≤ r → slice_get new r ≡ slice_get old r
