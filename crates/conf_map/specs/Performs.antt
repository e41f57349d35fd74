-- What a procedure over a server and its table asks for and does: the machine's step, on whatever array they
-- stand for.
use Rattle.std.specs.Prelude.{◌≡◌, ◌++◌, ℕ, List, Option, true}
use Rattle.nfs2_types.specs.declared.Limits.{Limits}
use Rattle.nfs2_types.specs.declared.Time.{Time}
use Rattle.nfs2_types.specs.declared.Cred.{Cred}
use Rattle.nfs2_types.specs.declared.NfsResult.{NfsResult}
use Rattle.nfs2_types.specs.Call.{Call}
use Rattle.nfs2_types.specs.Times.{is_time}
use Rattle.abs_model.specs.declared.entry.Entry.{Entry}
use Rattle.abs_model.specs.Machine as machine
use Rattle.server_trait.specs.Tree.{Tree, Server}
use Rattle.server_trait.specs.declared.bench.ConfTable.{ConfTable}
use Rattle.conf_map.specs.Stands.{Stands, StandsValid, AreWithin, HasRoom}
use Rattle.conf_map.specs.Tallied.{Tallied}
use Rattle.conf_map.specs.Notice.{NoticedAll}

-- A call may be made at this time: server and table stand for an array that is valid for the limits, which are those
-- of a service, and the server has room for every such array.
pub record CanPerform (limits : Limits) (server : Server) (table : ConfTable) (t : Time) : Type 0 where
  pub array : List Entry
  pub stands : StandsValid limits server.tree table array
  pub within : AreWithin limits
  pub room : HasRoom limits server.limits
  pub time : is_time t ≡ true

-- A procedure gives the machine's result, leaves tree and table standing for its array and the table's tally right,
-- and tells its objects in order.
pub record Performs {M : Type 0} (told_of : M → List ℕ) (noticed : M → List Entry → ℕ → M → Type 0)
    (limits : Limits) (cred : Cred) (t : Time) (call : Call) (A : List Entry)
    (result : NfsResult) (tree : Option Tree) (table : ConfTable) (old new : M) : Type 0 where
  pub result_is : result ≡ machine.result_of A limits cred t call
  pub stands : Stands tree table (machine.array_after A limits cred t call)
  pub tallied : Tallied table (machine.array_after A limits cred t call)
  pub told : told_of new ≡ told_of old ++ machine.told A limits cred t call
  pub notices : NoticedAll noticed A old (machine.told A limits cred t call) new
