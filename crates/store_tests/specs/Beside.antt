-- A store of checkpoints beside a server and a table over which a service of sixteen entries can go on.
use Rattle.std.specs.Prelude.{◌≡◌, ℕ, List}
use Rattle.nfs2_types.specs.declared.Limits.{Limits}
use Rattle.server_trait.specs.Tree.{Server}
use Rattle.server_trait.specs.declared.bench.ConfTable.{ConfTable}
use Rattle.abs_model.specs.declared.Entry.{Entry}
use Rattle.conf_map.specs.Stands.{StandsValid, AreWithin, HasRoom}
use Rattle.cow_checkpoint.specs.Store.{Store}

-- server and table stand for a valid array, and there is room for every other
pub record IsReady (limits : Limits) (server : Server) (table : ConfTable) : Type 0 where
  pub within : AreWithin limits
  pub entries : limits.n ≡ 16
  pub room : HasRoom limits server.limits
  pub array : List Entry
  pub stands : StandsValid limits server.tree table array

-- and the store is one of as many texts, whose newest checkpoint was taken at this place
pub record IsBeside (limits : Limits) (server : Server) (table : ConfTable) (place : ℕ) (store : Store) : Type 0 where
  pub ready : IsReady limits server table
  pub size : store.size ≡ 16
  pub taken : store.taken ≡ place
