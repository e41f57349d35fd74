-- A server and a table over which a service can go on.
use Rattle.std.specs.Prelude.{List}
use Rattle.nfs2_types.specs.declared.Limits.{Limits}
use Rattle.server_trait.specs.Tree.{Server}
use Rattle.server_trait.specs.declared.bench.ConfTable.{ConfTable}
use Rattle.abs_model.specs.declared.Entry.{Entry}
use Rattle.conf_map.specs.Stands.{StandsValid, AreWithin, HasRoom}

-- they stand for a valid array, and there is room for every other
pub record IsReady (limits : Limits) (server : Server) (table : ConfTable) : Type 0 where
  pub within : AreWithin limits
  pub room : HasRoom limits server.limits
  pub array : List Entry
  pub stands : StandsValid limits server.tree table array
