-- When entries can be put, and what comes of it.
use Rattle.std.specs.Prelude.{◌≡◌, ◌≤◌, ℕ, List, Result, Ok, Err}
use Rattle.nfs2_types.specs.declared.Limits.{Limits}
use Rattle.nfs2_types.specs.Counts.{Rose}
use Rattle.server_trait.specs.Tree.{Server}
use Rattle.server_trait.specs.declared.bench.ConfTable.{ConfTable}
use Rattle.server_trait.specs.declared.bench.WrapErr.{WrapErr}
use Rattle.server_trait.specs.declared.bench.WrapErr.TheVariants.{Down as ServerDown, NoMemory as ServerNoMemory}
use Rattle.abs_model.specs.declared.entry.Entry.{Entry}
use Rattle.conf_map.specs.Stands.{AreWithin, HasRoom, StandsValid}
use Rattle.inverse_fn.specs.declared.failure.PutErr.{PutErr}
use Rattle.inverse_fn.specs.declared.failure.PutErr.TheVariants.{Invalid, Down, NoMemory}

-- Server and table stand for an array that is valid for these limits, which are those of a service, and the server has
-- room for every such array.
pub record CanPutObjs (limits : Limits) (server : Server) (table : ConfTable) : Type 0 where
  pub array : List Entry
  pub stands : StandsValid limits server.tree table array
  pub within : AreWithin limits
  pub room : HasRoom limits server.limits

-- the same failure of a wrapped server
abbrev pub put_err : WrapErr → PutErr
put_err ServerDown = Down
put_err ServerNoMemory = NoMemory

-- the count by an answer: Down exactly where it rose
abbrev pub PutCounted : {T : Type 0} → ℕ → ℕ → Result T PutErr → Type 0
PutCounted before now (Err Down) = (before ≤ now) × Rose before now
PutCounted before now r = now ≡ before

-- the limits are as before, and the count never falls
pub record PutWatched {T : Type 0} (old new : Server) (r : Result T PutErr) : Type 0 where
  pub limits : new.limits ≡ old.limits
  pub faults : PutCounted old.faults new.faults r
