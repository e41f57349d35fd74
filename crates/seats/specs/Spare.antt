-- The table of a server that no replica has.
use Rattle.std.specs.Prelude.{◌≡◌, []}
use Rattle.std.specs.BTreeMap as ordered
use Rattle.server_trait.specs.declared.ConfTable.{ConfTable}

-- it has no row and no handle
pub record IsEmptyTable (t : ConfTable) : Type 0 where
  pub rows : t.rows.items ≡ []
  pub by_handle : ordered.IsEmpty t.by_handle
  pub used : t.used ≡ 0
  pub lowest : t.lowest ≡ 0
