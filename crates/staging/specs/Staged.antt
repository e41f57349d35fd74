-- When a server's tree and a table stand for an array while objects may stand in the staging directory: as `Stands`,
-- but staging has names, and nothing is said of the rows' parents.
use Rattle.std.specs.Prelude.{◌≡◌, ◌≢◌, ◌⊎◌, ℕ, List, Option, Some, slice_get, length, IsSomeAnd}
use Rattle.server_trait.specs.Tree.{Tree, Node, node_at, names_at}
use Rattle.server_trait.specs.declared.bench.ConfEntry.{ConfEntry}
use Rattle.server_trait.specs.declared.bench.ConfTable.{ConfTable}
use Rattle.abs_model.specs.declared.entry.NameRow.{NameRow}
use Rattle.abs_model.specs.declared.entry.Entry.{Entry}
use Rattle.abs_model.specs.Objects.{row_of}
use Rattle.conf_map.specs.Stands.{handle_at, root_names, DifferInNumber, SameNames, IsObject}
use Rattle.conf_map.specs.Tables.{IsInStep}

-- As `Placed`, where the names of the staging directory, whose handle is given, lead to the rows of these.
pub record Sited (t : Tree) (area : List ℕ) (table : ConfTable) (staged : List NameRow) : Type 0 where
  pub export : List ℕ
  pub root_has : names_at t t.root ≡ Some (root_names export area)
  pub staging_has : IsSomeAnd (names_at t area) (SameNames table.rows.items staged)
  pub root_apart : area ≢ t.root
  pub is_export : handle_at table.rows.items 0 ≡ Some export
  pub in_step : IsInStep table
  pub apart : (i : ℕ) (h : List ℕ) → handle_at table.rows.items i ≡ Some h → (h ≢ t.root) × (h ≢ area)
  pub covered : (q : List ℕ) (n : Node) → node_at t q ≡ Some n → (q ≡ t.root) ⊎
      ((q ≡ area) ⊎ ((i : ℕ) × (handle_at table.rows.items i ≡ Some q)))
  pub numbers : DifferInNumber t

-- a row, with its node, holds an entry, whatever parent it has
pub record RowHolds (t : Tree) (rows : List ConfEntry) (r : ConfEntry) (e : Entry) : Type 0 where
  pub generation : r.generation ≡ e.generation
  pub object : IsObject t rows r e.object

-- tree and table stand for the objects of an array, and staging has these names
pub record Staged (t : Tree) (area : List ℕ) (table : ConfTable) (A : List Entry) (staged : List NameRow) : Type 0 where
  pub sited : Sited t area table staged
  pub size : length table.rows.items ≡ length A
  pub each : (i : ℕ) (r : ConfEntry) (e : Entry) → slice_get table.rows.items i ≡ Some r → slice_get A i ≡ Some e →
      RowHolds t table.rows.items r e

-- a server that has a tree, and its table
abbrev pub StagedAt : Option Tree → List ℕ → ConfTable → List Entry → List NameRow → Type 0
StagedAt server area table A staged = IsSomeAnd server (λ t. Staged t area table A staged)

-- in a list of names each stands once
pub record StandOnce (names : List NameRow) : Type 0 where
  pub found : (i : ℕ) (r : NameRow) → slice_get names i ≡ Some r → row_of r.name names ≡ Some r
  pub once : (i j : ℕ) (a b : NameRow) → slice_get names i ≡ Some a → slice_get names j ≡ Some b → a.name ≡ b.name →
      i ≡ j
