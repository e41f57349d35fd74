-- The list of a directory (RFC 1094, 2.2.17) from the names that its server has in their order.
use Rattle.std.specs.Prelude.{ℕ, ◌+◌, ◌<◌, ◌≤◌, ◌^◌, List, [], ◌∷◌, ◌++◌, length, unwrap_or}
use Rattle.nfs2_types.specs.declared.ListEntry.{ListEntry}
use Rattle.server_trait.specs.declared.server.Listed.{Listed}
use Rattle.server_trait.specs.declared.bench.ConfTable.{ConfTable}
use Rattle.abs_model.specs.Listed.{dots}
use Rattle.conf_map.specs.Tables.{index_in}

-- a listed name's fileid, by the row that the table has for its handle
abbrev pub fileid_of : ConfTable → Listed → ℕ
fileid_of table l = unwrap_or (index_in table l.handle) 0 + 1

-- the names' entries, their cookies counted from this one
abbrev pub entries_of : ConfTable → ℕ → List Listed → List ListEntry
entries_of table cookie [] = []
entries_of table cookie (l ∷ ls) =
    record { fileid = fileid_of table l; name = l.name; cookie = cookie } ∷ entries_of table (cookie + 1) ls

-- all entries of a directory, with "." and ".." before its names
abbrev pub all_entries : ConfTable → ℕ → ℕ → List Listed → List ListEntry
all_entries table d parent ls = dots d parent ++ entries_of table 3 ls

-- the fileids are 32-bit words
abbrev pub HasFileids : ConfTable → Type 0
HasFileids table = (l : Listed) → fileid_of table l < 2 ^ 32

-- the fileids and the cookies of all entries are 32-bit words
pub record CanNumber (table : ConfTable) (d parent : ℕ) (ls : List Listed) : Type 0 where
  pub dir : d + 1 < 2 ^ 32
  pub parent_dir : parent + 1 < 2 ^ 32
  pub fileids : HasFileids table
  pub few : length ls ≤ 32768
