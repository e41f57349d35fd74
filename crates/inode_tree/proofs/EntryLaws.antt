-- A name is entered in the tables.
use Rattle.std.proofs.Common.{◌≡◌, ◌<◌, ℕ, arith, List, Bool, Option, Some, sym, ap, ◌∙◌, slice_get, length}
use Rattle.std.specs.Prelude.{option_and_then}
use Rattle.std.specs.FinMap.{get, insert}
use Rattle.server_trait.specs.Tree.{ByBytes}
use Rattle.server_trait.proofs.TreeLaws.{get-insert_same, get-insert_other}
use Rattle.inode_dirs.specs.declared.index.Place.{Place}
use Rattle.inode_tree.specs.Tables.{Tables}
use Rattle.inode_tree.specs.Changes.{Named}
use Rattle.inode_tree.specs.Entries.{Enters}
use Rattle.inode_tree.specs.Kept.{tables_of}
use Rattle.inode_tree.specs.declared.tables.InodeTables.{InodeTables}
use Rattle.inode_tree.proofs.RowLaws.{place_same, place_other}
use Rattle.inode_tree.proofs.DirCalls.{with_index}

-- a directory's index has the name, and the other rows are those of a name more
module _ (s : InodeTables) (dir : ℕ) (within : dir < (tables_of s).counts.inodes) (m m' : ByBytes Place)
    (is_m : slice_get s.dirs.items dir ≡ Some m) (name : List ℕ) (place : Place) (added : m' ≡ insert m name place)
    (t' : Tables) (is_dir : Bool) (rows : Named (with_index s dir m') t' dir place.inode is_dir) where
  in_rows : dir < length s.dirs.items
  in_rows = let same = s.same_dirs in omega (arith, same, within)

  now : (q : List ℕ) → t'.place dir q ≡ get m' q
  now q = ap (λ f. f dir q) rows.places ∙ place_same s.dirs.items dir m' in_rows q

  before : (q : List ℕ) → (tables_of s).place dir q ≡ get m q
  before q = ap (λ (o : Option (ByBytes Place)). option_and_then (λ m. get m q) o) is_m

  pub enters : Enters (tables_of s) t' dir name place is_dir
  enters = record {
    handles = rows.handles;
    here = now name ∙ ap (λ (m : ByBytes Place). get m name) added ∙ get-insert_same m name place;
    others = λ q ne. now q ∙ ap (λ (m : ByBytes Place). get m q) added ∙ get-insert_other m name place q ne
        ∙ sym (before q);
    places = λ k ne. ap (λ f. f k) rows.places ∙ place_other s.dirs.items dir k m' ne;
    counts = rows.counts;
    kinds = rows.kinds;
    parent_here = rows.parent_here;
    parents = rows.parents;
    free = rows.free;
  }
