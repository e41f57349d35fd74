-- The tests of a directory and of a name in it, and where the name leads.
use Rattle.std.proofs.Common.{◌≡◌, ℕ, Bool, true, false, List, [], ◌∷◌, length, Option, Some, None, Result, Ok, Err, sym, ap, ◌∙◌, subst}
use Rattle.std.specs.Prelude.{◌&&◌, not, nat_le, if◌then◌else◌}
use Rattle.std.proofs.lemmas.Bool.{and_from, not_from_false}
use Rattle.nfs2_types.specs.declared.Stat.{Stat}
use Rattle.nfs2_types.specs.Names.{is_bad, is_dot, is_name}
use Rattle.server_trait.specs.Tree.{Tree}
use Rattle.server_trait.specs.declared.bench.ConfTable.{ConfTable}
use Rattle.abs_model.specs.declared.entry.Entry.{Entry}
use Rattle.abs_model.specs.Objects.{is_dir}
use Rattle.abs_model.specs.Array.{entry_at}
use Rattle.abs_model.specs.Machine.{Refusal, ◌answers◌, first_of, in_dir}
use Rattle.conf_map.specs.Stands.{StandValid}
use Rattle.conf_map.specs.Found.{Finds, IsDirCall, NameFound, name_tests, IsNamed}
use Rattle.conf_map.specs.declared.name.Named.{Named}
use Rattle.conf_map.specs.declared.table.Located.{Located}
use Rattle.conf_map.proofs.Finding.{first_then, first_stops, finds_ok, finds_err}

-- a good name
good_name : (name : List ℕ) → is_bad name ≡ false → nat_le (length name) 255 ≡ true → is_dot name ≡ false →
    is_name name ≡ true
good_name name bad short dot = and_from (not (is_bad name) && nat_le (length name) 255) _
    (and_from (not (is_bad name)) _ (not_from_false (is_bad name) bad) short) (not_from_false (is_dot name) dot)

module _ (s : Option Tree) (table : ConfTable) (dir name : List ℕ) (dot : Stat) (r : Result Located Stat)
    (found : (A : List Entry) → StandValid s table A →
    Finds (in_dir A dir name) (IsDirCall A table.rows.items dir name) r) where
  abbrev dots : List Refusal
  dots = (is_dot name answers dot) ∷ []

  -- what the search of a name comes to
  abbrev Search : List Entry → Result Named Stat → Type 0
  Search A = Finds (name_tests A dir name dot) (IsNamed A table.rows.items dir name)

  -- the status by which a directory is refused
  pub not_found : (A : List Entry) → StandValid s table A → (stat : Stat) → r ≡ Err stat → Search A (Err stat)
  not_found A k stat is = finds_err (first_stops (in_dir A dir name) dots ((found A k).refused stat is))

  module _ (d : Located) (is : r ≡ Ok d) where
    -- the directory of the call
    pub dir_call : (A : List Entry) → StandValid s table A → IsDirCall A table.rows.items dir name d
    dir_call A k = ((found A k).found d is).1

    in_it : (A : List Entry) → StandValid s table A → (b : Bool) → is_dot name ≡ b →
        first_of (name_tests A dir name dot) ≡ (if b then Some dot else None)
    in_it A k b is_b = first_then (in_dir A dir name) dots ((found A k).found d is).0
        ∙ ap (λ b. if b then Some dot else None) is_b

    -- a dot is refused
    pub dot_found : (A : List Entry) → StandValid s table A → is_dot name ≡ true → Search A (Err dot)
    dot_found A k is_dot = finds_err (in_it A k true is_dot)

    -- any other name is one that may be looked for
    pub name_good : ((A : List Entry) × StandValid s table A) → nat_le (length name) 255 ≡ true →
        is_dot name ≡ false → is_name name ≡ true
    name_good k short no_dot = good_name name (dir_call k.0 k.1).good short no_dot

    pub can_follow : (s' : Option Tree) → s' ≡ s → ((A : List Entry) × StandValid s table A) → (A : List Entry)
        × (StandValid s' table A) × (is_dir (entry_at A d.index) ≡ true)
    can_follow s' same k = (k.0, subst (λ s. StandValid s table k.0) (sym same) k.1, (dir_call k.0 k.1).is_dir)

    -- and leads somewhere or not
    pub name_found : (s' : Option Tree) → s' ≡ s → nat_le (length name) 255 ≡ true → is_dot name ≡ false →
        (o : Option Located) →
        ((A : List Entry) → StandValid s' table A → is_dir (entry_at A d.index) ≡ true →
        NameFound A table.rows.items d.index name o) →
        (A : List Entry) → StandValid s table A → Search A (Ok (record { dir = d; at = o }))
    name_found s' same short no_dot o led A k = finds_ok (in_it A k false no_dot) (record {
      in_dir = dir_call A k;
      no_dot = no_dot;
      good = good_name name (dir_call A k).good short no_dot;
      found = led A (subst (λ s. StandValid s table A) (sym same) k) (dir_call A k).is_dir;
    })
