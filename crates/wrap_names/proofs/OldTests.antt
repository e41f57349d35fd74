-- The tests of a name that has to be there, and of a file or a link to which it leads.
use Rattle.std.proofs.Common.{◌≡◌, ℕ, Bool, true, false, List, [], ◌∷◌, ◌++◌, Option, Some, None, Result, Ok, Err, sym, ap, ◌∙◌, subst}
use Rattle.std.specs.Prelude.{not, if◌then◌else◌}
use Rattle.nfs2_types.specs.declared.Stat.{Stat}
use Rattle.nfs2_types.specs.declared.stat.TheConstants.{PERM, NOENT, ISDIR}
use Rattle.server_trait.specs.Tree.{Tree}
use Rattle.server_trait.specs.declared.bench.ConfEntry.{ConfEntry}
use Rattle.server_trait.specs.declared.bench.ConfTable.{ConfTable}
use Rattle.abs_model.specs.declared.entry.Entry.{Entry}
use Rattle.abs_model.specs.Objects.{is_dir}
use Rattle.abs_model.specs.Array.{entry_at, at, has_name, target}
use Rattle.abs_model.specs.Machine.{Refusal, ◌answers◌, first_of, old_name_tests}
use Rattle.abs_model.proofs.Named.{at-live}
use Rattle.conf_map.specs.Stands.{StandValid}
use Rattle.conf_map.specs.Found.{Finds, name_tests, NameFound, IsNamed}
use Rattle.conf_map.specs.declared.table.Located.{Located}
use Rattle.conf_map.specs.declared.name.Named.{Named}
use Rattle.conf_map.proofs.Finding.{first_then, first_stops, finds_ok, finds_err}
use Rattle.node_changes.proofs.NamedCalls.{named_refused, named_then}
use Rattle.wrap_names.specs.declared.find.Found.{Found}
use Rattle.wrap_names.specs.Present.{IsOld, remove_tests, IsFileName}

-- THE NAME IS THERE

abbrev no_name : List Entry → List ℕ → List ℕ → List Refusal
no_name A dir name = (not (has_name A (at A dir) name) answers NOENT) ∷ []

abbrev if_none : Bool → Option Stat
if_none b = if not b then Some NOENT else None

module _ (s : Option Tree) (table : ConfTable) (dir name : List ℕ) (r : Result Named Stat)
    (found : (A : List Entry) → StandValid s table A →
    Finds (name_tests A dir name PERM) (IsNamed A table.rows.items dir name) r) where
  -- what the search of a name that is there comes to
  abbrev Search : List Entry → Result Found Stat → Type 0
  Search A = Finds (old_name_tests A dir name) (IsOld A table.rows.items dir name)

  -- a refusal of the name
  pub name_refused : (A : List Entry) → StandValid s table A → (stat : Stat) → r ≡ Err stat → Search A (Err stat)
  name_refused A k stat is = finds_err (named_refused A dir name PERM (no_name A dir name) (found A k) is)

  module _ (n : Named) (is : r ≡ Ok n) (A : List Entry) (k : StandValid s table A) where
    is_named : IsNamed A table.rows.items dir name n
    is_named = ((found A k).found n is).1

    by_name : (b : Bool) → has_name A n.dir.index name ≡ b → first_of (old_name_tests A dir name) ≡ if_none b
    by_name b is_b = named_then A dir name PERM (no_name A dir name) (found A k) is
        ∙ ap (λ d. if_none (has_name A d name)) (at-live A dir n.dir.index is_named.in_dir.is_index) ∙ ap if_none is_b

    -- a name that is not there
    pub no_entry : n.at ≡ None → Search A (Err NOENT)
    no_entry none = finds_err
        (by_name false (subst (NameFound A table.rows.items n.dir.index name) none is_named.found))

    -- and one that is
    pub old_found : (o : Located) → n.at ≡ Some o → Search A (Ok (record { dir = n.dir; at = o }))
    old_found o some =
        let led = subst (NameFound A table.rows.items n.dir.index name) some is_named.found in
        finds_ok (by_name true led.has)
        (record { in_dir = is_named.in_dir; no_dot = is_named.no_dot; good = is_named.good; led = led })

-- WHAT IT LEADS TO

module _ (A : List Entry) (rows : List ConfEntry) (dir name : List ℕ) (f : Found) (c : IsOld A rows dir name f) where
  -- the directory of the call
  pub dir_at : at A dir ≡ f.dir.index
  dir_at = at-live A dir f.dir.index c.in_dir.is_index

  -- the object of its name
  pub old_at : target A (at A dir) name ≡ f.at.index
  old_at = ap (λ d. target A d name) dir_at ∙ c.led.target

-- what was found still is where the server holds what it held
pub still_valid : (s s' : Option Tree) (table : ConfTable) (A : List Entry) → s' ≡ s → StandValid s table A →
    StandValid s' table A
still_valid s s' table A same = subst (λ s. StandValid s table A) (sym same)

module _ (s : Option Tree) (table : ConfTable) (dir name : List ℕ) (r : Result Found Stat)
    (found : (A : List Entry) → StandValid s table A →
    Finds (old_name_tests A dir name) (IsOld A table.rows.items dir name) r) where
  -- a refusal is that of the call, whatever it tests then
  pub old_refused : {IsFound : Found → Type 0} (rest : List Entry → List Refusal) (A : List Entry) →
      StandValid s table A →
      (stat : Stat) → r ≡ Err stat → Finds (old_name_tests A dir name ++ rest A) IsFound (Err stat)
  old_refused rest A k stat is = finds_err
      (first_stops (old_name_tests A dir name) (rest A) ((found A k).refused stat is))

  module _ (f : Found) (is : r ≡ Ok f) where
    pub is_old : (A : List Entry) → StandValid s table A → IsOld A table.rows.items dir name f
    is_old A k = ((found A k).found f is).1

    -- the tests of the object decide
    pub old_rest : (A : List Entry) → StandValid s table A → (rest : ℕ → List Refusal) →
        first_of (old_name_tests A dir name ++ rest (target A (at A dir) name)) ≡ first_of (rest f.at.index)
    old_rest A k rest = first_then (old_name_tests A dir name) (rest (target A (at A dir) name))
        ((found A k).found f is).0
        ∙ ap (λ i. first_of (rest i)) (old_at A table.rows.items dir name f (is_old A k))

    -- FILES AND LINKS

    module _ (s' : Option Tree) (same : s' ≡ s) (b : Bool)
        (kind : (A : List Entry) → StandValid s' table A → b ≡ is_dir (entry_at A f.at.index))
        (A : List Entry) (k : StandValid s table A) where
      by_kind : (c : Bool) → b ≡ c → first_of (remove_tests A dir name) ≡ (if c then Some ISDIR else None)
      by_kind c is_c = old_rest A k (λ i. (is_dir (entry_at A i) answers ISDIR) ∷ [])
          ∙ ap (λ b. if b then Some ISDIR else None) (sym (kind A (still_valid s s' table A same k)) ∙ is_c)

      -- a directory is refused
      pub dir_refused : b ≡ true → Finds (remove_tests A dir name) (IsFileName A table.rows.items dir name) (Err ISDIR)
      dir_refused is_d = finds_err (by_kind true is_d)

      -- and what is none is found
      pub file_found : b ≡ false → Finds (remove_tests A dir name) (IsFileName A table.rows.items dir name) (Ok f)
      file_found no_d = finds_ok (by_kind false no_d)
          (record { old = is_old A k; no_dir = sym (kind A (still_valid s s' table A same k)) ∙ no_d })
