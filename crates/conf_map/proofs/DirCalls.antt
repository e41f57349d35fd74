-- What a server and a table tell of the directory of a call and of its names.
use Rattle.std.proofs.Common.{◌≡◌, ℕ, true, false, Bool, List, length, Option, Some, None, Ok, IsSome, IsSomeAnd, is_some, refl, sym, ap, ◌∙◌}
use Rattle.std.specs.Prelude.{not, if◌then◌else◌, is_none, unwrap_or}
use Rattle.std.specs.Option.{option_map}
use Rattle.nfs2_types.specs.declared.Stat.{Stat}
use Rattle.nfs2_types.specs.declared.stat.TheConstants.{ACCES, NOTDIR, STALE}
use Rattle.nfs2_types.specs.Names.{is_bad}
use Rattle.server_trait.specs.Tree.{Tree, Node, names_at, target}
use Rattle.server_trait.proofs.TreeLaws.{is_some_and, some_none, some_same}
use Rattle.server_trait.specs.declared.bench.ConfEntry.{ConfEntry}
use Rattle.server_trait.specs.declared.bench.ConfTable.{ConfTable}
use Rattle.abs_model.specs.declared.entry.NameRow.{NameRow}
use Rattle.abs_model.specs.declared.entry.Entry.{Entry}
use Rattle.abs_model.specs.Objects.{is_dir, names_of, row_of}
use Rattle.abs_model.specs.Array.{entry_at, live, has_name}
use Rattle.abs_model.specs.Machine.{first_of, in_dir}
use Rattle.conf_map.specs.declared.table.Located.{Located}
use Rattle.conf_map.specs.Stands.{handle_at, StandValid}
use Rattle.conf_map.specs.Moves.{IsAt}
use Rattle.conf_map.specs.Tables.{located, index_in}
use Rattle.conf_map.specs.Found.{Finds, IsDirCall, IsLed}
use Rattle.conf_map.proofs.Finding.{finds_ok}
use Rattle.conf_map.proofs.Frames.{entry_at-some}
use Rattle.conf_map.proofs.LiveRows.{at_handle}
use Rattle.conf_map.proofs.Seen.{live_agrees, located_live}
use Rattle.conf_map.proofs.Targets.{dir_map, row_of_target, no_row_of_target}

-- THE DIRECTORY OF A CALL

-- the first refusal of a call on a name, by what its handle names
abbrev refused : List Entry → Option ℕ → Bool → Option Stat
refused A l bad = if is_none l then Some STALE else
    (if not (is_dir (entry_at A (unwrap_or l (length A)))) then Some NOTDIR else (if bad then Some ACCES else None))

module _ (s : Option Tree) (table : ConfTable) (A : List Entry) (k : StandValid s table A) (dir name : List ℕ) where
  pub dir_stale : None ≡ located table.rows.items dir → first_of (in_dir A dir name) ≡ Some STALE
  dir_stale is = ap (λ l. refused A l (is_bad name))
      (live_agrees s table A k.stands dir ∙ ap (option_map (λ (l : Located). l.index)) (sym is))

  module _ (d : Located) (is : Some d ≡ located table.rows.items dir) where
    is_index : live A dir ≡ Some d.index
    is_index = live_agrees s table A k.stands dir ∙ ap (option_map (λ (l : Located). l.index)) (sym is)

    by_dir : (b bad : Bool) → is_dir (entry_at A d.index) ≡ b → is_bad name ≡ bad →
        first_of (in_dir A dir name) ≡ (if not b then Some NOTDIR else (if bad then Some ACCES else None))
    by_dir b bad is_b is_bad' = ap (λ l. refused A l (is_bad name)) is_index
        ∙ ap (λ b. if not b then Some NOTDIR else (if is_bad name then Some ACCES else None)) is_b
        ∙ ap (λ bad. if not b then Some NOTDIR else (if bad then Some ACCES else None)) is_bad'

    pub dir_other : is_dir (entry_at A d.index) ≡ false → first_of (in_dir A dir name) ≡ Some NOTDIR
    dir_other other = by_dir false (is_bad name) other refl

    pub dir_bad : is_dir (entry_at A d.index) ≡ true → is_bad name ≡ true → first_of (in_dir A dir name) ≡ Some ACCES
    dir_bad is_d bad = by_dir true true is_d bad

    pub dir_found : is_dir (entry_at A d.index) ≡ true → is_bad name ≡ false →
        Finds (in_dir A dir name) (IsDirCall A table.rows.items dir name) (Ok d)
    dir_found is_d good = finds_ok (by_dir true false is_d good) (record {
      is_index = is_index;
      live = located_live table.rows.items dir d (sym is);
      is_dir = is_d;
      good = good;
    })

-- ITS NAMES

-- the server has names of a live directory
pub dir_names : (s : Option Tree) (table : ConfTable) (A : List Entry) → StandValid s table A → (i : ℕ) (h : List ℕ) →
    handle_at table.rows.items i ≡ Some h → is_dir (entry_at A i) ≡ true → IsSomeAnd s (λ t. IsSome (names_at t h))
dir_names s table A k i h is is_d =
    let e = at_handle s table A k.stands i h is in
    let m = dir_map s table A k.stands i h e.0 e.1 e.2 e.3
    (ap is_dir (sym (entry_at-some A i e.2 e.3.is_entry)) ∙ is_d) in
    is_some_and (λ t. IsSome (names_at t h)) k.stands.has_tree (ap is_some m.1)

module _ (s : Option Tree) (table : ConfTable) (A : List Entry) (k : StandValid s table A) (d : ℕ) (h name : List ℕ)
    (is : handle_at table.rows.items d ≡ Some h) (is_d : is_dir (entry_at A d) ≡ true) where
  abbrev e : (r : ConfEntry) × (n : Node) × (e : Entry) × IsAt k.stands.tree table A d h r n e
  e = at_handle s table A k.stands d h is

  is_d' : is_dir e.2 ≡ true
  is_d' = ap is_dir (sym (entry_at-some A d e.2 e.3.is_entry)) ∙ is_d

  -- a name that the server lacks
  pub name_gone : ((t : Tree) → s ≡ Some t → target t h name ≡ None) → has_name A d name ≡ false
  name_gone none = ap (λ e. is_some (row_of name (names_of e))) (entry_at-some A d e.2 e.3.is_entry)
      ∙ ap is_some (no_row_of_target s table A k.stands d h e.0 e.1 e.2 e.3 is_d' name
      (none k.stands.tree k.stands.has_tree))

  -- a name that the server has leads to a row
  pub name_led : (x : List ℕ) → ((t : Tree) → s ≡ Some t → target t h name ≡ Some x) → (i : ℕ) →
      Some i ≡ index_in table x → IsLed A table.rows.items d name (record { index = i; handle = x })
  name_led x leads i at =
      let r = row_of_target s table A k.stands d h e.0 e.1 e.2 e.3 is_d' name x
      (leads k.stands.tree k.stands.has_tree) in
      let same : r.0.index ≡ i = some_same ((k.stands.placed.by_handle x r.0.index).1 r.2) (sym at) in
      record {
        has = ap (λ e. is_some (row_of name (names_of e))) (entry_at-some A d e.2 e.3.is_entry) ∙ ap is_some r.1;
        target = ap (λ e. unwrap_or (option_map (λ (r : NameRow). r.index) (row_of name (names_of e))) (length A))
            (entry_at-some A d e.2 e.3.is_entry)
            ∙ ap (λ o. unwrap_or (option_map (λ (r : NameRow). r.index) o) (length A)) r.1 ∙ same;
        live = ap (handle_at table.rows.items) (sym same) ∙ r.2;
      }

  pub name_mapped : (x : List ℕ) → ((t : Tree) → s ≡ Some t → target t h name ≡ Some x) → None ≡ index_in table x → ⊥
  name_mapped x leads none =
      let r = row_of_target s table A k.stands d h e.0 e.1 e.2 e.3 is_d' name x
      (leads k.stands.tree k.stands.has_tree) in
      some_none ((k.stands.placed.by_handle x r.0.index).1 r.2) (sym none)
