-- The names that a server lists of a live directory, in their order, are the rows of the directory's entry.
use Rattle.std.proofs.Common.{◌≡◌, ℕ, suc, true, List, [], ◌∷◌, length, map, slice_get, Option, Some, None, IsSomeAnd, refl, sym, ap, ◌∙◌, subst}
use Rattle.std.specs.Prelude.{unwrap_or, option_map}
use Rattle.std.specs.List.Sorted.{IsStrictlySortedBy}
use Rattle.std.specs.Ordering.{nat_cmp}
use Rattle.std.specs.Cmp.Lexicographic.{slice_cmp}
use Rattle.std.specs.FinMap.{get}
use Rattle.std.proofs.lemmas.Option.{slice_get-map}
use Rattle.server_trait.specs.Tree.{Tree, Node, Names, names_at, target}
use Rattle.server_trait.specs.Calls.{Lists}
use Rattle.server_trait.proofs.TreeLaws.{some_and, some_none, and_then}
use Rattle.server_trait.specs.declared.server.Listed.{Listed}
use Rattle.server_trait.specs.declared.bench.ConfEntry.{ConfEntry}
use Rattle.server_trait.specs.declared.bench.ConfTable.{ConfTable}
use Rattle.abs_model.specs.declared.entry.NameRow.{NameRow}
use Rattle.abs_model.specs.declared.entry.Entry.{Entry}
use Rattle.abs_model.specs.Objects.{is_dir, names_of, row_of}
use Rattle.abs_model.specs.Array.{entry_at}
use Rattle.abs_model.specs.Valid.{is_rising}
use Rattle.conf_map.specs.Stands.{handle_at, StandValid}
use Rattle.conf_map.specs.Moves.{IsAt}
use Rattle.conf_map.specs.Tables.{index_in}
use Rattle.conf_map.proofs.ArrayFacts.{fits_at}
use Rattle.conf_map.proofs.Frames.{entry_at-some, map_some}
use Rattle.conf_map.proofs.LiveRows.{at_handle}
use Rattle.conf_map.proofs.RisingRows.{same_rows, row_name}
use Rattle.conf_map.proofs.RowFacts.{row_of-at, found_at}
use Rattle.conf_map.proofs.Targets.{row_of_target, target_some}
use Rattle.conf_map.specs.Contents.{AreInOrder, AreRows}
use Rattle.conf_map.proofs.NameOrder.{names_in, row_names, rows_rise, sound, complete, names_sorted}

-- a listed name, and the row of the entry that has it
pub record IsRowOf (table : ConfTable) (rows : List NameRow) (l : Listed) (row : NameRow) : Type 0 where
  pub is_row : row_of l.name rows ≡ Some row
  pub index : index_in table l.handle ≡ Some row.index

-- each listed name has its row
abbrev AllRows : ConfTable → List NameRow → List Listed → Type 0
AllRows table rows ls = (k : ℕ) (l : Listed) → slice_get ls k ≡ Some l → (row : NameRow) × IsRowOf table rows l row

-- and each row is listed
abbrev AllListed : List NameRow → List Listed → Type 0
AllListed rows ls =
    (name : List ℕ) (row : NameRow) → row_of name rows ≡ Some row →
    (k : ℕ) × (l : Listed) × (slice_get ls k ≡ Some l) × (l.name ≡ name)

abbrev no_row : NameRow
no_row = record { name = []; index = 0; generation = 0 }

-- the row of a listed name
abbrev found : List NameRow → Listed → NameRow
found rows l = unwrap_or (row_of l.name rows) no_row

module _ (table : ConfTable) (rows : List NameRow) where
  found_is : (l : Listed) (row : NameRow) → IsRowOf table rows l row → found rows l ≡ row
  found_is l row is = ap (λ o. unwrap_or o no_row) is.is_row

  found_name : (l : Listed) (row : NameRow) → IsRowOf table rows l row → (found rows l).name ≡ l.name
  found_name l row is = ap (λ (r : NameRow). r.name) (found_is l row is) ∙ row_name l.name rows row is.is_row

  found_names : (ls : List Listed) → AllRows table rows ls → row_names (map (found rows) ls) ≡ names_in ls
  found_names [] each = refl
  found_names (l ∷ ls) each =
      let row = each 0 l refl in
      ap (λ n. n ∷ row_names (map (found rows) ls)) (found_name l row.0 row.1)
      ∙ ap (λ ns. l.name ∷ ns) (found_names ls (λ k. each (suc k)))

  -- listed names are those of the rows found for them
  found_rows : (ls : List Listed) → AllRows table rows ls → AreRows table ls (map (found rows) ls)
  found_rows [] each = tt
  found_rows (l ∷ ls) each =
      let row = each 0 l refl in (
        record {
          name = sym (found_name l row.0 row.1);
          index = row.1.index ∙ ap (λ (r : NameRow). Some r.index) (sym (found_is l row.0 row.1));
        },
        found_rows ls (λ k. each (suc k)),
      )

  module _ (ls : List Listed) (each : AllRows table rows ls)
      (sorted : IsStrictlySortedBy (slice_cmp nat_cmp) (names_in ls))
      (rising : is_rising rows ≡ true) (all : AllListed rows ls) where
    rises : is_rising (map (found rows) ls) ≡ true
    rises = rows_rise (map (found rows) ls)
        (subst (IsStrictlySortedBy (slice_cmp nat_cmp)) (sym (found_names ls each)) sorted)

    found_none : (name : List ℕ) → row_of name rows ≡ None → (o : Option NameRow) →
        row_of name (map (found rows) ls) ≡ o → o ≡ None
    found_none name lacks None is = refl
    found_none name lacks (Some row) is =
        let i = found_at (map (found rows) ls) name row is in
        let l = map_some (found rows) (slice_get ls i.0) row (sym (slice_get-map (found rows) ls i.0) ∙ i.1) in
        let k = each i.0 l.0 l.1 in
        let same : l.0.name ≡ name = sym (found_name l.0 k.0 k.1) ∙ ap (λ (r : NameRow). r.name) l.2 ∙ i.2 in
        absurd (some_none (ap (λ n. row_of n rows) (sym same) ∙ k.1.is_row) lacks)

    found_some : (name : List ℕ) (row : NameRow) → row_of name rows ≡ Some row →
        row_of name (map (found rows) ls) ≡ Some row
    found_some name row is =
        let k = all name row is in
        let here : found rows k.1 ≡ row = ap (λ n. unwrap_or (row_of n rows) no_row) k.3
        ∙ ap (λ o. unwrap_or o no_row) is in
        let at = slice_get-map (found rows) ls k.0 ∙ ap (option_map (found rows)) k.2 ∙ ap Some here in
        subst (λ n. row_of n (map (found rows) ls) ≡ Some row) (row_name name rows row is)
        (row_of-at (map (found rows) ls) k.0 row rises at)

    -- listed names in their order, of which each has its row and each row its name, have just these rows
    found_all : map (found rows) ls ≡ rows
    found_all = same_rows (map (found rows) ls) rows rises rising (λ name. by_row name (row_of name rows) refl)
      where
        by_row : (name : List ℕ) (o : Option NameRow) → row_of name rows ≡ o →
            row_of name (map (found rows) ls) ≡ row_of name rows
        by_row name None is = found_none name is (row_of name (map (found rows) ls)) refl ∙ sym is
        by_row name (Some row) is = found_some name row is ∙ sym is

-- a live directory whose server listed these names, which then were put in order
module _ (s : Option Tree) (table : ConfTable) (A : List Entry) (k : StandValid s table A)
    (d : ℕ) (h : List ℕ) (is : handle_at table.rows.items d ≡ Some h) (is_d : is_dir (entry_at A d) ≡ true)
    (xs ys : List Listed) (told : (t : Tree) → s ≡ Some t → IsSomeAnd (names_at t h) (Lists xs))
    (order : AreInOrder xs ys) where
  abbrev e : (r : ConfEntry) × (n : Node) × (e : Entry) × IsAt k.stands.tree table A d h r n e
  e = at_handle s table A k.stands d h is

  is_d' : is_dir e.2 ≡ true
  is_d' = ap is_dir (sym (entry_at-some A d e.2 e.3.is_entry)) ∙ is_d

  abbrev names : (m : Names) × (names_at k.stands.tree h ≡ Some m) × Lists xs m
  names = some_and (names_at k.stands.tree h) (Lists xs) (told k.stands.tree k.stands.has_tree)

  target_is : (name : List ℕ) → target k.stands.tree h name ≡ get names.0 name
  target_is name = and_then (λ (m : Names). get m name) (names_at k.stands.tree h) names.0 names.1

  each : AllRows table (names_of e.2) ys
  each i l at =
      let leads = target_is l.name ∙ sound xs names.0 names.2 ys order i l at in
      let row = row_of_target s table A k.stands d h e.0 e.1 e.2 e.3 is_d' l.name l.handle leads in
      (row.0, record { is_row = row.1; index = (k.stands.placed.by_handle l.handle row.0.index).1 row.2 })

  all : AllListed (names_of e.2) ys
  all name row is =
      let x = target_some s table A k.stands d h e.0 e.1 e.2 e.3 is_d' name row is in
      let i = complete xs names.0 names.2 ys order name x.0 (sym (target_is name) ∙ x.1) in
      (i.0, record { name = name; handle = x.0 }, i.1, refl)

  rows : map (found (names_of e.2)) ys ≡ names_of e.2
  rows =
      let rising = (fits_at k.limits A k.valid d e.2 e.3.is_entry).rising in
      found_all table (names_of e.2) ys each (names_sorted xs names.0 names.2 ys order) rising all

  -- they are those of the entry's rows
  pub rows_agree : AreRows table ys (names_of (entry_at A d))
  rows_agree = subst (AreRows table ys) (rows ∙ ap names_of (sym (entry_at-some A d e.2 e.3.is_entry)))
      (found_rows table (names_of e.2) ys each)

-- as many names as rows
pub rows_length : (table : ConfTable) (ls : List Listed) (rows : List NameRow) → AreRows table ls rows →
    length ls ≡ length rows
rows_length table [] [] are = refl
rows_length table [] (r ∷ rs) are = absurd are
rows_length table (l ∷ ls) [] are = absurd are
rows_length table (l ∷ ls) (r ∷ rs) are = ap suc (rows_length table ls rs are.1)
