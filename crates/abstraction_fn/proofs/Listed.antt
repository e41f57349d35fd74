-- The rows of the names that a server lists are those of the directory's entry.
use Rattle.std.proofs.Common.{◌≡◌, ℕ, suc, List, [], ◌∷◌, map, slice_get, Option, Some, refl, sym, ap, ◌∙◌}
use Rattle.std.specs.Prelude.{unwrap_or, option_map}
use Rattle.server_trait.specs.Tree.{Tree}
use Rattle.server_trait.specs.declared.Listed.{Listed}
use Rattle.server_trait.specs.declared.ConfEntry.{ConfEntry}
use Rattle.server_trait.specs.declared.ConfTable.{ConfTable}
use Rattle.abs_model.specs.declared.NameRow.{NameRow}
use Rattle.abs_model.specs.declared.Entry.{Entry}
use Rattle.abs_model.specs.Objects.{names_of}
use Rattle.abs_model.specs.Array.{entry_at}
use Rattle.conf_map.specs.Stands.{handle_at, StandValid}
use Rattle.conf_map.specs.Contents.{AreRows}
use Rattle.conf_map.specs.Tables.{index_in}
use Rattle.conf_map.proofs.ArrayFacts.{led_at}
use Rattle.conf_map.proofs.Frames.{entry_at-some}
use Rattle.conf_map.proofs.LiveRows.{at_handle, at_live}
use Rattle.abstraction_fn.specs.Rows.{generation_at, row_by}

module _ (table : ConfTable) where
  same_rows : (ls : List Listed) (rows : List NameRow) → AreRows table ls rows →
      ((j : ℕ) (r : NameRow) → slice_get rows j ≡ Some r → generation_at table.rows.items r.index ≡ r.generation) →
      map (row_by table) ls ≡ rows
  same_rows [] [] are g = refl
  same_rows [] (r ∷ rs) are g = absurd are
  same_rows (l ∷ ls) [] are g = absurd are
  same_rows (l ∷ ls) (r ∷ rs) are g =
      let index : unwrap_or (index_in table l.handle) 0 ≡ r.index
      = ap (λ (o : Option ℕ). unwrap_or o 0) are.0.index in
      let generation : generation_at table.rows.items (unwrap_or (index_in table l.handle) 0) ≡ r.generation
      = ap (generation_at table.rows.items) index ∙ g 0 r refl in
      let one : row_by table l ≡ r
      = λ j. record { name = are.0.name j; index = index j; generation = generation j } in
      ap (λ (x : NameRow). x ∷ map (row_by table) ls) one
      ∙ ap (λ (xs : List NameRow). r ∷ xs) (same_rows ls rs are.1 (λ j. g (suc j)))

-- the generation of a name's object stands in the object's row
leads_to : (s : Option Tree) (table : ConfTable) (A : List Entry) (k : StandValid s table A) (d : ℕ) (e : Entry) →
    slice_get A d ≡ Some e → (j : ℕ) (r : NameRow) → slice_get (names_of e) j ≡ Some r →
    generation_at table.rows.items r.index ≡ r.generation
leads_to s table A k d e at_e j r at_r =
    let led = led_at k.limits A k.valid d e j r at_e at_r in
    let live = at_live s table A k.stands r.index led.live in
    ap (λ (o : Option ConfEntry). unwrap_or (option_map (λ (x : ConfEntry). x.generation) o) 0) live.3.is_row
    ∙ (k.stands.each r.index live.1 (entry_at A r.index) live.3.is_row live.3.is_entry).generation
    ∙ led.generation

pub rows_are : (s : Option Tree) (table : ConfTable) (A : List Entry) (k : StandValid s table A) (d : ℕ)
    (h : List ℕ) → handle_at table.rows.items d ≡ Some h → (ls : List Listed) →
    AreRows table ls (names_of (entry_at A d)) → map (row_by table) ls ≡ names_of (entry_at A d)
rows_are s table A k d h at ls are =
    let e = at_handle s table A k.stands d h at in
    let same = entry_at-some A d e.2 e.3.is_entry in
    same_rows table ls (names_of (entry_at A d)) are
    (λ j r at_r. leads_to s table A k d e.2 e.3.is_entry j r
    (ap (λ (x : Entry). slice_get (names_of x) j) (sym same) ∙ at_r))
