-- A row and its entry have another generation, and all else is the same.
use Rattle.std.proofs.Common.{◌≡◌, ◌≢◌, ◌<◌, inl, inr, ℕ, arith, List, length, set, Option, Some, slice_get, slice_set, refl, sym, ap, ◌∙◌, subst}
use Rattle.std.proofs.lemmas.List.{length-set}
use Rattle.std.proofs.lemmas.Option.{slice_get_cases}
use Rattle.server_trait.specs.Tree.{Tree}
use Rattle.server_trait.proofs.TreeLaws.{one_or_not, some_same, slice_get-along}
use Rattle.server_trait.specs.declared.bench.ConfEntry.{ConfEntry}
use Rattle.server_trait.specs.declared.bench.ConfTable.{ConfTable}
use Rattle.abs_model.specs.declared.entry.Object.{Object}
use Rattle.abs_model.specs.declared.entry.Object.TheVariants.{Null, File, Dir, Link}
use Rattle.abs_model.specs.declared.entry.Attr.{Attr}
use Rattle.abs_model.specs.declared.entry.Entry.{Entry}
use Rattle.abs_model.specs.Objects.{names_of}
use Rattle.abs_model.specs.Array.{entry_at}
use Rattle.conf_map.specs.Stands.{handle_at, Holds, IsObject, IsParent, RowIs, Stands}
use Rattle.conf_map.proofs.Frames.{entry_at-some, same_entry, handle_of_row, same_handle, row_frame, placed_kept}
use Rattle.conf_map.proofs.InStep.{slice_get-set_same, slice_get-set_other}
use Rattle.conf_map.proofs.Kept.{same_parents}
use Rattle.node_changes.specs.Rows.{row_of_generation, entry_of_generation}

-- an object is that of the row at any generation
holds_again : (t : Tree) (rows : List ConfEntry) (g : ℕ) (r : ConfEntry) (o : Object) (a : Attr) → Holds t rows r o a →
    Holds t rows (row_of_generation g r) o a
holds_again t rows g r o a k = record {
  handle = k.handle;
  node = k.node;
  is_handle = k.is_handle;
  is_node = k.is_node;
  attr = record {
    number = k.attr.number;
    mode = k.attr.mode;
    uid = k.attr.uid;
    gid = k.attr.gid;
    atime = k.attr.atime;
    mtime = k.attr.mtime;
    ctime = k.attr.ctime;
  };
  content = k.content;
}

object_again : (t : Tree) (rows : List ConfEntry) (g : ℕ) (r : ConfEntry) (o : Object) → IsObject t rows r o →
    IsObject t rows (row_of_generation g r) o
object_again t rows g r Null k = k
object_again t rows g r (File a b) k = holds_again t rows g r (File a b) a k
object_again t rows g r (Dir a b) k = holds_again t rows g r (Dir a b) a k
object_again t rows g r (Link a b) k = holds_again t rows g r (Link a b) a k

module _ (table table' : ConfTable) (i g : ℕ) (below : i < length table.rows.items)
    (rows : (r : ConfEntry) → slice_get table.rows.items i ≡ Some r →
    table'.rows.items ≡ slice_set table.rows.items i (row_of_generation g r))
    (by : table'.by_handle ≡ table.by_handle) where
  row : (r : ConfEntry) × (slice_get table.rows.items i ≡ Some r)
  row = elim (slice_get_cases table.rows.items i).1 as
      (λ _. (r : ConfEntry) × (slice_get table.rows.items i ≡ Some r)) [
        | inl k ↦ (k.0, k.2)
        | inr k ↦ let past = k.0 in absurd (omega (arith, below, past))
      ]

  row_here : slice_get table'.rows.items i ≡ Some (row_of_generation g row.0)
  row_here = ap (λ l. slice_get l i) (rows row.0 row.1)
      ∙ slice_get-set_same table.rows.items i (row_of_generation g row.0) row.0 row.1

  row_other : (j : ℕ) → j ≢ i → slice_get table'.rows.items j ≡ slice_get table.rows.items j
  row_other j ne = ap (λ l. slice_get l j) (rows row.0 row.1)
      ∙ slice_get-set_other table.rows.items i j (row_of_generation g row.0) ne

  -- the handles are the same
  pub same_handles : (j : ℕ) → handle_at table'.rows.items j ≡ handle_at table.rows.items j
  same_handles j = elim (one_or_not j i) as (λ _. handle_at table'.rows.items j ≡ handle_at table.rows.items j) [
    | inl e ↦ subst (λ j. handle_at table'.rows.items j ≡ handle_at table.rows.items j) (sym e)
        (handle_of_row table'.rows.items i (row_of_generation g row.0) row_here
        ∙ sym (handle_of_row table.rows.items i row.0 row.1))
    | inr ne ↦ same_handle table.rows.items table'.rows.items j (row_other j ne)
  ]

  module _ (s : Option Tree) (A : List Entry) (st : Stands s table A) where
    abbrev e : Entry
    e = entry_at A i

    abbrev A' : List Entry
    A' = set A i (entry_of_generation g e)

    was_entry : slice_get A i ≡ Some e
    was_entry =
        let k = slice_get-along table.rows.items A i row.0 st.size row.1 in
        k.1 ∙ ap Some (sym (entry_at-some A i k.0 k.1))

    entry_here : slice_get A' i ≡ Some (entry_of_generation g e)
    entry_here = slice_get-set_same A i (entry_of_generation g e) e was_entry

    entry_other : (j : ℕ) → j ≢ i → slice_get A' j ≡ slice_get A j
    entry_other j ne = slice_get-set_other A i j (entry_of_generation g e) ne

    names_same : (p : ℕ) → names_of (entry_at A' p) ≡ names_of (entry_at A p)
    names_same p = elim (one_or_not p i) as (λ _. names_of (entry_at A' p) ≡ names_of (entry_at A p)) [
      | inl is ↦ subst (λ p. names_of (entry_at A' p) ≡ names_of (entry_at A p)) (sym is)
          (ap names_of (entry_at-some A' i (entry_of_generation g e) entry_here))
      | inr ne ↦ ap names_of (same_entry A' A p (entry_other p ne))
    ]

    frame : (j : ℕ) (r : ConfEntry) (x : Entry) → RowIs st.tree table.rows.items A j r x →
        RowIs st.tree table'.rows.items A' j r x
    frame j r x k = row_frame st.tree st.tree table.rows.items table'.rows.items r (λ h is. refl) A A' j x
        (λ name to is h at. same_handles to.index ∙ at) (λ d p. same_parents A A' names_same p j) k

    each : (j : ℕ) (r : ConfEntry) (x : Entry) → slice_get table'.rows.items j ≡ Some r → slice_get A' j ≡ Some x →
        RowIs st.tree table'.rows.items A' j r x
    each j r x at_row at_entry = elim (one_or_not j i) as (λ _. RowIs st.tree table'.rows.items A' j r x) [
      | inl is ↦
          let same_row : row_of_generation g row.0 ≡ r = some_same row_here
          (ap (slice_get table'.rows.items) (sym is) ∙ at_row) in
          let same_entry : entry_of_generation g e ≡ x = some_same entry_here (ap (slice_get A') (sym is) ∙ at_entry) in
          let k = frame i row.0 e (st.each i row.0 e row.1 was_entry) in
          let now : RowIs st.tree table'.rows.items A' i (row_of_generation g row.0) (entry_of_generation g e) =
          record {
            generation = refl;
            object = object_again st.tree table'.rows.items g row.0 e.object k.object;
            parent = k.parent;
          } in
          subst (λ j. RowIs st.tree table'.rows.items A' j r x) (sym is)
          (subst (λ r. RowIs st.tree table'.rows.items A' i r x) same_row
          (subst (RowIs st.tree table'.rows.items A' i (row_of_generation g row.0)) same_entry now))
      | inr ne ↦ frame j r x (st.each j r x (sym (row_other j ne) ∙ at_row) (sym (entry_other j ne) ∙ at_entry))
    ]

    -- they stand for the array with the generation
    pub generation_stands : Stands s table' A'
    generation_stands = record {
      tree = st.tree;
      has_tree = st.has_tree;
      placed = placed_kept st.tree st.tree table table' st.placed refl (λ q is. refl) (λ q. refl) same_handles by;
      size = ap length (rows row.0 row.1) ∙ length-set table.rows.items i (row_of_generation g row.0) ∙ st.size
          ∙ sym (length-set A i (entry_of_generation g e));
      each = each;
    }
