-- A file gets its bytes.
use Rattle.std.proofs.Common.{◌≡◌, ℕ, List, Some, slice_get, refl, sym, ap, ◌∙◌}
use Rattle.std.proofs.lemmas.List.{length-set}
use Rattle.std.specs.Prelude.{set}
use Rattle.server_trait.specs.Tree.{Tree, Content, BytesOf, node_at, with_bytes, edited}
use Rattle.server_trait.proofs.TreeLaws.{some_same, root-edited, node_at-edited_same, node_at-edited_other, slice_get-along}
use Rattle.server_trait.specs.declared.bench.ConfEntry.{ConfEntry}
use Rattle.server_trait.specs.declared.bench.ConfTable.{ConfTable}
use Rattle.abs_model.specs.declared.entry.Attr.{Attr}
use Rattle.abs_model.specs.declared.entry.NameRow.{NameRow}
use Rattle.abs_model.specs.declared.entry.Object.TheVariants.{File}
use Rattle.abs_model.specs.declared.entry.Entry.{Entry}
use Rattle.conf_map.specs.Stands.{handle_at}
use Rattle.conf_map.proofs.Frames.{handle_of_row}
use Rattle.conf_map.proofs.InStep.{slice_get-set_same, slice_get-set_other}
use Rattle.staging.specs.Staged.{Staged}
use Rattle.staging.proofs.NameSteps.{staged_filled}

module _ (t : Tree) (area : List ℕ) (table : ConfTable) (A : List Entry) (S : List NameRow) (st : Staged t area table A S) (i : ℕ) (h : List ℕ) (at_i : handle_at table.rows.items i ≡ Some h)
    (g : ℕ) (attr : Attr) (old new : List ℕ) (is_entry : slice_get A i ≡ Some (record { generation = g; object = File attr old })) (f : List ℕ → List ℕ) (puts : f old ≡ new) where
  abbrev entry' : Entry
  entry' = record { generation = g; object = File attr new }

  abbrev t' : Tree
  t' = edited t h (with_bytes f)

  row_there : (r : ConfEntry) × (slice_get table.rows.items i ≡ Some r)
  row_there = let r = slice_get-along A table.rows.items i (record { generation = g; object = File attr old }) (sym st.size) is_entry in (r.0, r.1)

  -- what is put into a file stands in its entry
  pub bytes_put : Staged t' area table (set A i entry') S
  bytes_put =
      let k = st.each i row_there.0 (record { generation = g; object = File attr old }) row_there.1 is_entry in
      let o = k.object in
      let same : o.handle ≡ h = some_same o.is_handle (sym (handle_of_row table.rows.items i row_there.0 row_there.1) ∙ at_i) in
      let is_node : node_at t h ≡ Some o.node = ap (node_at t) (sym same) ∙ o.is_node in
      let now = node_at-edited_same t h (with_bytes f) o.node is_node in
      staged_filled t t' area table table A (set A i entry') S i st (record {
        handle = h;
        row = row_there.0;
        row' = row_there.0;
        node = o.node;
        node' = with_bytes f o.node;
        entry' = entry';
        is_row = row_there.1;
        is_handle = o.is_handle ∙ ap Some same;
        is_node = is_node;
        root = root-edited t h (with_bytes f);
        node_now = now;
        nodes = λ q ne. node_at-edited_other t h (with_bytes f) q ne;
        number = refl;
        rows = record { size = refl; here = row_there.1; others = λ j _. refl };
        same_handle = refl;
        in_step = st.sited.in_step;
        array = record {
          size = length-set A i entry';
          here = slice_get-set_same A i entry' (record { generation = g; object = File attr old }) is_entry;
          others = λ j ne. slice_get-set_other A i j entry' ne;
        };
        generation = k.generation;
        object = record {
          handle = h;
          node = with_bytes f o.node;
          is_handle = o.is_handle ∙ ap Some same;
          is_node = now;
          attr = record { number = o.attr.number; mode = o.attr.mode; uid = o.attr.uid; gid = o.attr.gid; atime = o.attr.atime; mtime = o.attr.mtime; ctime = o.attr.ctime };
          content = ap (λ (c : Content). (with_bytes f (record o.node { content = c })).content) o.content ∙ ap BytesOf puts;
        };
      })
