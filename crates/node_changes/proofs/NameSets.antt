-- A directory's list of names that changes, and an object whose names change: on the server, in the table, in the
-- array.
use Rattle.std.proofs.Common.{◌≡◌, ◌≢◌, ℕ, true, false, List, Option, Some, slice_get, refl, sym, ap, ◌∙◌, subst}
use Rattle.std.specs.FinMap.{get}
use Rattle.std.proofs.lemmas.Bool.{true≢false}
use Rattle.nfs2_types.specs.declared.Time.{Time}
use Rattle.server_trait.specs.Tree.{Tree, Node, Names, node_at, names_in, with_names}
use Rattle.server_trait.proofs.TreeLaws.{names_at-node}
use Rattle.server_trait.specs.declared.bench.ConfEntry.{ConfEntry}
use Rattle.server_trait.specs.declared.bench.ConfTable.{ConfTable}
use Rattle.abs_model.specs.declared.entry.NameRow.{NameRow}
use Rattle.abs_model.specs.declared.entry.Entry.{Entry}
use Rattle.abs_model.specs.Objects.{is_dir, names_of, attr_of, row_of, with_attr, written_at, changed_at}
use Rattle.abs_model.specs.Array.{entry_at}
use Rattle.abs_model.specs.Machine as machine
use Rattle.conf_map.specs.Stands.{handle_at, Stands}
use Rattle.conf_map.specs.Moves.{IsAt, SetsName, StaysAs}
use Rattle.conf_map.specs.Tables.{touched}
use Rattle.conf_map.proofs.LiveRows.{same_attr}
use Rattle.conf_map.proofs.ObjectChanges.{at_index}
use Rattle.conf_map.proofs.Targets.{dir_map}
use Rattle.node_changes.proofs.KindLaws.{dir_parts}
use Rattle.node_changes.specs.NameRows.{changed_row}
use Rattle.node_changes.proofs.NameListLaws.{names_by}

-- a name that leads to another handle, or to none, with what it is set in
pub record NameSet (t : Tree) (table : ConfTable) (A : List Entry) (d : ℕ) (dh name : List ℕ)
    (to : Option (List ℕ)) (to_row : Option NameRow) (t' : Tree) (table' : ConfTable) (A' : List Entry) : Type 0 where
  pub sets : SetsName t table A d name to to_row t' table' A'
  pub handle : sets.handle ≡ dh
  pub names : sets.names ≡ names_of (entry_at A d)

module _ (s : Option Tree) (table : ConfTable) (A : List Entry) (st : Stands s table A) where
  -- a directory is written, and its names change
  pub name_set : (d : ℕ) (dh : List ℕ) (live : handle_at table.rows.items d ≡ Some dh)
      (dir : is_dir (entry_at A d) ≡ true) (name : List ℕ) (to : Option (List ℕ)) (to_row : Option NameRow)
      (f : Names → Names) (g : List NameRow → List NameRow) (time : Time)
      (t' : Tree) (table' : ConfTable) (A' : List Entry) →
      ((n : Node) → node_at st.tree dh ≡ Some n → node_at t' dh ≡ Some (with_names f n)) →
      ((m : Names) → get (f m) name ≡ to) → ((m : Names) (x : List ℕ) → x ≢ name → get (f m) x ≡ get m x) →
      ((r : ConfEntry) → slice_get table.rows.items d ≡ Some r →
      slice_get table'.rows.items d ≡ Some (touched time r)) →
      slice_get A' d ≡ Some (machine.with_names g time (entry_at A d)) →
      row_of name (g (names_of (entry_at A d))) ≡ to_row →
      ((x : List ℕ) → x ≢ name →
      row_of x (g (names_of (entry_at A d))) ≡ row_of x (names_of (entry_at A d))) →
      NameSet st.tree table A d dh name to to_row t' table' A'
  name_set d dh live dir name to to_row f g time t' table' A' node_now f_name f_other row_now entry_now g_name g_other =
      let e : Entry = entry_at A d in
      let k = at_index s table A st d dh live in
      let m = dir_map s table A st d dh k.0 k.1 e k.2 dir in
      let is_names : names_in k.1.content ≡ Some m.0 = sym (names_at-node st.tree dh k.1 k.2.is_node) ∙ m.1 in
      let old = same_attr s table A st d dh k.0 k.1 e k.2 in
      record {
        sets = record {
          handle = dh;
          row = k.0;
          row' = touched time k.0;
          node = k.1;
          generation = e.generation;
          attr = attr_of e;
          attr' = written_at time (attr_of e);
          names = names_of e;
          names' = g (names_of e);
          node_names = m.0;
          node_names' = f m.0;
          before = subst (λ o. IsAt st.tree table A d dh k.0 k.1 (record { generation = e.generation; object = o }))
              (dir_parts e.generation e.object dir) k.2;
          is_dir = is_names;
          node_now = node_now k.1 k.2.is_node ∙ ap Some (names_by f k.1.content m.0 k.1 refl is_names);
          name_now = f_name m.0;
          names_now = f_other m.0;
          row_now = row_now k.0 k.2.is_row;
          same_row = record { generation = refl; handle = refl; number = refl };
          parent = refl;
          entry_now = entry_now;
          row_to = g_name;
          rows_to = g_other;
          times = record {
            number = old.number;
            mode = old.mode;
            uid = old.uid;
            gid = old.gid;
            atime = old.atime;
            mtime = refl;
            ctime = refl;
          };
        };
        handle = refl;
        names = refl;
      }

  -- a file or a link is changed
  pub stays_changed : (i : ℕ) (h : List ℕ) (live : handle_at table.rows.items i ≡ Some h) →
      is_dir (entry_at A i) ≡ false → (time : Time) (t' : Tree) (table' : ConfTable) (A' : List Entry) →
      ((r : ConfEntry) → slice_get table.rows.items i ≡ Some r →
      slice_get table'.rows.items i ≡ Some (changed_row time r)) →
      slice_get A' i ≡ Some (with_attr (changed_at time (attr_of (entry_at A i))) (entry_at A i)) →
      StaysAs st.tree table A i h t' table' A'
  stays_changed i h live no_dir time t' table' A' row_now entry_now =
      let e : Entry = entry_at A i in
      let k = at_index s table A st i h live in
      let old = same_attr s table A st i h k.0 k.1 e k.2 in
      record {
        row = k.0;
        row' = changed_row time k.0;
        node = k.1;
        entry = e;
        entry' = with_attr (changed_at time (attr_of e)) e;
        before = k.2;
        row_now = row_now k.0 k.2.is_row;
        same_row = record { generation = refl; handle = refl; number = refl };
        entry_now = entry_now;
        entry_is = sym (
            ap (λ x. with_attr (record (attr_of e) { atime = x; mtime = k.0.mtime; ctime = time }) e) old.atime
            ∙ ap (λ x. with_attr (record (attr_of e) { mtime = x; ctime = time }) e) old.mtime);
        parent = λ is. absurd (true≢false (sym is ∙ no_dir));
      }
