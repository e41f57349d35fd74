-- A live file gets other bytes, and is written at a moment.
use Rattle.std.proofs.Common.{◌≡◌, ℕ, true, false, List, [], set, Option, Some, slice_get, slice_set, refl, sym, ap, ◌∙◌, subst}
use Rattle.nfs2_types.specs.declared.Time.{Time}
use Rattle.server_trait.specs.Tree.{Tree, Node, BytesOf, node_at, edited}
use Rattle.server_trait.specs.Tree as tree
use Rattle.server_trait.proofs.TreeLaws.{some_same}
use Rattle.server_trait.specs.declared.bench.ConfEntry.{ConfEntry}
use Rattle.server_trait.specs.declared.bench.ConfTable.{ConfTable}
use Rattle.abs_model.specs.declared.entry.Object.{Object}
use Rattle.abs_model.specs.declared.entry.Object.TheVariants.{Null, File, Dir, Link}
use Rattle.abs_model.specs.declared.entry.Entry.{Entry}
use Rattle.abs_model.specs.Objects.{is_file, attr_of, bytes_of, names_of, is_dir}
use Rattle.abs_model.specs.Array.{entry_at}
use Rattle.abs_model.specs.Machine.{with_bytes}
use Rattle.conf_map.specs.Stands.{handle_at, SameContent, Stands}
use Rattle.conf_map.specs.Moves.{IsAt}
use Rattle.conf_map.specs.Tables.{touched}
use Rattle.conf_map.proofs.Frames.{entry_at-some}
use Rattle.conf_map.proofs.LiveRows.{at_handle, same_content}
use Rattle.conf_map.proofs.ObjectChanges.{ChangesAlike, stands_alike}

-- a file is its attributes and its bytes
pub file_parts : (g : ℕ) (o : Object) → is_file (record { generation = g; object = o }) ≡ true →
    o ≡ File (attr_of (record { generation = g; object = o })) (bytes_of (record { generation = g; object = o }))
file_parts g Null is = absurd (let bad : false ≡ true = is in cc)
file_parts g (File a b) is = refl
file_parts g (Dir a b) is = absurd (let bad : false ≡ true = is in cc)
file_parts g (Link a b) is = absurd (let bad : false ≡ true = is in cc)

-- and no directory
pub file_no_dir : (g : ℕ) (o : Object) → is_file (record { generation = g; object = o }) ≡ true →
    is_dir (record { generation = g; object = o }) ≡ false
file_no_dir g Null is = refl
file_no_dir g (File a b) is = refl
file_no_dir g (Dir a b) is = absurd (let bad : false ≡ true = is in cc)
file_no_dir g (Link a b) is = refl

file_names : (g : ℕ) (o : Object) → is_file (record { generation = g; object = o }) ≡ true →
    names_of (record { generation = g; object = File (attr_of (record { generation = g; object = o })) [] }) ≡
    names_of (record { generation = g; object = o })
file_names g Null is = refl
file_names g (File a b) is = refl
file_names g (Dir a b) is = absurd (let bad : false ≡ true = is in cc)
file_names g (Link a b) is = refl

module _ (s : Option Tree) (table : ConfTable) (A : List Entry) (st : Stands s table A) (i : ℕ) (h : List ℕ)
    (live : handle_at table.rows.items i ≡ Some h) (file : is_file (entry_at A i) ≡ true) where
  abbrev e : Entry
  e = entry_at A i

  at_file : (r : ConfEntry) × (n : Node) × IsAt st.tree table A i h r n e
  at_file =
      let k = at_handle s table A st i h live in
      (k.0, k.1, subst (IsAt st.tree table A i h k.0 k.1) (sym (entry_at-some A i k.2 k.3.is_entry)) k.3)

  content : at_file.1.content ≡ BytesOf (bytes_of e)
  content = subst (λ o. SameContent table.rows.items o at_file.1.content) (file_parts e.generation e.object file)
      (same_content s table A st i h at_file.0 at_file.1 e at_file.2)

  -- the node of a file has its bytes
  pub file_node : (n : Node) × (node_at st.tree h ≡ Some n) × (n.content ≡ BytesOf (bytes_of e))
  file_node = (at_file.1, at_file.2.is_node, content)

  module _ (s' : Option Tree) (table' : ConfTable) (f : List ℕ → List ℕ) (t : Time)
      (has : s' ≡ Some (edited st.tree h (tree.with_bytes f)))
      (rows : (r : ConfEntry) → slice_get table.rows.items i ≡ Some r →
      table'.rows.items ≡ slice_set table.rows.items i (touched t r)) (by_handle : table'.by_handle ≡ table.by_handle)
    where
      alike : ChangesAlike table.rows.items e (with_bytes f t e) (tree.with_bytes f) (touched t)
      alike = record {
        number = λ _. refl;
        same_row = λ _. record { generation = refl; handle = refl; number = refl };
        parent = λ _. refl;
        generation = refl;
        names = file_names e.generation e.object file;
        dir = sym (file_no_dir e.generation e.object file);
        live = refl;
        attr = λ r n k. record {
          number = k.number;
          mode = k.mode;
          uid = k.uid;
          gid = k.gid;
          atime = k.atime;
          mtime = refl;
          ctime = refl;
        };
        content = λ n k. ap (λ c. (tree.with_bytes f (record n { content = c })).content)
            (subst (λ o. SameContent table.rows.items o n.content) (file_parts e.generation e.object file) k);
      }

      -- they stand for the array with the other bytes
      pub stands_resized : Stands s' table' (set A i (with_bytes f t (entry_at A i)))
      stands_resized = stands_alike s table A st i h live s' table' (with_bytes f t e) (tree.with_bytes f)
          (touched t) alike
          (λ u is. has ∙ ap (λ x. Some (edited x h (tree.with_bytes f))) (some_same st.has_tree is)) rows by_handle
