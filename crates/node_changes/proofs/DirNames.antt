-- A live index whose directory has other names, or whose object stays.
use Rattle.std.proofs.Common.{◌≡◌, ◌≢◌, ℕ, List, true, false, Option, Some, slice_get, refl, sym, ap, ◌∙◌, subst}
use Rattle.std.specs.FinMap.{get}
use Rattle.nfs2_types.specs.declared.Time.{Time}
use Rattle.server_trait.specs.Tree.{Tree, Node, Names, Content, BytesOf, TextOf, NamesOf, node_at, names_at, names_in, with_names}
use Rattle.server_trait.proofs.TreeLaws.{some_none, some_same, names_at-node}
use Rattle.server_trait.specs.declared.bench.ConfEntry.{ConfEntry}
use Rattle.server_trait.specs.declared.bench.ConfTable.{ConfTable}
use Rattle.abs_model.specs.declared.entry.Attr.{Attr}
use Rattle.abs_model.specs.declared.entry.Entry.{Entry}
use Rattle.abs_model.specs.declared.entry.NameRow.{NameRow}
use Rattle.abs_model.specs.declared.entry.Object.{Object}
use Rattle.abs_model.specs.declared.entry.Object.TheVariants.{Null, File, Dir, Link}
use Rattle.abs_model.specs.Objects.{is_dir, names_of, attr_of, with_attr, row_of, written_at}
use Rattle.abs_model.specs.Array.{entry_at}
use Rattle.abs_model.specs.Machine as machine
use Rattle.conf_map.specs.Stands.{handle_at, SameAttr, SameNames, IsParent, Stands}
use Rattle.conf_map.specs.Moves.{IsAt, SetsName, StaysAs}
use Rattle.conf_map.specs.Tables.{touched}
use Rattle.conf_map.proofs.Frames.{entry_at-some, timed}
use Rattle.conf_map.proofs.LiveRows.{at_handle, same_attr}
use Rattle.conf_map.proofs.Targets.{dir_map}
use Rattle.node_changes.specs.NameRows.{under}

-- a directory is its attributes and its names
pub dir_parts : (g : ℕ) (o : Object) → is_dir (record { generation = g; object = o }) ≡ true →
    o ≡ Dir (attr_of (record { generation = g; object = o })) (names_of (record { generation = g; object = o }))
dir_parts g Null is = absurd (let bad : false ≡ true = is in cc)
dir_parts g (File a b) is = absurd (let bad : false ≡ true = is in cc)
dir_parts g (Dir a b) is = refl
dir_parts g (Link a b) is = absurd (let bad : false ≡ true = is in cc)

-- a change of a directory's map of names, whether the map is known or not
pub names_mapped : (c : Content) (m : Names) (f : Names → Names) (n : Node) → n.content ≡ c → names_in c ≡ Some m →
    with_names f n ≡ with_names (λ _. f m) n
names_mapped (BytesOf b) m f n same is = absurd (some_none is refl)
names_mapped (TextOf b) m f n same is = absurd (some_none is refl)
names_mapped (NamesOf k) m f n same is =
    let e : k ≡ m = some_same refl is ∙ some_same is refl ∙ some_same refl is in
    ap (λ c. with_names f (record n { content = c })) same
    ∙ ap (λ k. let new : Node = record n { content = NamesOf (f k) } in new) e
    ∙ sym (ap (λ c. with_names (λ _. f m) (record n { content = c })) same)

-- attributes with the times of a row that has the same
same_times : (a : Attr) (r : ConfEntry) (n : Node) → SameAttr a r n →
    a ≡ record a { atime = r.atime; mtime = r.mtime; ctime = r.ctime }
same_times a r n k =
    ap (λ x. record a { atime = x }) (sym k.atime)
    ∙ ap (λ x. record a { atime = r.atime; mtime = x }) (sym k.mtime)
    ∙ ap (λ x. record a { atime = r.atime; mtime = r.mtime; ctime = x }) (sym k.ctime)

abbrev entry_of : ℕ → Object → Entry
entry_of g o = record { generation = g; object = o }

-- an entry with the times of its row is itself
timed_itself : (g : ℕ) (o : Object) (r : ConfEntry) (n : Node) → SameAttr (attr_of (entry_of g o)) r n →
    entry_of g o ≡ with_attr (timed r (attr_of (entry_of g o))) (entry_of g o)
timed_itself g Null r n k = refl
timed_itself g (File a b) r n k = ap (λ a. entry_of g (File a b)) (same_times a r n k)
timed_itself g (Dir a b) r n k = ap (λ a. entry_of g (Dir a b)) (same_times a r n k)
timed_itself g (Link a b) r n k = ap (λ a. entry_of g (Link a b)) (same_times a r n k)

module _ (s : Option Tree) (table : ConfTable) (A : List Entry) (st : Stands s table A) (d : ℕ) (h : List ℕ)
    (live : handle_at table.rows.items d ≡ Some h) where
  -- the row, the node and the entry of a live index
  pub found : (r : ConfEntry) × (n : Node) × IsAt st.tree table A d h r n (entry_at A d)
  found =
      let k = at_handle s table A st d h live in
      (k.0, k.1, subst (IsAt st.tree table A d h k.0 k.1) (sym (entry_at-some A d k.2 k.3.is_entry)) k.3)

  -- the names of a directory
  pub map_of : is_dir (entry_at A d) ≡ true →
      (m : Names) × (names_at st.tree h ≡ Some m) × SameNames table.rows.items (names_of (entry_at A d)) m
  map_of is_d = dir_map s table A st d h found.0 found.1 (entry_at A d) found.2 is_d

  pub map_in : (is_d : is_dir (entry_at A d) ≡ true) → names_in found.1.content ≡ Some (map_of is_d).0
  map_in is_d = sym (names_at-node st.tree h found.1 found.2.is_node) ∙ (map_of is_d).1

  -- a directory is written, and one of its names leads elsewhere
  module _ (is_d : is_dir (entry_at A d) ≡ true) (name : List ℕ) (to : Option (List ℕ)) (to_row : Option NameRow)
      (f : Names → Names) (names : List NameRow) (time : Time) (t' : Tree) (table' : ConfTable) (A' : List Entry)
      (node_now : (n : Node) → node_at st.tree h ≡ Some n → node_at t' h ≡ Some (with_names f n))
      (row_now : (r : ConfEntry) → slice_get table.rows.items d ≡ Some r →
      slice_get table'.rows.items d ≡ Some (touched time r))
      (entry_now : slice_get A' d ≡ Some (machine.with_names (λ _. names) time (entry_at A d)))
      (name_now : (m : Names) → get (f m) name ≡ to)
      (names_now : (m : Names) (x : List ℕ) → x ≢ name → get (f m) x ≡ get m x)
      (row_to : row_of name names ≡ to_row)
      (rows_to : (x : List ℕ) → x ≢ name → row_of x names ≡ row_of x (names_of (entry_at A d))) where
    abbrev pub sets_name : SetsName st.tree table A d name to to_row t' table' A'
    sets_name =
        let e = entry_at A d in
        let m = (map_of is_d).0 in
        let old = same_attr s table A st d h found.0 found.1 (entry_at A d) found.2 in
        record {
          handle = h;
          row = found.0;
          row' = touched time found.0;
          node = found.1;
          generation = e.generation;
          attr = attr_of e;
          attr' = written_at time (attr_of e);
          names = names_of e;
          names' = names;
          node_names = m;
          node_names' = f m;
          before = subst (λ o. IsAt st.tree table A d h found.0 found.1
              (record { generation = (entry_at A d).generation; object = o }))
              (dir_parts (entry_at A d).generation (entry_at A d).object is_d) found.2;
          is_dir = map_in is_d;
          node_now = node_now found.1 found.2.is_node ∙ ap Some
              (names_mapped found.1.content (map_of is_d).0 f found.1 refl (map_in is_d));
          name_now = name_now (map_of is_d).0;
          names_now = names_now (map_of is_d).0;
          row_now = row_now found.0 found.2.is_row;
          same_row = record { generation = refl; handle = refl; number = refl };
          parent = refl;
          entry_now = entry_now;
          row_to = row_to;
          rows_to = rows_to;
          times = record {
            number = old.number;
            mode = old.mode;
            uid = old.uid;
            gid = old.gid;
            atime = old.atime;
            mtime = refl;
            ctime = refl;
          };
        }

  -- an object that stays, maybe under another parent
  pub stays_as : (p : ℕ) (t' : Tree) (table' : ConfTable) (A' : List Entry) →
      ((r : ConfEntry) → slice_get table.rows.items d ≡ Some r → slice_get table'.rows.items d ≡ Some (under p r)) →
      slice_get A' d ≡ slice_get A d → (is_dir (entry_at A d) ≡ true → IsParent A' p d) →
      StaysAs st.tree table A d h t' table' A'
  stays_as p t' table' A' row_now same parent = record {
    row = found.0;
    row' = under p found.0;
    node = found.1;
    entry = entry_at A d;
    entry' = entry_at A d;
    before = found.2;
    row_now = row_now found.0 found.2.is_row;
    same_row = record { generation = refl; handle = refl; number = refl };
    entry_now = same ∙ found.2.is_entry;
    entry_is = timed_itself (entry_at A d).generation (entry_at A d).object found.0 found.1
        (same_attr s table A st d h found.0 found.1 (entry_at A d) found.2);
    parent = parent;
  }
