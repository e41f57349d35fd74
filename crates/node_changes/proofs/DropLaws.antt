-- A name is taken out, and its object stays: server and table stand for the array without the name.
use Rattle.std.proofs.Common.{◌≡◌, ◌≢◌, inl, inr, ℕ, ◌≤◌, arith, false, List, [], ◌∷◌, Option, Some, None, slice_get, refl, sym, ap, ◌∙◌, subst}
use Rattle.std.specs.Prelude.{nat_le, if◌then◌else◌}
use Rattle.std.specs.FinMap.{remove}
use Rattle.std.proofs.lemmas.Bool.{leb-false, cases_Bool}
use Rattle.nfs2_types.specs.declared.Time.{Time}
use Rattle.server_trait.specs.Tree.{Tree, Server, Node, node_at, target, with_names, unnamed}
use Rattle.server_trait.specs.Tree as tree
use Rattle.server_trait.specs.Calls.{Removed}
use Rattle.server_trait.specs.declared.bench.ConfEntry.{ConfEntry}
use Rattle.server_trait.specs.declared.bench.ConfTable.{ConfTable}
use Rattle.server_trait.proofs.TreeLaws.{some_same, get-remove_same, get-remove_other}
use Rattle.abs_model.specs.declared.entry.Entry.{Entry}
use Rattle.abs_model.specs.Objects.{is_dir, names_of, attr_of, row_of, without, with_attr, changed_at, nulled}
use Rattle.abs_model.specs.Array.{entry_at, links, changed}
use Rattle.abs_model.specs.Machine.{to_be}
use Rattle.abs_model.specs.Machine as machine
use Rattle.abs_model.proofs.Facts.{HasRow}
use Rattle.abs_model.proofs.RowLists.{row_of-without_same}
use Rattle.conf_map.specs.Moves.{DropsName}
use Rattle.conf_map.specs.Stands.{handle_at, Stands}
use Rattle.conf_map.specs.Tables.{touched}
use Rattle.conf_map.specs.declared.table.Located.{Located}
use Rattle.conf_map.proofs.SetNames.{stands_dropped}
use Rattle.node_changes.specs.Drops.{drops, CanDrop}
use Rattle.node_changes.specs.NameRows.{changed_row, ChangesRow}
use Rattle.node_changes.proofs.DropFacts.{row, to_index, apart, at_dir, at_old, not_root, target_is, links_are}
use Rattle.node_changes.proofs.NameListLaws.{row_of-dropped}
use Rattle.node_changes.proofs.NameSets.{NameSet, name_set, stays_changed}
use Rattle.node_changes.proofs.TreeDrops.{node_stays, removed_is, dir_stays, others_stay, root_stays}
use Rattle.node_changes.proofs.TwoSet.{IsSetTwice, set_twice, handles_stay}

module _ (s : Server) (table : ConfTable) (A : List Entry) (name : List ℕ) (dir o : Located)
    (c : CanDrop s table A name dir o) where
  abbrev d : ℕ
  d = dir.index

  abbrev i : ℕ
  i = o.index

  abbrev dh : List ℕ
  dh = dir.handle

  abbrev h : List ℕ
  h = o.handle

  abbrev t : Tree
  t = c.stands.tree

  abbrev t1 : Tree
  t1 = unnamed t dh name

  abbrev rd : ConfEntry
  rd = (at_dir s table A name dir o c).0

  abbrev ri : ConfEntry
  ri = (at_old s table A name dir o c).0

  dir_entry : slice_get A d ≡ Some (entry_at A d)
  dir_entry = (at_dir s table A name dir o c).2.is_entry

  old_entry : slice_get A i ≡ Some (entry_at A i)
  old_entry = (at_old s table A name dir o c).2.is_entry

  abbrev dir_row : slice_get table.rows.items d ≡ Some rd
  dir_row = (at_dir s table A name dir o c).2.is_row

  abbrev old_row : slice_get table.rows.items i ≡ Some ri
  old_row = (at_old s table A name dir o c).2.is_row

  leads : target t dh name ≡ Some h
  leads = target_is s table A name dir o c

  same_links : tree.links t h ≡ links A i
  same_links = links_are s table A name dir o c

  abbrev named_row : HasRow A d name
  named_row = row s table A name dir o c

  index_is : named_row.row.index ≡ i
  index_is = to_index s table A name dir o c

  two : d ≢ i
  two = apart s table A name dir o c

  module _ (time : Time) where
    abbrev ed : Entry
    ed = machine.with_names (without name) time (entry_at A d)

    -- the directory without the name, and another entry in place of the object's
    abbrev pub array : Entry → List Entry
    array ei = changed (to_be d ed ∷ to_be i ei ∷ []) A

    pub entries : (ei : Entry) → IsSetTwice d i ed ei A (array ei)
    entries ei = set_twice d i (entry_at A d) (entry_at A i) ed ei A (array ei) two
        dir_entry old_entry refl

    module _ (table' : ConfTable) (t' : Tree) (ei : Entry) (u : ConfEntry)
        (rows : IsSetTwice d i (touched time rd) u table.rows.items table'.rows.items)
        (node_now : (n : Node) → node_at t dh ≡ Some n →
        node_at t' dh ≡ Some (with_names (λ m. remove m name) n)) where
      pub in_dir : NameSet t table A d dh name None None t' table' (array ei)
      in_dir = name_set s.tree table A c.stands d dh c.live c.is_dir name None None (λ m. remove m name) (without name)
          time t' table' (array ei) node_now (λ m. get-remove_same m name) (λ m x ne. get-remove_other m name x ne)
          (λ r at. rows.first ∙ ap (λ r. Some (touched time r)) (some_same dir_row at))
          (entries ei).first (row_of-without_same name (names_of (entry_at A d)))
          (row_of-dropped name (names_of (entry_at A d)))

    -- THE OBJECT STAYS

    abbrev en : Entry
    en = nulled (entry_at A i)

    abbrev ec : Entry
    ec = with_attr (changed_at time (attr_of (entry_at A i))) (entry_at A i)

    module _ (table' : ConfTable) (changes : ChangesRow table table' d i time) where
      changed_rows : IsSetTwice d i (touched time rd) (changed_row time ri) table.rows.items table'.rows.items
      changed_rows = set_twice d i rd ri (touched time rd) (changed_row time ri) table.rows.items table'.rows.items two
          dir_row old_row (changes.rows rd ri dir_row old_row)

      -- all rows keep their handles but the object's
      pub handles_more : (j : ℕ) → j ≢ i → handle_at table'.rows.items j ≡ handle_at table.rows.items j
      handles_more = handles_stay d i rd (touched time rd) (changed_row time ri) table.rows.items table'.rows.items
          changed_rows dir_row refl

      module _ (many : 2 ≤ links A i) where
        no_dir : is_dir (entry_at A i) ≡ false
        no_dir = elim (cases_Bool (is_dir (entry_at A i))) [
          | inl is ↦ absurd (let one = c.valid.one_name i is (not_root s table A name dir o c) in
              omega (arith, one, many))
          | inr other ↦ other
        ]

        in_dir_kept : NameSet t table A d dh name None None t1 table' (array ec)
        in_dir_kept = in_dir table' t1 ec (changed_row time ri) changed_rows
            (dir_stays t dh name h leads)

        drops_name : DropsName t table A d name i t1 table' (array ec)
        drops_name = record {
          handle = h;
          old_row = named_row.row;
          in_dir = in_dir_kept.sets;
          was = ap (row_of name) in_dir_kept.names ∙ named_row.found;
          was_index = index_is;
          object = stays_changed s.tree table A c.stands i h c.led.live no_dir time t1 table' (array ec)
              (λ r at. changed_rows.second ∙ ap (λ r. Some (changed_row time r)) (some_same old_row at))
              (entries ec).second;
          apart = two;
          root = root_stays t dh name h leads;
          nodes = λ q ne. others_stay t dh name h leads q
              (λ e. ne (e ∙ sym in_dir_kept.handle));
          rows = changed_rows.stay;
          by_handle = changes.by_handle;
          array = (entries ec).stay;
        }

        kept_stands : (s' : Option Tree) → Removed t dh name s' → Stands s' table' (array ec)
        kept_stands s' removed = stands_dropped s.tree s' table table' A (array ec) t1 d i name c.stands drops_name
            (removed_is t dh name h leads s' removed
            ∙ ap Some (node_stays t dh name h leads
            (let same = same_links in omega (arith, same, many))))

    -- server and table stand for the array without the name
    pub stands_more : (table' : ConfTable) → ChangesRow table table' d i time → (s1 s' : Option Tree) → s1 ≡ s.tree →
        ((t : Tree) → s1 ≡ Some t → Removed t dh name s') → nat_le (links A i) 1 ≡ false →
        Stands s' table' (changed (drops A d name i time) A)
    stands_more table' changes s1 s' same removed more =
        subst (λ e. Stands s' table' (array e)) (sym (ap (λ b. if b then en else ec) more))
        (kept_stands table' changes (let many = leb-false (links A i) 1 more in omega (arith, many)) s'
        (removed t (same ∙ c.stands.has_tree)))
