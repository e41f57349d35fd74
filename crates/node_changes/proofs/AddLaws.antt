-- A new object: what it asks of server and table, and that they stand for the array which has it.
use Rattle.std.proofs.Common.{◌≡◌, ◌≢◌, inl, inr, ℕ, ◌+◌, ◌^◌, ◌<◌, arith, List, [], length, set, Option, Some, None, IsSomeAnd, slice_get, slice_set, refl, sym, ap, ◌∙◌, subst}
use Rattle.std.specs.Ordering.{nat_cmp}
use Rattle.std.specs.Cmp.Lexicographic.{slice_cmp}
use Rattle.std.specs.FinMap.{insert, len, get-empty}
use Rattle.std.specs.Option.{option_and_then}
use Rattle.std.proofs.lemmas.Option.{slice_get_within}
use Rattle.std.proofs.lemmas.List.{length-set}
use Rattle.nfs2_types.specs.declared.Time.{Time}
use Rattle.server_trait.specs.Tree.{Tree, Server, Node, Names, node_at, names_at, names_in}
use Rattle.server_trait.specs.Tree as trees
use Rattle.server_trait.specs.Step.{LacksName}
use Rattle.server_trait.proofs.TreeLaws.{some_and, is_some_and, some_none, some_same, one_or_not, slice_get-along, names_at-node, get-insert_same, get-insert_other}
use Rattle.server_trait.specs.declared.bench.ConfEntry.{ConfEntry}
use Rattle.server_trait.specs.declared.bench.ConfTable.{ConfTable}
use Rattle.abs_model.specs.declared.entry.Attr.{Attr}
use Rattle.abs_model.specs.declared.entry.NameRow.{NameRow}
use Rattle.abs_model.specs.declared.entry.Entry.{Entry}
use Rattle.abs_model.specs.Objects.{names_of, attr_of, row_of, placed, written_at}
use Rattle.abs_model.specs.Array.{entry_at, used}
use Rattle.abs_model.specs.Machine.{row_to}
use Rattle.abs_model.specs.Machine as machine
use Rattle.abs_model.proofs.Facts.{no_row}
use Rattle.conf_map.specs.Fresh as fresh
use Rattle.conf_map.specs.Stands.{handle_at, SameAttr, Leads, SameNames, IsObject, HasRoom, Stands}
use Rattle.conf_map.specs.Moves.{IsAt, SetsName, MakesNode}
use Rattle.conf_map.specs.Tables.{index_in, touched, IsUnshared}
use Rattle.conf_map.specs.Tallied.{Tallied}
use Rattle.conf_map.proofs.Agrees.{used_agrees, nodes_fewer}
use Rattle.conf_map.proofs.ArrayFacts.{within_at}
use Rattle.conf_map.proofs.Frames.{entry_at-some, handle_of_row, handle_node}
use Rattle.conf_map.proofs.InStep.{slice_get-set_same, slice_get-set_other}
use Rattle.conf_map.proofs.LiveRows.{at_handle, same_attr}
use Rattle.conf_map.proofs.Made.{null_handle, stands_made}
use Rattle.conf_map.proofs.PlacedRows.{row_of-placed_same, row_of-placed_other}
use Rattle.conf_map.proofs.Targets.{dir_map, lacks_agrees}
use Rattle.node_changes.specs.declared.add.Place.{Place}
use Rattle.node_changes.specs.News.{HasRoomFor, IsMade, CanAdd, IsAdded, AddsRow, node_with, entry_of, with_new}
use Rattle.node_changes.specs.Tallies.{CanShift, ShiftsTally}
use Rattle.node_changes.proofs.TalliedArrays.{add_moves}
use Rattle.node_changes.proofs.TallyLaws.{can_shift}
use Rattle.node_changes.proofs.UsedLaws.{used_null, used_new}
use Rattle.node_changes.proofs.KindLaws.{null_object, dir_parts, names_named}
use Rattle.node_changes.specs.Objects.{New, new_dir, new_file, new_link, byte_count, object_of, content_of}

-- THE NODE OF A NEW OBJECT

is_object : (new : New) (t : Tree) (rows : List ConfEntry) (r : ConfEntry) (attr : Attr) (h : List ℕ) (n : Node) →
    r.handle ≡ Some h → node_at t h ≡ Some n → SameAttr attr r n →
    n.content ≡ content_of new → IsObject t rows r (object_of new attr)
is_object new_dir t rows r attr h n handle at same content = record {
  handle = h;
  node = n;
  is_handle = handle;
  is_node = at;
  attr = same;
  content = is_some_and (SameNames rows []) (ap names_in content)
      (λ x. subst (λ o. Leads rows o None) (sym (get-empty (slice_cmp nat_cmp) x)) tt);
}
is_object (new_file size) t rows r attr h n handle at same content =
    record { handle = h; node = n; is_handle = handle; is_node = at; attr = same; content = content }
is_object (new_link text) t rows r attr h n handle at same content =
    record { handle = h; node = n; is_handle = handle; is_node = at; attr = same; content = content }

-- WHAT A NEW OBJECT ASKS

module _ (s : Server) (table : ConfTable) (A : List Entry) (name : List ℕ) (new : New) (p : Place)
    (c : CanAdd s table A name new p) where
  abbrev d : ℕ
  d = p.dir.index

  abbrev i : ℕ
  i = p.index

  abbrev dh : List ℕ
  dh = p.dir.handle

  abbrev t : Tree
  t = c.stands.tree

  abbrev e : Entry
  e = entry_at A d

  at_dir : (r : ConfEntry) × (n : Node) × IsAt t table A d dh r n e
  at_dir = let k = at_handle s.tree table A c.stands d dh c.live in
      (k.0, k.1, subst (IsAt t table A d dh k.0 k.1) (sym (entry_at-some A d k.2 k.3.is_entry)) k.3)

  abbrev rd : ConfEntry
  rd = at_dir.0

  abbrev nd : Node
  nd = at_dir.1

  lacks : row_of name (names_of e) ≡ None
  lacks = no_row name (names_of e) c.lacks

  was_entry : slice_get A i ≡ Some (entry_at A i)
  was_entry = within_at A i c.below

  old_row : (r : ConfEntry) × (slice_get table.rows.items i ≡ Some r)
  old_row = slice_get-along A table.rows.items i (entry_at A i) (sym c.stands.size) was_entry

  -- the server's directory lacks the name
  pub can_lack : IsSomeAnd s.tree (λ t. LacksName t dh name)
  can_lack = is_some_and (λ t. LacksName t dh name) c.stands.has_tree
      ((lacks_agrees s.tree table A c.stands d dh rd nd e at_dir.2 c.is_dir name).1 lacks)

  -- and the server has room for one node more
  pub can_hold : HasRoomFor s (byte_count new)
  can_hold =
      let few = nodes_fewer c.limits s.tree table A c.stands c.valid i c.below c.is_null in
      let same = used_agrees c.limits s.tree table A c.stands c.valid in
      let nodes = c.room.nodes in
      let bytes = c.room.bytes in
      let space = c.space in
      let size = c.valid.size in
      is_some_and (λ t. fresh.HoldsUpTo s.limits (len t.nodes + 1)
      (trees.used t + (512 + byte_count new))) c.stands.has_tree
      (omega (arith, few, nodes, size), omega (arith, same, bytes, space))

  pub index_below : i < length table.rows.items
  index_below = let below = c.below in let size = c.stands.size in omega (arith, below, size)

  pub dir_below : d < length table.rows.items
  dir_below = slice_get_within table.rows.items d rd at_dir.2.is_row

  pub rows_few : length table.rows.items < 2 ^ 32
  rows_few =
      let size = c.stands.size in
      let all = c.valid.size in
      let most = c.within.1 in
      omega (arith, size, all, most)

  -- the table can count the object and its name
  pub new_counts : (n : ℕ) → n ≡ 512 + byte_count new → CanShift table 0 n
  new_counts n is =
      let room = c.valid.room in
      let most = c.within.3 in
      let space = c.space in
      can_shift 0 n c.tallied (omega (arith, room, most)) (omega (arith, is, space, most)) (omega arith)

  -- THE ADDITION

  module _ (s' : Option Tree) (attr : Attr) (h : List ℕ) (number : ℕ)
      (made_at : (t : Tree) → s.tree ≡ Some t → IsSomeAnd s'
      (IsMade t dh name h (node_with number attr (content_of new)))) where
    abbrev node : Node
    node = node_with number attr (content_of new)

    new_tree : (t' : Tree) × (s' ≡ Some t') × IsMade t dh name h node t'
    new_tree = some_and s' (IsMade t dh name h node) (made_at t c.stands.has_tree)

    abbrev t' : Tree
    t' = new_tree.0

    m : IsMade t dh name h node t'
    m = new_tree.2

    -- no row has the new handle
    pub new_unshared : IsUnshared table.rows.items i (Some h)
    new_unshared k q is at =
        let n = handle_node s.tree table A c.stands k q at in
        absurd (some_none (ap (node_at t) (some_same refl is ∙ some_same is refl ∙ some_same refl is)
        ∙ n.1) m.new_handle)

    module _ (table' : ConfTable) (time : Time) (g : ℕ) (row : ConfEntry)
        (generation : row.generation ≡ g) (handle : row.handle ≡ Some h) (parent : row.parent ≡ d)
        (same : SameAttr attr row node) (adds : AddsRow table table' d i row time) where
      abbrev A' : List Entry
      A' = with_new A p g name time (object_of new attr)

      abbrev ed : Entry
      ed = machine.with_names (placed (row_to name i g)) time e

      abbrev ei : Entry
      ei = entry_of g (object_of new attr)

      abbrev to_row : NameRow
      to_row = row_to name i g

      abbrev mid : List ConfEntry
      mid = slice_set table.rows.items d (touched time rd)

      rows : table'.rows.items ≡ slice_set mid i row
      rows = adds.rows rd at_dir.2.is_row

      was_free : handle_at table.rows.items i ≡ None
      was_free = handle_of_row table.rows.items i old_row.0 old_row.1
          ∙ null_handle t table.rows.items old_row.0 (entry_at A i).object
          (null_object (entry_at A i).object (entry_at A i).generation c.is_null)
          (c.stands.each i old_row.0 (entry_at A i) old_row.1 was_entry).object

      apart : d ≢ i
      apart same = some_none c.live (ap (handle_at table.rows.items) same ∙ was_free)

      row_here : slice_get table'.rows.items i ≡ Some row
      row_here = ap (λ l. slice_get l i) rows ∙ slice_get-set_same mid i row old_row.0
          (slice_get-set_other table.rows.items d i (touched time rd) (λ e. apart (sym e)) ∙ old_row.1)

      row_dir : slice_get table'.rows.items d ≡ Some (touched time rd)
      row_dir = ap (λ l. slice_get l d) rows ∙ slice_get-set_other mid i d row apart
          ∙ slice_get-set_same table.rows.items d (touched time rd) rd at_dir.2.is_row

      row_other : (j : ℕ) → j ≢ d → j ≢ i → slice_get table'.rows.items j ≡ slice_get table.rows.items j
      row_other j not_d not_i = ap (λ l. slice_get l j) rows ∙ slice_get-set_other mid i j row not_i
          ∙ slice_get-set_other table.rows.items d j (touched time rd) not_d

      entry_here : slice_get A' i ≡ Some ei
      entry_here = slice_get-set_same (set A d ed) i ei (entry_at A i)
          (slice_get-set_other A d i ed (λ e. apart (sym e)) ∙ was_entry)

      entry_dir : slice_get A' d ≡ Some ed
      entry_dir = slice_get-set_other (set A d ed) i d ei apart ∙ slice_get-set_same A d ed e at_dir.2.is_entry

      entry_other : (j : ℕ) → j ≢ d → j ≢ i → slice_get A' j ≡ slice_get A j
      entry_other j not_d not_i = slice_get-set_other (set A d ed) i j ei not_i ∙ slice_get-set_other A d j ed not_d

      names : (k : Names) × (names_at t dh ≡ Some k) × SameNames table.rows.items (names_of e) k
      names = dir_map s.tree table A c.stands d dh rd nd e at_dir.2 c.is_dir

      is_names : names_in nd.content ≡ Some names.0
      is_names = sym (names_at-node t dh nd at_dir.2.is_node) ∙ names.1

      sets_name : SetsName t table A d name (Some h) (Some to_row) t' table' A'
      sets_name =
          let old = same_attr s.tree table A c.stands d dh rd nd e at_dir.2 in
          record {
            handle = dh;
            row = rd;
            row' = touched time rd;
            node = nd;
            generation = e.generation;
            attr = attr_of e;
            attr' = written_at time (attr_of e);
            names = names_of e;
            names' = placed to_row (names_of e);
            node_names = names.0;
            node_names' = insert names.0 name h;
            before = subst (λ o. IsAt t table A d dh rd nd (record { generation = e.generation; object = o }))
                (dir_parts e.generation e.object c.is_dir) at_dir.2;
            is_dir = is_names;
            node_now = m.dir_now nd at_dir.2.is_node ∙ ap Some (names_named nd.content names.0 name h nd refl is_names);
            name_now = get-insert_same names.0 name h;
            names_now = get-insert_other names.0 name h;
            row_now = row_dir;
            same_row = record { generation = refl; handle = refl; number = refl };
            parent = refl;
            entry_now = entry_dir;
            row_to = row_of-placed_same to_row (names_of e) lacks;
            rows_to = row_of-placed_other to_row (names_of e);
            times = record {
              number = old.number;
              mode = old.mode;
              uid = old.uid;
              gid = old.gid;
              atime = old.atime;
              mtime = refl;
              ctime = refl;
            };
          }

      handle_here : handle_at table'.rows.items i ≡ Some h
      handle_here = handle_of_row table'.rows.items i row row_here ∙ handle

      handle_other : (k : ℕ) → k ≢ i → handle_at table'.rows.items k ≡ handle_at table.rows.items k
      handle_other k not_i = elim (one_or_not k d) as
          (λ _. handle_at table'.rows.items k ≡ handle_at table.rows.items k) [
            | inl e ↦ subst (λ k. handle_at table'.rows.items k ≡ handle_at table.rows.items k) (sym e)
                (handle_of_row table'.rows.items d (touched time rd) row_dir
                ∙ sym (handle_of_row table.rows.items d rd at_dir.2.is_row))
            | inr not_d ↦ ap (option_and_then (λ (r : ConfEntry). r.handle)) (row_other k not_d not_i)
          ]

      mapped_here : index_in table' h ≡ Some i
      mapped_here = (adds.in_step c.stands.placed.by_handle h i).1 handle_here

      mapped_other : (q : List ℕ) → q ≢ h → index_in table' q ≡ index_in table q
      mapped_other q ne = by_new (index_in table' q) refl
        where
          step : (k : ℕ) → (index_in table' q ≡ Some k) → index_in table q ≡ Some k
          step k is =
              let at = (adds.in_step c.stands.placed.by_handle q k).0 is in
              let not_i : k ≢ i = λ e. ne (some_same at (ap (handle_at table'.rows.items) e ∙ handle_here)) in
              (c.stands.placed.by_handle q k).1 (sym (handle_other k not_i) ∙ at)

          back : (k : ℕ) → index_in table q ≡ Some k → index_in table' q ≡ Some k
          back k is =
              let at = (c.stands.placed.by_handle q k).0 is in
              let not_i : k ≢ i = λ e. some_none at (ap (handle_at table.rows.items) e ∙ was_free) in
              (adds.in_step c.stands.placed.by_handle q k).1 (handle_other k not_i ∙ at)

          by_old : (o : Option ℕ) → index_in table q ≡ o → index_in table' q ≡ None → o ≡ None
          by_old None is none = refl
          by_old (Some k) is none = absurd (some_none (back k is) none)

          by_new : (o : Option ℕ) → index_in table' q ≡ o → index_in table' q ≡ index_in table q
          by_new (Some k) is = is ∙ sym (step k is)
          by_new None is = is ∙ sym (by_old (index_in table q) refl is)

      makes : MakesNode t table A d name i t' table' A'
      unfolding sets_name
      makes = record {
        handle = h;
        node = node;
        old_row = old_row.0;
        row = row;
        old_entry = entry_at A i;
        entry = ei;
        to_row = to_row;
        in_dir = sets_name;
        was_new = lacks;
        to_index = refl;
        was_row = old_row.1;
        was_entry = was_entry;
        was_null = null_object (entry_at A i).object (entry_at A i).generation c.is_null;
        new_handle = m.new_handle;
        new_number = m.new_number;
        root = m.root;
        node_now = m.node_now;
        nodes = m.others;
        rows = record {
          size = ap length rows ∙ length-set mid i row
              ∙ length-set table.rows.items d (touched time rd);
          others = row_other;
        };
        row_now = row_here;
        row_handle = handle;
        row_parent = parent;
        row_generation = generation;
        by_handle = mapped_here;
        by_handles = mapped_other;
        array = record { size = length-set (set A d ed) i ei ∙ length-set A d ed; others = entry_other };
        entry_now = entry_here;
        object = is_object new t' table'.rows.items row attr h node handle m.node_now same refl;
      }

      abbrev bytes : ℕ
      bytes = 512 + byte_count new

      tallied : (n : ℕ) → n ≡ bytes → ShiftsTally table table' 0 n → Tallied table' A'
      tallied n is shifts = shifts A A' c.tallied
          (add_moves A d i g to_row time new (object_of new attr) apart
          (slice_get_within A d (entry_at A d) at_dir.2.is_entry) c.below c.is_dir
          (used_null (entry_at A i) c.is_null) (used_new g new attr) ∙ ap (λ n. used A + n) (sym is))

      -- they stand for the array with the new object
      pub new_added : (n : ℕ) → n ≡ bytes → ShiftsTally table table' 0 n →
          IsAdded A p g name time (object_of new attr) s' table' (record { index = i; handle = h })
      new_added n is shifts = record {
        tallied = tallied n is shifts;
        stands = stands_made s.tree s' table table' A A' t' d i name c.stands makes new_tree.1;
        live = handle_here;
        index = refl;
      }

-- WHERE NOTHING HAS CHANGED

-- what the server holds and can hold is the same, so the object can still have its place
pub can_still : (s s' : Server) (table : ConfTable) (A : List Entry) (name : List ℕ) (new : New) (p : Place) →
    s'.tree ≡ s.tree → s'.limits ≡ s.limits → CanAdd s table A name new p → CanAdd s' table A name new p
can_still s s' table A name new p same_tree same_limits c = record {
  limits = c.limits;
  within = c.within;
  valid = c.valid;
  stands = subst (λ s. Stands s table A) (sym same_tree) c.stands;
  tallied = c.tallied;
  room = subst (HasRoom c.limits) (sym same_limits) c.room;
  live = c.live;
  is_dir = c.is_dir;
  good = c.good;
  lacks = c.lacks;
  small = c.small;
  below = c.below;
  is_null = c.is_null;
  space = c.space;
}
