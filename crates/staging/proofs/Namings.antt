-- An object under one name: out of staging, or by a link.
use Rattle.std.proofs.Common.{◌≡◌, ◌<◌, ℕ, zero, suc, List, [], ◌∷◌, Bool, true, false, Option, Some, None, IsSomeAnd, length, slice_get, refl, sym, ap, ◌∙◌, subst, arith}
use Rattle.std.specs.Fmt.{decimal}
use Rattle.std.specs.FinMap.{get}
use Rattle.std.proofs.lemmas.List.{length-set}
use Rattle.std.proofs.lemmas.Bool.{true≢false}
use Rattle.nfs2_types.specs.Names.{is_name}
use Rattle.server_trait.specs.Tree.{Tree, node_at, names_in, named}
use Rattle.server_trait.specs.Step.{IsNo, LacksName}
use Rattle.server_trait.proofs.TreeLaws.{some_and, is_some_and, some_none, some_same, and_then_some, names_at-node}
use Rattle.server_trait.specs.declared.server.ServerLimits.{ServerLimits}
use Rattle.server_trait.specs.declared.bench.ConfEntry.{ConfEntry}
use Rattle.server_trait.specs.declared.bench.ConfTable.{ConfTable}
use Rattle.abs_model.specs.declared.entry.NameRow.{NameRow}
use Rattle.abs_model.specs.declared.entry.Object.{Object}
use Rattle.abs_model.specs.declared.entry.Object.TheVariants.{Null, File, Dir, Link}
use Rattle.abs_model.specs.declared.entry.Entry.{Entry}
use Rattle.abs_model.specs.Objects.{is_dir, is_null, names_of, row_of, placed, without}
use Rattle.abs_model.specs.Array.{entry_at}
use Rattle.abs_model.proofs.Facts.{dir_is}
use Rattle.conf_map.specs.Stands.{handle_at, SameNames, IsObject}
use Rattle.conf_map.specs.Moves.{IsSetAt}
use Rattle.conf_map.proofs.Frames.{entry_at-some, handle_of_row}
use Rattle.conf_map.proofs.InStep.{slice_get-set_same, slice_get-set_other}
use Rattle.conf_map.proofs.LiveRows.{object_holds}
use Rattle.staging.specs.Forms.{with_names}
use Rattle.staging.specs.Put.{CanLink, CanPutAt, let_out}
use Rattle.staging.specs.Place.{CanPlace, put_in}
use Rattle.staging.specs.Staged.{Staged, StagedAt}
use Rattle.staging.proofs.Begins.{there}
use Rattle.staging.proofs.Counts.{nodes_staged, null_of, two_names, used_staged}
use Rattle.staging.proofs.NameSteps.{staged_named_in}
use Rattle.staging.proofs.Places.{leads_none, list_with, dir_at}
use Rattle.staging.proofs.Renames.{IsDirAt, name_added}

-- A LIVE ENTRY HAS A HANDLE

null_object : (e : Entry) → e.object ≡ Null → is_null e ≡ true
null_object e is = ap (λ o. is_null (record { generation = e.generation; object = o })) is

-- a live entry lies within the array
pub live_below : (A : List Entry) (i : ℕ) → is_null (entry_at A i) ≡ false → i < length A
live_below A i live = by_index A i live
  where
    by_index : (A : List Entry) (i : ℕ) → is_null (entry_at A i) ≡ false → i < length A
    by_index [] i live = absurd (true≢false live)
    by_index (e ∷ A) zero live = omega arith
    by_index (e ∷ A) (suc i) live = let rest = by_index A i live in omega (arith, rest)

module _ (t : Tree) (area : List ℕ) (table : ConfTable) (A : List Entry) (S : List NameRow) (st : Staged t area table A S) (i : ℕ) (live : is_null (entry_at A i) ≡ false) where
  pub entry_there : slice_get A i ≡ Some (entry_at A i)
  entry_there = let x = there A i (live_below A i live) in x.1 ∙ ap Some (sym (entry_at-some A i x.0 x.1))

  row_there : (r : ConfEntry) × (slice_get table.rows.items i ≡ Some r)
  row_there = there table.rows.items i (let a = live_below A i live in let b = st.size in omega (arith, a, b))

  pub live_handle : (h : List ℕ) × (handle_at table.rows.items i ≡ Some h)
  live_handle = by_handle row_there.0.handle refl
    where
      by_handle : (o : Option (List ℕ)) → row_there.0.handle ≡ o → (h : List ℕ) × (handle_at table.rows.items i ≡ Some h)
      by_handle (Some h) is = (h, handle_of_row table.rows.items i row_there.0 row_there.1 ∙ is)
      by_handle None is = absurd (true≢false (sym (null_object (entry_at A i) (null_of t table.rows.items row_there.0 (entry_at A i).object (st.each i row_there.0 (entry_at A i) row_there.1 entry_there).object is)) ∙ live))

  -- the node of what is no directory has no names
  pub no_names : is_dir (entry_at A i) ≡ false → (h : List ℕ) → handle_at table.rows.items i ≡ Some h → IsNo names_in t h
  no_names other h at = by_object (entry_at A i).object live other (st.each i row_there.0 (entry_at A i) row_there.1 entry_there).object
    where
      handle_is : row_there.0.handle ≡ Some h
      handle_is = sym (handle_of_row table.rows.items i row_there.0 row_there.1) ∙ at

      by_object : (o : Object) → is_null (record { generation = (entry_at A i).generation; object = o }) ≡ false → is_dir (record { generation = (entry_at A i).generation; object = o }) ≡ false → IsObject t table.rows.items row_there.0 o → IsNo names_in t h
      by_object Null l d k = absurd (true≢false l)
      by_object (Dir a b) l d k = absurd (true≢false d)
      by_object (File a b) l d k = is_some_and (λ n. names_in n.content ≡ None) (ap (node_at t) (some_same handle_is k.is_handle) ∙ k.is_node) (ap names_in k.content)
      by_object (Link a x) l d k = is_some_and (λ n. names_in n.content ≡ None) (ap (node_at t) (some_same handle_is k.is_handle) ∙ k.is_node) (ap names_in k.content)

-- ONE NAME

module _ (t : Tree) (most : ServerLimits) (area : List ℕ) (table : ConfTable) (A C : List Entry) (S : List NameRow) (is_staged : Bool) (d : ℕ) (row : NameRow) (k : CanPutAt t most area table A C S is_staged d row) where
  abbrev rows : List ConfEntry
  rows = table.rows.items

  pub dir_handle : (h : List ℕ) × (handle_at rows d ≡ Some h)
  dir_handle = live_handle t area table A S k.staged d (dir_is (entry_at A d) k.can.is_dir).null

  pub object_handle : is_staged ≡ false → (h : List ℕ) × (handle_at rows row.index ≡ Some h)
  object_handle linked = live_handle t area table A S k.staged row.index (k.can.links linked).live

  module _ (h : List ℕ) (at_d : handle_at rows d ≡ Some h) where
    pub can_place : is_staged ≡ true → CanPlace t area table A C S (decimal row.index) (record { index = d; handle = h }) row
    can_place moved = let r = k.can.moves moved in record {
      limits = k.can.limits;
      valid = k.can.valid;
      staged = k.staged;
      among = k.can.among;
      live = at_d;
      is_dir = k.can.is_dir;
      has = k.can.has;
      lacks = k.can.lacks;
      good = k.can.good;
      staged_row = r.0;
      stands_there = r.1;
      same_index = r.2;
    }

    dir : IsDirAt t table A d h
    dir = dir_at t area table A S k.staged (record { index = d; handle = h }) at_d k.can.is_dir

    entry_is : entry_at A d ≡ record { generation = dir.generation; object = Dir dir.attr dir.names }
    entry_is = entry_at-some A d _ dir.is_entry

    lacks_name : row_of row.name dir.names ≡ None
    lacks_name = ap (row_of row.name) (sym (ap names_of entry_is)) ∙ k.can.lacks

    array : IsSetAt d (record { generation = dir.generation; object = Dir dir.attr (placed row dir.names) }) A (put_in A d row)
    array = record {
      size = length-set A d (with_names (placed row (names_of (entry_at A d))) (entry_at A d));
      here = slice_get-set_same A d (with_names (placed row (names_of (entry_at A d))) (entry_at A d)) _ dir.is_entry ∙ ap (λ e. Some (with_names (placed row (names_of e)) e)) entry_is;
      others = λ j ne. slice_get-set_other A d j (with_names (placed row (names_of (entry_at A d))) (entry_at A d)) ne;
    }

    lacks_there : LacksName t h row.name
    lacks_there =
        let r = and_then_some (λ (r : ConfEntry). r.handle) (slice_get rows d) h at_d in
        let holds = object_holds t rows r.0 dir.generation (Dir dir.attr dir.names) h dir.node (k.staged.each d r.0 (record { generation = dir.generation; object = Dir dir.attr dir.names }) r.1 dir.is_entry).object r.2 dir.is_node in
        let m = some_and (names_in dir.node.content) (SameNames rows dir.names) holds.1 in
        is_some_and (λ m. get m row.name ≡ None) (names_at-node t h dir.node dir.is_node ∙ m.1)
        (leads_none rows (get m.0 row.name) (row_of row.name dir.names) lacks_name (m.2 row.name))

    pub can_link : is_staged ≡ false → (n : List ℕ) → handle_at rows row.index ≡ Some n → CanLink t most n h row.name
    can_link linked n at_i =
        let l = k.can.links linked in
        record {
          other = no_names t area table A S k.staged row.index l.live l.other n at_i;
          free = lacks_there;
          room =
              let two = two_names k.staged.sited.export area in
              let u = used_staged t area table A S k.staged l.room.rising l.room.once two in
              let c = nodes_staged t area table A S k.staged l.room.rising l.room.once two in
              let a = l.room.room.0 in
              let b = l.room.room.1 in
              (omega (arith, a, c), omega (arith, b, u));
        }

    pub linked_there : (n : List ℕ) → handle_at rows row.index ≡ Some n → Staged (named t h row.name n) area table (put_in A d row) S
    linked_there n at_i = staged_named_in t (named t h row.name n) area table A (put_in A d row) S d row.name (Some n) (Some row) k.staged (record {
      handle = h;
      generation = dir.generation;
      attr = dir.attr;
      names = dir.names;
      names' = placed row dir.names;
      is_handle = at_d;
      is_entry = dir.is_entry;
      node = name_added t h row.name dir.node dir.node_names dir.is_node dir.is_dir n;
      list = list_with row dir.names lacks_name;
      array = array;
      leads = at_i;
    })

-- OF WHAT A SERVER HAS

module _ (s : Option Tree) (most : ServerLimits) (area : List ℕ) (table : ConfTable) (is_staged : Bool) (d : ℕ) (row : NameRow)
    (can : IsSomeAnd s (λ t. (A : List Entry) × (C : List Entry) × (S : List NameRow) × CanPutAt t most area table A C S is_staged d row)) where
  known : (t : Tree) × (s ≡ Some t) × ((A : List Entry) × (C : List Entry) × (S : List NameRow) × CanPutAt t most area table A C S is_staged d row)
  known = some_and s (λ t. (A : List Entry) × (C : List Entry) × (S : List NameRow) × CanPutAt t most area table A C S is_staged d row) can

  pub good_name : is_name row.name ≡ true
  good_name = known.2.3.can.good

  pub place_there : is_staged ≡ true → (h : List ℕ) → Some h ≡ handle_at table.rows.items d → (name : List ℕ) → name ≡ decimal row.index →
      IsSomeAnd s (λ t. (A : List Entry) × (C : List Entry) × (S : List NameRow) × CanPlace t area table A C S name (record { index = d; handle = h }) row)
  place_there moved h at name is =
      let k = known.2 in
      is_some_and (λ t. (A : List Entry) × (C : List Entry) × (S : List NameRow) × CanPlace t area table A C S name (record { index = d; handle = h }) row) known.1
      (k.0, k.1, k.2, subst (λ name. CanPlace known.0 area table k.0 k.1 k.2 name (record { index = d; handle = h }) row) (sym is) (can_place known.0 most area table k.0 k.1 k.2 is_staged d row k.3 h (sym at) moved))

  pub link_there : is_staged ≡ false → (h n : List ℕ) → Some h ≡ handle_at table.rows.items d → Some n ≡ handle_at table.rows.items row.index → (name : List ℕ) → name ≡ row.name →
      IsSomeAnd s (λ t. CanLink t most n h name)
  link_there linked h n at_d at_i name is =
      let k = known.2 in
      is_some_and (λ t. CanLink t most n h name) known.1 (subst (CanLink known.0 most n h) (sym is) (can_link known.0 most area table k.0 k.1 k.2 is_staged d row k.3 h (sym at_d) linked n (sym at_i)))

pub never_dir : {X : Type 0} (t : Tree) (most : ServerLimits) (area : List ℕ) (table : ConfTable) (A C : List Entry) (S : List NameRow) (is_staged : Bool) (d : ℕ) (row : NameRow) → CanPutAt t most area table A C S is_staged d row →
    None ≡ handle_at table.rows.items d → X
never_dir t most area table A C S is_staged d row k none = absurd (some_none (dir_handle t most area table A C S is_staged d row k).1 (sym none))

pub never_object : {X : Type 0} (t : Tree) (most : ServerLimits) (area : List ℕ) (table : ConfTable) (A C : List Entry) (S : List NameRow) (is_staged : Bool) (d : ℕ) (row : NameRow) → CanPutAt t most area table A C S is_staged d row →
    is_staged ≡ false → None ≡ handle_at table.rows.items row.index → X
never_object t most area table A C S is_staged d row k linked none = absurd (some_none (object_handle t most area table A C S is_staged d row k linked).1 (sym none))

pub put_staged : (s : Option Tree) (area : List ℕ) (table : ConfTable) (A : List Entry) (S : List NameRow) (is_staged : Bool) (d : ℕ) (row : NameRow) (name : List ℕ) → is_staged ≡ true → name ≡ decimal row.index →
    StagedAt s area table (put_in A d row) (without name S) → StagedAt s area table (put_in A d row) (let_out S is_staged row)
put_staged s area table A S is_staged d row name moved is st =
    subst (λ b. StagedAt s area table (put_in A d row) (let_out S b row)) (sym moved) (subst (λ name. StagedAt s area table (put_in A d row) (without name S)) is st)

pub put_linked : (t : Tree) (most : ServerLimits) (area : List ℕ) (table : ConfTable) (A C : List Entry) (S : List NameRow) (is_staged : Bool) (d : ℕ) (row : NameRow) → CanPutAt t most area table A C S is_staged d row →
    is_staged ≡ false → (h n name : List ℕ) → Some h ≡ handle_at table.rows.items d → Some n ≡ handle_at table.rows.items row.index → name ≡ row.name → (s : Option Tree) → s ≡ Some (named t h name n) →
    StagedAt s area table (put_in A d row) (let_out S is_staged row)
put_linked t most area table A C S is_staged d row k linked h n name at_d at_i is s after =
    subst (λ b. StagedAt s area table (put_in A d row) (let_out S b row)) (sym linked)
    (is_some_and (λ t. Staged t area table (put_in A d row) S) (after ∙ ap (λ name. Some (named t h name n)) is) (linked_there t most area table A C S is_staged d row k h (sym at_d) n (sym at_i)))

pub placing : (t : Tree) (most : ServerLimits) (area : List ℕ) (table : ConfTable) (A C : List Entry) (S : List NameRow) (is_staged : Bool) (d : ℕ) (row : NameRow) → CanPutAt t most area table A C S is_staged d row →
    is_staged ≡ true → (h : List ℕ) → Some h ≡ handle_at table.rows.items d → (name : List ℕ) → name ≡ decimal row.index → CanPlace t area table A C S name (record { index = d; handle = h }) row
placing t most area table A C S is_staged d row k moved h at name is =
    subst (λ name. CanPlace t area table A C S name (record { index = d; handle = h }) row) (sym is) (can_place t most area table A C S is_staged d row k h (sym at) moved)
