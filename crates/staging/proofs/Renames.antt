-- A name that moves to the staging directory, and one that comes from there.
use Rattle.std.proofs.Common.{◌≡◌, ◌≢◌, ℕ, List, true, Option, Some, None, Err, IsSomeAnd, slice_get, refl, sym, ap, ◌∙◌, subst}
use Rattle.std.specs.Prelude.{bytes_eq, if◌then◌else◌}
use Rattle.std.specs.Option.{option_and_then}
use Rattle.std.specs.FinMap.{get, insert, remove}
use Rattle.nfs2_types.specs.declared.Limits.{Limits}
use Rattle.server_trait.specs.Tree.{Tree, Node, Names, Content, BytesOf, TextOf, NamesOf, node_at, names_at, names_in, target, with_names, named, unnamed, let_go}
use Rattle.server_trait.specs.Step.{IsBroken, IsAtOrBelow, Outcome}
use Rattle.server_trait.specs.Calls.{RenameErr, renamed}
use Rattle.server_trait.proofs.TreeLaws.{some_and, is_some_and, some_none, some_same, and_then_some, node_at-edited_same, node_at-edited_other, root-edited, get-insert_same, get-insert_other, get-remove_same, get-remove_other}
use Rattle.server_trait.proofs.SoftLaws.{some_of}
use Rattle.server_trait.proofs.NameSoftLaws.{CanRename, rename_soft}
use Rattle.server_trait.specs.declared.server.SrvErr.{SrvErr}
use Rattle.server_trait.specs.declared.server.SrvErr.TheVariants.{Stale, NoEnt, Exists, NotDir, WrongKind, NotEmpty, Subtree, Refused, Full, Fault, NoMemory}
use Rattle.server_trait.specs.declared.bench.ConfTable.{ConfTable}
use Rattle.abs_model.specs.declared.entry.Attr.{Attr}
use Rattle.abs_model.specs.declared.entry.NameRow.{NameRow}
use Rattle.abs_model.specs.declared.entry.Object.TheVariants.{Dir}
use Rattle.abs_model.specs.declared.entry.Entry.{Entry}
use Rattle.abs_model.specs.Array.{entry_at, has_row_to}
use Rattle.abs_model.specs.Valid.{Valid, Walk}
use Rattle.conf_map.specs.Stands.{handle_at, Leads, SameNames}
use Rattle.conf_map.specs.Moves.{IsSetAt}
use Rattle.staging.specs.Place.{AreAmong}
use Rattle.staging.specs.Staged.{Staged}
use Rattle.staging.specs.Steps.{NodeNamed, ListNamed, CanMove, MovedTo}
use Rattle.staging.proofs.Cycles.{not_at_or_below}
use Rattle.staging.proofs.Frames.{one_row}
use Rattle.staging.proofs.NameSteps.{staged_named_in, staged_named_staging}
use Rattle.staging.proofs.Ways.{way_back, staging_not_below, walk_among}

-- ONE NAME OF A TREE

-- what is done with a directory's names is known, since they are
names_fixed : (f : Names → Names) (n : Node) (m : Names) → names_in n.content ≡ Some m → with_names f n ≡ with_names (λ _. f m) n
names_fixed f n m = by_content n.content
  where
    by_content : (c : Content) → names_in c ≡ Some m → with_names f (record n { content = c }) ≡ with_names (λ _. f m) (record n { content = c })
    by_content (BytesOf b) is = refl
    by_content (TextOf x) is = refl
    by_content (NamesOf k) is = ap (λ m. let x : Node = record n { content = NamesOf (f m) } in x) (some_same refl is)

module _ (t : Tree) (dir name : List ℕ) (n : Node) (m : Names) (at : node_at t dir ≡ Some n) (is : names_in n.content ≡ Some m) where
  pub name_added : (h : List ℕ) → NodeNamed t dir name (Some h) (named t dir name h)
  name_added h = record {
    node = n;
    names = m;
    names' = insert m name h;
    is_node = at;
    is_dir = is;
    node_now = node_at-edited_same t dir (with_names (λ m. insert m name h)) n at ∙ ap Some (names_fixed (λ m. insert m name h) n m is);
    name_now = get-insert_same m name h;
    names_now = λ x ne. get-insert_other m name h x ne;
    root = root-edited t dir (with_names (λ m. insert m name h));
    nodes = λ q ne. node_at-edited_other t dir (with_names (λ m. insert m name h)) q ne;
  }

  pub name_dropped : NodeNamed t dir name None (unnamed t dir name)
  name_dropped = record {
    node = n;
    names = m;
    names' = remove m name;
    is_node = at;
    is_dir = is;
    node_now = node_at-edited_same t dir (with_names (λ m. remove m name)) n at ∙ ap Some (names_fixed (λ m. remove m name) n m is);
    name_now = get-remove_same m name;
    names_now = λ x ne. get-remove_other m name x ne;
    root = root-edited t dir (with_names (λ m. remove m name));
    nodes = λ q ne. node_at-edited_other t dir (with_names (λ m. remove m name)) q ne;
  }

-- THE CALL CAN ONLY FAIL

module _ (t : Tree) (from name to to_name : List ℕ) (c : CanMove t from name to to_name) where
  no_target : target t to to_name ≡ None
  no_target = let m = some_and (names_at t to) (λ m. get m to_name ≡ None) c.free in ap (option_and_then (λ (m : Names). get m to_name)) m.1 ∙ m.2

  can_rename : CanRename t from name to to_name c.moved
  can_rename =
      let m = some_and (names_at t to) (λ m. get m to_name ≡ None) c.free in
      record {
        is_moved = c.leads;
        into = m.0;
        is_into = m.1;
        not_below = λ _. c.not_below;
        fits = λ r is _. absurd (some_none is no_target);
      }

  none : (e : SrvErr) → RenameErr from name to to_name t e → ⊥
  none Refused a = let x = some_of (target t to to_name) a in some_none x.1 no_target
  none Stale a = rename_soft can_rename Stale a
  none NoEnt a = rename_soft can_rename NoEnt a
  none NotDir a = rename_soft can_rename NotDir a
  none WrongKind a = rename_soft can_rename WrongKind a
  none NotEmpty a = rename_soft can_rename NotEmpty a
  none Subtree a = rename_soft can_rename Subtree a
  none e a = a

  abbrev Done : Unit {0} → Option Tree → Type 0
  Done _ after = IsSomeAnd (target t from name) (λ h. after ≡ Some (renamed t from name to to_name h))

  pub only_fails : (e : SrvErr) (after : Option Tree) → Outcome {T = Unit {0}} Done (RenameErr from name to to_name t) t (Err e) after → IsBroken e
  only_fails Fault after o = tt
  only_fails NoMemory after o = tt
  only_fails Stale after o = none Stale o.0
  only_fails NoEnt after o = none NoEnt o.0
  only_fails Exists after o = none Exists o.0
  only_fails NotDir after o = none NotDir o.0
  only_fails WrongKind after o = none WrongKind o.0
  only_fails NotEmpty after o = none NotEmpty o.0
  only_fails Subtree after o = none Subtree o.0
  only_fails Refused after o = none Refused o.0
  only_fails Full after o = none Full o.0

  pub moved_to : (after : Option Tree) → Done tt after → MovedTo t from name to to_name after
  moved_to after d =
      let x = some_and (target t from name) (λ h. after ≡ Some (renamed t from name to to_name h)) d in
      is_some_and (λ h. after ≡ Some (named (unnamed t from name) to to_name h)) x.1
      (x.2 ∙ ap (λ o. Some (elim o as (λ _. Tree) [
        | None ↦ named (unnamed t from name) to to_name x.0
        | Some r ↦ if bytes_eq r x.0 then t else let_go (named (unnamed t from name) to to_name x.0) r
      ])) no_target)

-- BETWEEN A DIRECTORY AND STAGING

-- a directory of the array, and its node
pub record IsDirAt (t : Tree) (table : ConfTable) (A : List Entry) (d : ℕ) (handle : List ℕ) : Type 0 where
  pub node : Node
  pub node_names : Names
  pub generation : ℕ
  pub attr : Attr
  pub names : List NameRow
  pub is_handle : handle_at table.rows.items d ≡ Some handle
  pub is_node : node_at t handle ≡ Some node
  pub is_dir : names_in node.content ≡ Some node_names
  pub is_entry : slice_get A d ≡ Some (record { generation = generation; object = Dir attr names })

module _ (t : Tree) (area : List ℕ) (table : ConfTable) (A A' : List Entry) (S S' : List NameRow) (st : Staged t area table A S) (d i : ℕ) (dh h name staged_name : List ℕ) (row : NameRow)
    (dir : IsDirAt t table A d dh) (names' : List NameRow) (array : IsSetAt d (record { generation = dir.generation; object = Dir dir.attr names' }) A A')
    (live : handle_at table.rows.items i ≡ Some h) (to_i : row.index ≡ i) where
  staging_is : (n : Node) × (m : Names) × (node_at t area ≡ Some n) × (names_in n.content ≡ Some m)
  staging_is =
      let m = some_and (names_at t area) (SameNames table.rows.items S) st.sited.staging_has in
      let n = and_then_some (λ (n : Node). names_in n.content) (node_at t area) m.0 m.1 in
      (n.0, m.0, n.1, n.2)

  apart : dh ≢ area
  apart = (st.sited.apart d dh dir.is_handle).1

  leads : Leads table.rows.items (Some h) (Some row)
  leads = ap (handle_at table.rows.items) to_i ∙ live

  -- an object comes out of staging, under a name of a directory
  pub staged_out : ListNamed dir.names name (Some row) names' → ListNamed S staged_name None S' →
      Staged (named (unnamed t area staged_name) dh name h) area table A' S'
  staged_out list staged =
      let g = staging_is in
      let t1 = unnamed t area staged_name in
      let first = staged_named_staging t t1 area table A S S' staged_name None None st (record { node = name_dropped t area staged_name g.0 g.1 g.2 g.3; list = staged; leads = tt }) in
      let t2 = named t1 dh name h in
      staged_named_in t1 t2 area table A A' S' d name (Some h) (Some row) first (record {
        handle = dh;
        generation = dir.generation;
        attr = dir.attr;
        names = dir.names;
        names' = names';
        is_handle = dir.is_handle;
        is_entry = dir.is_entry;
        node = name_added t1 dh name dir.node dir.node_names (node_at-edited_other t area (with_names (λ m. remove m staged_name)) dh apart ∙ dir.is_node) dir.is_dir h;
        list = list;
        array = array;
        leads = leads;
      })

  -- an object that keeps no name goes into staging
  pub staged_in : ListNamed dir.names name None names' → ListNamed S staged_name (Some row) S' →
      Staged (named (unnamed t dh name) area staged_name h) area table A' S'
  staged_in list staged =
      let g = staging_is in
      let t1 = unnamed t dh name in
      let first = staged_named_in t t1 area table A A' S d name None None st (record {
        handle = dh;
        generation = dir.generation;
        attr = dir.attr;
        names = dir.names;
        names' = names';
        is_handle = dir.is_handle;
        is_entry = dir.is_entry;
        node = name_dropped t dh name dir.node dir.node_names dir.is_node dir.is_dir;
        list = list;
        array = array;
        leads = tt;
      }) in
      let t2 = named t1 area staged_name h in
      staged_named_staging t1 t2 area table A' S S' staged_name (Some h) (Some row) first (record {
        node = name_added t1 area staged_name g.0 g.1 (node_at-edited_other t dh (with_names (λ m. remove m name)) area (λ e. apart (sym e)) ∙ g.2) g.3 h;
        list = staged;
        leads = leads;
      })

-- neither is refused as a move below itself: into staging never, and out of it where all names that are there are names
-- of a valid array in which the directory has the name
module _ (t : Tree) (area : List ℕ) (table : ConfTable) (A : List Entry) (S : List NameRow) (st : Staged t area table A S) (i : ℕ) (h : List ℕ) (live : handle_at table.rows.items i ≡ Some h) where
  pub not_into_staging : IsAtOrBelow t h area → ⊥
  not_into_staging = staging_not_below t area table A S st i h live

  pub not_out_of_staging : (limits : Limits) (C : List Entry) → Valid limits C → AreAmong A C → (d : ℕ) (dh : List ℕ) → handle_at table.rows.items d ≡ Some dh → has_row_to i (entry_at C d) ≡ true →
      IsAtOrBelow t h dh → ⊥
  not_out_of_staging limits C valid among d dh at_d leads below =
      let w = way_back t area table A S st below.0 i h dh live below.1 in
      let same : w.0 ≡ d = one_row t area table S st.sited dh w.0 d w.1 at_d in
      not_at_or_below limits C valid below.0 i d leads (walk_among A C among below.0 i d (subst (λ j. Walk A below.0 i j) same w.2))
