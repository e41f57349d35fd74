-- An object begins: what the calls ask for, and what they leave.
use Rattle.std.proofs.Common.{◌≡◌, ◌≢◌, ◌<◌, ◌≤◌, ◌+◌, ℕ, zero, suc, List, [], ◌∷◌, Bool, true, false, cond, Option, Some, None, IsSome, IsSomeAnd, length, slice_get, slice_set, refl, sym, ap, ◌∙◌, subst, arith}
use Rattle.std.specs.Prelude.{if◌then◌else◌}
use Rattle.std.specs.Ordering.{nat_cmp}
use Rattle.std.specs.Cmp.Lexicographic.{slice_cmp}
use Rattle.std.specs.Fmt.{decimal}
use Rattle.std.specs.FinMap.{get, empty, get-empty, len}
use Rattle.std.proofs.lemmas.List.{length-set}
use Rattle.std.proofs.lemmas.Slice.Eq.{bytes_eq-Decides}
use Rattle.server_trait.specs.Tree.{Tree, Node, BytesOf, TextOf, NamesOf, node_at, names_at, new_node, with_node, named, used}
use Rattle.server_trait.specs.Step.{LacksName}
use Rattle.server_trait.specs.Calls.{Made, IsAttr}
use Rattle.server_trait.proofs.TreeLaws.{some_and, is_some_and, some_none, some_same, get-insert_same}
use Rattle.server_trait.proofs.SoftLaws.{made_node}
use Rattle.server_trait.specs.declared.server.NodeAttr.{NodeAttr}
use Rattle.server_trait.specs.declared.server.ServerLimits.{ServerLimits}
use Rattle.server_trait.specs.declared.bench.ConfEntry.{ConfEntry}
use Rattle.server_trait.specs.declared.bench.ConfTable.{ConfTable}
use Rattle.abs_model.specs.declared.entry.NameRow.{NameRow}
use Rattle.abs_model.specs.declared.entry.Object.{Object}
use Rattle.abs_model.specs.declared.entry.Object.TheVariants.{Null, File, Dir, Link}
use Rattle.abs_model.specs.declared.entry.Entry.{Entry}
use Rattle.abs_model.specs.Objects.{is_null, row_of, zero_time}
use Rattle.abs_model.specs.Array.{entry_at}
use Rattle.conf_map.specs.Fresh.{HoldsUpTo}
use Rattle.conf_map.specs.Stands.{Leads, SameNames, IsObject}
use Rattle.conf_map.specs.Moves.{IsSetAt}
use Rattle.conf_map.specs.Tables.{IsInStep, IsUnshared}
use Rattle.conf_map.proofs.Frames.{entry_at-some, handle_of_row}
use Rattle.conf_map.proofs.InStep.{slice_get-set_same, slice_get-set_other}
use Rattle.staging.specs.Forms.{begun}
use Rattle.staging.specs.Begin.{CanBegin, begun_at, begun_bytes, begun_content, row_in_staging, staged_with}
use Rattle.staging.specs.Staged.{Staged, StagedAt}
use Rattle.staging.specs.Steps.{ListNamed}
use Rattle.staging.proofs.Made.{handle_node}
use Rattle.staging.proofs.NameSteps.{staged_renewed}
use Rattle.staging.proofs.Objects.{staged_begun}
use Rattle.staging.proofs.Places.{leads_none, not_eq}

-- A ROW AT THE HEAD

pub at_head : (row : NameRow) (rows : List NameRow) → row_of row.name (row ∷ rows) ≡ Some row
at_head row rows = ap (λ b. cond b (Some row) (row_of row.name rows)) ((bytes_eq-Decides row.name row.name).1 refl)

pub past_head : (row : NameRow) (rows : List NameRow) (name : List ℕ) → name ≢ row.name → row_of name (row ∷ rows) ≡ row_of name rows
past_head row rows name ne = ap (λ b. cond b (Some row) (row_of name rows)) (not_eq row.name name (λ e. ne (sym e)))

-- A NULL ENTRY AND ITS ROW

pub object_null : (e : Entry) → is_null e ≡ true → e.object ≡ Null
object_null e null = by_object e.object null
  where
    by_object : (o : Object) → is_null (record { generation = e.generation; object = o }) ≡ true → o ≡ Null
    by_object Null null = refl
    by_object (File a b) null = absurd (let bad : false ≡ true = null in cc)
    by_object (Dir a b) null = absurd (let bad : false ≡ true = null in cc)
    by_object (Link a b) null = absurd (let bad : false ≡ true = null in cc)

pub there : {X : Type 0} (xs : List X) (i : ℕ) → i < length xs → (x : X) × (slice_get xs i ≡ Some x)
there [] i below = absurd (omega (arith, below))
there (x ∷ xs) zero below = (x, refl)
there (x ∷ xs) (suc i) below = there xs i (omega (arith, below))

module _ (t : Tree) (limits : ServerLimits) (area : List ℕ) (table : ConfTable) (A : List Entry) (S : List NameRow) (i : ℕ) (e : Entry) (c : CanBegin t limits area table A S i e) where
  pub old_entry : slice_get A i ≡ Some (entry_at A i)
  old_entry = let x = there A i c.within in x.1 ∙ ap Some (sym (entry_at-some A i x.0 x.1))

  pub old_row : (r : ConfEntry) × (slice_get table.rows.items i ≡ Some r) × (r.handle ≡ None)
  old_row =
      let below : i < length table.rows.items = (let a = c.within in let b = c.staged.size in omega (arith, a, b)) in
      let r = there table.rows.items i below in
      (r.0, r.1, subst (IsObject t table.rows.items r.0) (object_null (entry_at A i) c.null) (c.staged.each i r.0 (entry_at A i) r.1 old_entry).object)

  pub begin_lacks : LacksName t area (decimal i)
  begin_lacks =
      let m = some_and (names_at t area) (SameNames table.rows.items S) c.staged.sited.staging_has in
      is_some_and (λ m. get m (decimal i) ≡ None) m.1 (leads_none table.rows.items (get m.0 (decimal i)) (row_of (decimal i) S) c.free (m.2 (decimal i)))

  array : IsSetAt i (begun e) A (begun_at A i e)
  array = record {
    size = length-set A i (begun e);
    here = slice_get-set_same A i (begun e) (entry_at A i) old_entry;
    others = λ j ne. slice_get-set_other A i j (begun e) ne;
  }

  rows_set : (table' : ConfTable) (row' : ConfEntry) → table'.rows.items ≡ slice_set table.rows.items i row' → IsSetAt i row' table.rows.items table'.rows.items
  rows_set table' row' set_is = record {
    size = ap length set_is ∙ length-set table.rows.items i row';
    here = ap (λ rows. slice_get rows i) set_is ∙ slice_get-set_same table.rows.items i row' old_row.0 old_row.1;
    others = λ j ne. ap (λ rows. slice_get rows j) set_is ∙ slice_get-set_other table.rows.items i j row' ne;
  }

  -- a null entry has its generation
  pub renewed : is_null e ≡ true → (table' : ConfTable) (row' : ConfEntry) → table'.rows.items ≡ slice_set table.rows.items i row' → (IsInStep table → IsInStep table') → row'.handle ≡ None → row'.generation ≡ e.generation →
      Staged t area table' (begun_at A i e) (staged_with S i e)
  renewed null table' row' set_is in_step row_null generation =
      subst (Staged t area table' (begun_at A i e)) (ap (λ b. if b then S else row_in_staging i e ∷ S) (sym null))
      (staged_renewed t area table table' A (begun_at A i e) S i c.staged (record {
        row = old_row.0;
        row' = row';
        entry' = begun e;
        is_row = old_row.1;
        was_null = old_row.2;
        rows = rows_set table' row' set_is;
        row_null = row_null;
        in_step = in_step c.staged.sited.in_step;
        array = array;
        null = ap (λ o. (begun (record { generation = e.generation; object = o })).object) (object_null e null);
        generation = generation;
      }))

  -- AN OBJECT

  module _ (h : List ℕ) (s1 : Option Tree) (m : Made t area (decimal i) (begun_content e.object) h s1) where
    -- its handle is that of no row
    pub unshared : IsUnshared table.rows.items i (Some h)
    unshared j q same at = absurd (some_none (let n = handle_node t area table A S c.staged j q at in ap (node_at t) (some_same {o = Some h} refl same) ∙ n.1) m.new_handle)

    pub still_there : IsSomeAnd s1 (λ t. IsSome (node_at t h))
    still_there = is_some_and (λ t. IsSome (node_at t h)) m.after (ap is_some_of (made_node t area (decimal i) (begun_content e.object) h s1 m begin_lacks))
      where
        is_some_of : Option Node → Bool
        is_some_of None = false
        is_some_of (Some n) = true

    module _ (told : NodeAttr) (attr : (t : Tree) → s1 ≡ Some t → IsSomeAnd (node_at t h) (IsAttr t h told)) (live : is_null e ≡ false) (table' : ConfTable) (row' : ConfEntry)
        (set_is : table'.rows.items ≡ slice_set table.rows.items i row') (in_step : IsInStep table → IsInStep table')
        (row_is : row' ≡ record { generation = e.generation; handle = Some h; number = told.number; parent = 0; atime = zero_time; mtime = zero_time; ctime = zero_time }) where
      number : told.number ≡ m.number
      number =
          let k = some_and (node_at (named (with_node t h (new_node m.number (begun_content e.object))) area (decimal i) h) h) (IsAttr (named (with_node t h (new_node m.number (begun_content e.object))) area (decimal i) h) h told) (attr _ m.after) in
          k.2.number ∙ ap (λ (n : Node). n.number) (some_same k.1 (made_node t area (decimal i) (begun_content e.object) h s1 m begin_lacks))

      object : (rows : List ConfEntry) → IsObject (with_node t h (new_node m.number (begun_content e.object))) rows row' (begun e).object
      object rows = by_object e.object live
        where
          by_object : (o : Object) → is_null (record { generation = e.generation; object = o }) ≡ false → IsObject (with_node t h (new_node m.number (begun_content o))) rows row' (begun (record { generation = e.generation; object = o })).object
          by_object Null live = absurd (let bad : true ≡ false = live in cc)
          by_object (File a b) live = record {
            handle = h;
            node = new_node m.number (BytesOf []);
            is_handle = ap (λ (r : ConfEntry). r.handle) row_is;
            is_node = get-insert_same t.nodes h (new_node m.number (BytesOf []));
            attr = record { number = ap (λ (r : ConfEntry). r.number) row_is ∙ number; mode = refl; uid = refl; gid = refl; atime = ap (λ (r : ConfEntry). r.atime) row_is; mtime = ap (λ (r : ConfEntry). r.mtime) row_is; ctime = ap (λ (r : ConfEntry). r.ctime) row_is };
            content = refl;
          }
          by_object (Link a x) live = record {
            handle = h;
            node = new_node m.number (TextOf x);
            is_handle = ap (λ (r : ConfEntry). r.handle) row_is;
            is_node = get-insert_same t.nodes h (new_node m.number (TextOf x));
            attr = record { number = ap (λ (r : ConfEntry). r.number) row_is ∙ number; mode = refl; uid = refl; gid = refl; atime = ap (λ (r : ConfEntry). r.atime) row_is; mtime = ap (λ (r : ConfEntry). r.mtime) row_is; ctime = ap (λ (r : ConfEntry). r.ctime) row_is };
            content = refl;
          }
          by_object (Dir a names) live = record {
            handle = h;
            node = new_node m.number (NamesOf empty);
            is_handle = ap (λ (r : ConfEntry). r.handle) row_is;
            is_node = get-insert_same t.nodes h (new_node m.number (NamesOf empty));
            attr = record { number = ap (λ (r : ConfEntry). r.number) row_is ∙ number; mode = refl; uid = refl; gid = refl; atime = ap (λ (r : ConfEntry). r.atime) row_is; mtime = ap (λ (r : ConfEntry). r.mtime) row_is; ctime = ap (λ (r : ConfEntry). r.ctime) row_is };
            content = is_some_and (SameNames rows []) refl (λ x. subst (λ o. Leads rows o None) (sym (get-empty (slice_cmp nat_cmp) x)) tt);
          }

      list : ListNamed S (decimal i) (Some (row_in_staging i e)) (row_in_staging i e ∷ S)
      list = record { here = at_head (row_in_staging i e) S; others = λ x ne. past_head (row_in_staging i e) S x ne }

      pub begun_there : (s2 : Option Tree) → s2 ≡ s1 → StagedAt s2 area table' (begun_at A i e) (staged_with S i e)
      begun_there s2 same =
          subst (λ S'. StagedAt s2 area table' (begun_at A i e) S') (ap (λ b. if b then S else row_in_staging i e ∷ S) (sym live))
          (subst (λ s. StagedAt s area table' (begun_at A i e) (row_in_staging i e ∷ S)) (sym same)
          (staged_begun t area table table' A (begun_at A i e) S (row_in_staging i e ∷ S) c.staged i h (decimal i) (begun_content e.object) s1 m row' (begun e) (row_in_staging i e)
          (handle_of_row table.rows.items i old_row.0 old_row.1 ∙ old_row.2) (rows_set table' row' set_is) (ap (λ (r : ConfEntry). r.handle) row_is) (in_step c.staged.sited.in_step)
          array (ap (λ (r : ConfEntry). r.generation) row_is) (object table'.rows.items) list refl))

-- OF WHAT A SERVER HAS

module _ (s : Option Tree) (limits : ServerLimits) (area : List ℕ) (table : ConfTable) (i : ℕ) (e : Entry)
    (can : IsSomeAnd s (λ t. (A : List Entry) × (S : List NameRow) × CanBegin t limits area table A S i e)) (name : List ℕ) (is : name ≡ decimal i) where
  known : (t : Tree) × (s ≡ Some t) × ((A : List Entry) × (S : List NameRow) × CanBegin t limits area table A S i e)
  known = some_and s (λ t. (A : List Entry) × (S : List NameRow) × CanBegin t limits area table A S i e) can

  pub lacks_there : IsSomeAnd s (λ t. LacksName t area name)
  lacks_there = is_some_and (λ t. LacksName t area name) known.1 (subst (LacksName known.0 area) (sym is) (begin_lacks known.0 limits area table known.2.0 known.2.1 i e known.2.2))

  pub room_there : is_null e ≡ false → IsSomeAnd s (λ t. HoldsUpTo limits (len t.nodes + 1) (used t + (512 + begun_bytes e)))
  room_there live = is_some_and (λ t. HoldsUpTo limits (len t.nodes + 1) (used t + (512 + begun_bytes e))) known.1 (known.2.2.room live)

  pub text_there : begun_bytes e ≤ 1024
  text_there = known.2.2.text

  module _ (h : List ℕ) (s1 : Option Tree) (made : (t : Tree) → s ≡ Some t → Made t area name (begun_content e.object) h s1) where
    made_so : (t : Tree) → s ≡ Some t → Made t area (decimal i) (begun_content e.object) h s1
    made_so t at = subst (λ name. Made t area name (begun_content e.object) h s1) is (made t at)

    pub node_there : IsSomeAnd s1 (λ t. IsSome (node_at t h))
    node_there = still_there known.0 limits area table known.2.0 known.2.1 i e known.2.2 h s1 (made_so known.0 known.1)

    pub unshared_there : IsUnshared table.rows.items i (Some h)
    unshared_there = unshared known.0 limits area table known.2.0 known.2.1 i e known.2.2 h s1 (made_so known.0 known.1)

    pub begun_after : (t : Tree) (A : List Entry) (S : List NameRow) → s ≡ Some t → CanBegin t limits area table A S i e →
        (told : NodeAttr) → ((t : Tree) → s1 ≡ Some t → IsSomeAnd (node_at t h) (IsAttr t h told)) → is_null e ≡ false → (table' : ConfTable) (row' : ConfEntry) →
        table'.rows.items ≡ slice_set table.rows.items i row' → (IsInStep table → IsInStep table') →
        row' ≡ record { generation = e.generation; handle = Some h; number = told.number; parent = 0; atime = zero_time; mtime = zero_time; ctime = zero_time } →
        (s2 : Option Tree) → s2 ≡ s1 → StagedAt s2 area table' (begun_at A i e) (staged_with S i e)
    begun_after t A S has can told attr live table' row' set_is in_step row_is s2 same =
        begun_there t limits area table A S i e can h s1 (made_so t has) told attr live table' row' set_is in_step row_is s2 same
