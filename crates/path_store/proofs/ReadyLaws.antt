-- Where a name may move, nothing lies in its way.
use Rattle.std.proofs.Common.{inl, inr, ◌≡◌, ℕ, true, false, List, ◌++◌, Some, None, IsSome, sym, ap, ◌∙◌, subst}
use Rattle.std.specs.FinMap.{get}
use Rattle.slab.specs.Slab.{get as slot}
use Rattle.nfs2_types.specs.Names.{is_name}
use Rattle.server_trait.proofs.TreeLaws.{some_none}
use Rattle.server_trait.proofs.SoftLaws.{some_of}
use Rattle.path_store.specs.Stored.{joined, is_under, moved_path, IsAtOrBelow}
use Rattle.path_store.specs.Placed.{Keys, Rows, Dirs, row_at, has_slash, last_part, names_in, IsPlaced}
use Rattle.path_store.specs.declared.row.PathRow.{PathRow}
use Rattle.path_store.proofs.PlacedLaws.{row_of_key, key_of_row, no_key, some_is, dir_of, no_slash_at, no_row, named_in}
use Rattle.path_store.proofs.BelowLaws.{above}
use Rattle.path_store.proofs.SlashLaws.{Under, true_or_false, not_both, name_no_slash, joined_not_nil, slash_split, under_of, under_is, under_cases, under_both, moved_from}

-- what holds before a name moves: its row, and that nothing lies at its new path or under it
pub record IsReady (keys : Keys) (rows : Rows) (dirs : Dirs) (from name to to_name moved top to_top : List ℕ) : Type 0
  where
    pub placed : IsPlaced keys rows dirs
    pub to_is : get dirs to ≡ Some to_top
    pub name_flat : has_slash name ≡ false
    pub new_is_name : is_name to_name ≡ true
    pub row_before : PathRow
    pub found_before : row_at keys rows (joined top name) ≡ Some row_before
    pub dir_before : row_before.dir ≡ from
    pub leads_before : row_before.to ≡ moved
    pub new_name : get (names_in keys rows) (to ++ to_name) ≡ None
    pub nothing_new : (x : List ℕ) (k : ℕ) → get keys x ≡ Some k → is_under (joined to_top to_name) x ≡ true → ⊥
    pub to_outside : is_under (joined top name) to_top ≡ false
    pub off : (p : List ℕ) → is_under (joined top name) p ≡ true →
        is_under (joined top name) (moved_path (joined top name) (joined to_top to_name) p) ≡ false

module _ (keys : Keys) (rows : Rows) (dirs : Dirs) (from name to to_name moved top to_top : List ℕ)
    (placed : IsPlaced keys rows dirs)
    (from_is : get dirs from ≡ Some top) (to_is : get dirs to ≡ Some to_top) (is : is_name name ≡ true)
    (to_ok : is_name to_name ≡ true)
    (leads : get (names_in keys rows) (from ++ name) ≡ Some moved)
    (new_name : get (names_in keys rows) (to ++ to_name) ≡ None)
    (apart : IsSome (get dirs moved) → IsAtOrBelow (names_in keys rows) moved to → ⊥) where
  abbrev old : List ℕ
  old = joined top name

  abbrev new : List ℕ
  new = joined to_top to_name

  abbrev shift : List ℕ → List ℕ
  shift = moved_path (joined top name) (joined to_top to_name)

  gone : (row : PathRow) × (row_at keys rows old ≡ Some row) × (row.dir ≡ from) × (row.to ≡ moved)
  gone = named_in keys rows dirs placed.tree from top name moved from_is leads

  free : row_at keys rows new ≡ None
  free = no_row keys rows dirs placed.tree to to_top to_name to_is (name_no_slash to_name to_ok) new_name

  -- the moved name's key
  moved_key : (key : ℕ) × (get keys old ≡ Some key) × (slot rows key ≡ Some gone.0)
  moved_key = key_of_row keys rows old gone.0 gone.1

  -- no path lies under the new one
  nothing_new : (x : List ℕ) (k : ℕ) → get keys x ≡ Some k → is_under new x ≡ true → ⊥
  nothing_new x k found under = elim (under_cases new x under) [
    | inl e ↦ some_none (sym (ap (get keys) e) ∙ found) (no_key keys rows new placed.keyed free)
    | inr rest ↦
        let row = some_of (slot rows k) (placed.keyed.has_row x k found) in
        let at_x = row_of_key keys rows x k found ∙ row.1 in
        let d = dir_of (row_at keys rows) dirs placed.tree x row.0 at_x in
        let up = above keys rows dirs placed.tree row.0.dir new d.0 d.1
        (under_is new d.0 (slash_split new rest.0 d.0 (last_part x) (sym rest.1
        ∙ d.2) (no_slash_at (row_at keys rows) dirs placed.tree x row.0 at_x))) in
        let other = some_of (row_at keys rows new)
        (placed.tree.there up.above new up.is_dir (joined_not_nil to_top to_name)) in
        some_none other.1 free
  ]

  -- the other directory's path does not lie under the old path
  to_outside : is_under old to_top ≡ false
  to_outside = elim (true_or_false (is_under old to_top)) as (λ _. is_under old to_top ≡ false) [
    | inr f ↦ f
    | inl t ↦ absurd (
        let up = above keys rows dirs placed.tree to old to_top to_is t in
        let same : moved ≡ up.above = sym gone.3 ∙ placed.tree.own up.above old gone.0 up.is_dir gone.1 in
        apart (some_is (get dirs moved) (ap (get dirs) same ∙ up.is_dir))
        (subst (λ h. IsAtOrBelow (names_in keys rows) h to) (sym same) up.below)
        )
  ]

  new_outside : Under old new → ⊥
  new_outside u = elim (under_cases old new (under_is old new u)) [
    | inl e ↦ some_none (ap (row_at keys rows) e ∙ gone.1) free
    | inr rest ↦ not_both (under_is old to_top (slash_split old rest.0 to_top to_name (sym rest.1)
        (name_no_slash to_name to_ok))) to_outside
  ]

  old_outside : Under new old → ⊥
  old_outside u = nothing_new old moved_key.0 moved_key.1 (under_is new old u)

  off : (p : List ℕ) → is_under old p ≡ true → is_under old (shift p) ≡ false
  off p t = elim (true_or_false (is_under old (shift p))) as (λ _. is_under old (shift p) ≡ false) [
    | inr f ↦ f
    | inl s ↦ absurd (
        let u = under_of old p t in
        let v = under_of old (shift p) s in
        elim (under_both old new v.0 u.0 (sym v.1 ∙ moved_from old new p u) v.2 u.2) [
          | inl a ↦ new_outside a
          | inr b ↦ old_outside b
        ]
        )
  ]

  pub ready_to_move : IsReady keys rows dirs from name to to_name moved top to_top
  ready_to_move = record {
    placed = placed;
    to_is = to_is;
    name_flat = name_no_slash name is;
    new_is_name = to_ok;
    row_before = gone.0;
    found_before = gone.1;
    dir_before = gone.2;
    leads_before = gone.3;
    new_name = new_name;
    nothing_new = nothing_new;
    to_outside = to_outside;
    off = off;
  }
