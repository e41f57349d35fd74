-- What the calls of a store answer and leave, from what it keeps.
use Rattle.std.proofs.Common.{inl, inr, ◌≡◌, ◌↔◌, ℕ, Bool, true, false, if◌then◌else◌, List, [], ◌∷◌, ◌++◌, length, drop, Option, Some, None, IsSome, is_some, slice_index_or, option_map, refl, sym, ap, ◌∙◌, subst}
use Rattle.std.specs.FinMap.{get, insert, empty, get-empty}
use Rattle.std.specs.Ordering.{nat_cmp}
use Rattle.std.specs.Cmp.Lexicographic.{slice_cmp}
use Rattle.nfs2_types.specs.Names.{is_name}
use Rattle.server_trait.specs.Calls.{Lists}
use Rattle.server_trait.specs.declared.server.Listed.{Listed}
use Rattle.server_trait.proofs.TreeLaws.{bytes_or_not, get-insert_same, get-insert_other, some_same, some_none}
use Rattle.server_trait.proofs.SoftLaws.{some_of}
use Rattle.path_store.specs.Stored.{Stored, Paths, joined, is_under, moved_path, names_of, only_root, IsDir, IsAtOrBelow, Moves}
use Rattle.path_store.specs.Placed.{Keys, Rows, Dirs, row_at, last_part, names_in, stored_as, IsPlaced}
use Rattle.path_store.specs.Changes.{IsPathOf, MovesUnder}
use Rattle.path_store.specs.Walks.{ListsRows, StandUnder}
use Rattle.path_store.specs.declared.row.PathRow.{PathRow}
use Rattle.path_store.proofs.NameLaws.{get-names_of}
use Rattle.path_store.proofs.BelowLaws.{below_if_under}
use Rattle.path_store.proofs.MoveLaws.{placed_moved, names_moved, dirs_moved}
use Rattle.path_store.proofs.ReadyLaws.{ready_to_move}
use Rattle.path_store.proofs.PlacedLaws.{same_found, key_of_row, dir_of, named_in, names_sound, names_complete, get-names_in, names_of_none}
use Rattle.path_store.proofs.SlashLaws.{name_no_slash}

-- A NEW STORE

pub started : (root : List ℕ) (keys : Keys) (rows : Rows) (dirs : Dirs) → keys ≡ empty → rows.slots ≡ [] →
    dirs ≡ insert empty root [] → length root ≡ 32 →
    IsPlaced keys rows dirs × (stored_as true keys rows dirs ≡ only_root root)
started root keys rows dirs no_keys no_rows dirs_are fits = (
  record {
    keyed = record {
      has_row = λ path key is. absurd (no_key path key is);
      once = λ path other key is _. absurd
          (no_key path key is);
      used = λ key there. absurd
          (let bad : true ≡ false = sym there ∙ ap (λ l. is_some (slice_index_or l key None)) no_rows in cc);
    };
    tree = record {
      placed = λ path row is. absurd (no_row path row is);
      rooted = λ dir other a b. (only_one dir [] a).0 ∙ sym (only_one other [] b).0;
      there = λ dir path is ne. absurd (ne (only_one dir path is).1);
      own = λ dir path row _ is. absurd (no_row path row is);
      only = λ dir path other row _ is _. absurd (no_row other row is);
      fits = λ dir path is. ap length (only_one dir path is).0 ∙ fits;
    };
  },
  ap (λ (d : Dirs). stored_as true keys rows d) dirs_are
      ∙ ap (λ (n : Paths). let t : Stored = record { whole = true; dirs = insert empty root []; names = n } in t)
      no_names,
)
  where
    no_key : (path : List ℕ) (key : ℕ) → get keys path ≡ Some key → ⊥
    no_key path key is = some_none is (ap (λ n. get n path) no_keys ∙ get-empty (slice_cmp nat_cmp) path)

    no_row : (path : List ℕ) (row : PathRow) → row_at keys rows path ≡ Some row → ⊥
    no_row path row is = let k = key_of_row keys rows path row is in no_key path k.0 k.1

    only_one : (dir path : List ℕ) → get dirs dir ≡ Some path → (dir ≡ root) × (path ≡ [])
    only_one dir path is = elim (bytes_or_not dir root) as (λ _. (dir ≡ root) × (path ≡ [])) [
      | inl e ↦ (
        e,
        some_same is (ap (λ n. get n dir) dirs_are ∙ ap (get (insert empty root [])) e
            ∙ get-insert_same empty root []),
      )
      | inr ne ↦ absurd (some_none is (ap (λ n. get n dir) dirs_are ∙ get-insert_other empty root [] dir ne
          ∙ get-empty (slice_cmp nat_cmp) dir))
    ]

    no_names : names_in keys rows ≡ empty
    no_names = same_found (names_in keys rows) empty
        (λ k h is. let n = names_sound keys rows k h is in absurd (no_row n.path n.row n.found))
        (λ k h is. absurd (some_none is (get-empty (slice_cmp nat_cmp) k)))

-- LOOKING

module _ (s : Stored) (whole : Bool) (keys : Keys) (rows : Rows) (dirs : Dirs)
    (view : stored_as whole keys rows dirs ≡ s)
    (placed : whole ≡ true → IsPlaced keys rows dirs) (all : s.whole ≡ true) where
  pub is_placed : IsPlaced keys rows dirs
  is_placed = placed (ap (λ (t : Stored). t.whole) view ∙ all)

  pub names_are : names_in keys rows ≡ s.names
  names_are = ap (λ (t : Stored). t.names) view

  pub dirs_are : dirs ≡ s.dirs
  dirs_are = ap (λ (t : Stored). t.dirs) view

  pub dir_there : (dir : List ℕ) → IsDir s dir → IsSome (get dirs dir)
  dir_there dir there = subst (λ (d : Dirs). IsSome (get d dir)) (sym dirs_are) there

  pub got_none : (dir name : List ℕ) → length dir ≡ 32 → get dirs dir ≡ None → None ≡ get s.names (dir ++ name)
  got_none dir name fits none = sym (ap (λ n. get n (dir ++ name)) (sym names_are)
      ∙ names_of_none keys rows dirs is_placed.tree dir name fits none)

  pub got_some : (dir name top path : List ℕ) (o : Option (List ℕ)) → is_name name ≡ true → get dirs dir ≡ Some top →
      path ≡ joined top name →
      o ≡ option_map (λ row. row.to) (row_at keys rows path) → o ≡ get s.names (dir ++ name)
  got_some dir name top path o is is_dir path_is o_is =
      o_is ∙ ap (λ p. option_map (λ (row : PathRow). row.to) (row_at keys rows p)) path_is
      ∙ sym (get-names_in keys rows dirs is_placed.tree dir top name is_dir (name_no_slash name is))
      ∙ ap (λ n. get n (dir ++ name)) names_are

  -- the rows of a directory stand under its path
  pub stand_under : (dir top : List ℕ) → get dirs dir ≡ Some top → StandUnder dir top keys rows
  stand_under dir top is_dir path row found of_dir =
      let at = is_placed.tree.placed path row found in (
        last_part path,
        at.path_is top (ap (get dirs) of_dir ∙ is_dir),
        name_no_slash (last_part path) at.name_is,
      )

  pub lists_names : (dir top : List ℕ) (listed : List Listed) → get dirs dir ≡ Some top →
      ListsRows dir top keys rows listed → Lists listed (names_of s.names dir)
  lists_names dir top listed is_dir list = record {
    sound = λ k r at_k.
        let row = list.sound k r at_k in
        let d = dir_of (row_at keys rows) dirs is_placed.tree (joined top r.name) row.0 row.1 in
        let top_is : top ≡ d.0 = some_same is_dir (ap (get dirs) (sym row.2) ∙ d.1) in
        let name : r.name ≡ last_part (joined top r.name) = name_behind top d.0 r.name (last_part (joined top r.name))
        top_is d.2 in
        name_of r.name ∙ ap (λ l. get (names_in keys rows) (l ++ r.name)) (sym row.2)
        ∙ ap (λ l. get (names_in keys rows) (row.0.dir ++ l)) name
        ∙ names_complete keys rows dirs is_placed.tree (joined top r.name) row.0 row.1 ∙ ap Some row.3;
    complete = λ name h is.
        let row = named_in keys rows dirs is_placed.tree dir top name h is_dir (sym (name_of name) ∙ is) in
        let k = list.complete name row.0 row.1 row.2 in
        (k.0, k.1 ∙ ap (λ l. let r : Listed = record { name = name; handle = l } in Some r) row.3);
    once = list.once;
  }
    where
      name_of : (name : List ℕ) → get (names_of s.names dir) name ≡ get (names_in keys rows) (dir ++ name)
      name_of name = get-names_of dir (is_placed.tree.fits dir top is_dir) s.names name
          ∙ ap (λ n. get n (dir ++ name)) (sym names_are)

      name_behind : (p q n m : List ℕ) → p ≡ q → joined p n ≡ joined q m → n ≡ m
      name_behind p q n m same e = append_same p n m (e ∙ ap (λ l. joined l m) (sym same))
        where
          append_same : (p n m : List ℕ) → joined p n ≡ joined p m → n ≡ m
          append_same [] n m e = cc
          append_same (b ∷ p) n m e = append_same p n m (let f : b ∷ (p ++ 47 ∷ n) ≡ b ∷ (p ++ 47 ∷ m) = e in cc)

  -- whether something follows a directory's path in another's
  pub below_found : (top dir above path : List ℕ) {A : Type 0} (f : A → List ℕ) (r : Option A) (b : Bool) →
      get dirs top ≡ Some above → get dirs dir ≡ Some path →
      option_map f r ≡ (if is_under above path then Some (drop (length above) path) else None) → b ≡ is_some r →
      (b ≡ true) ↔ IsAtOrBelow s.names top dir
  below_found top dir above path f r b top_is dir_is r_is b_is =
      let both = below_if_under keys rows dirs is_placed.tree top dir above path top_is dir_is in
      let test : b ≡ is_under above path = b_is ∙ sym (mapped f r) ∙ ap is_some r_is ∙ same (is_under above path) in (
        λ t. subst (λ (n : Paths). IsAtOrBelow n top dir) names_are (both.0 (sym test ∙ t)),
        λ below. test ∙ both.1 (subst (λ (n : Paths). IsAtOrBelow n top dir) (sym names_are) below),
      )
    where
      same : (b : Bool) → is_some (if b then Some (drop (length above) path) else None) ≡ b
      same true = refl
      same false = refl

      mapped : {A : Type 0} (f : A → List ℕ) (r : Option A) → is_some (option_map f r) ≡ is_some r
      mapped f None = refl
      mapped f (Some x) = refl

-- MOVING

-- the moved name has a key
pub has_key : (from name moved old : List ℕ) (keys : Keys) (rows : Rows) (dirs : Dirs) (whole : Bool) (s : Stored) →
    stored_as whole keys rows dirs ≡ s →
    (whole ≡ true → IsPlaced keys rows dirs) → s.whole ≡ true → IsPathOf dirs from name old → IsDir s from →
    get s.names (from ++ name) ≡ Some moved → IsSome (get keys old)
has_key from name moved old keys rows dirs whole s view placed all old_is in_from leads =
    let p = is_placed s whole keys rows dirs view placed all in
    let top = some_of (get dirs from) (dir_there s whole keys rows dirs view placed all from in_from) in
    let row = named_in keys rows dirs p.tree from top.0 name moved top.1 (ap (λ n. get n (from ++ name))
    (names_are s whole keys rows dirs view placed all) ∙ leads) in
    let key = key_of_row keys rows (joined top.0 name) row.0 row.1 in
    ap (λ l. is_some (get keys l)) (old_is top.0 top.1) ∙ ap is_some key.1

pub renamed : (from name to to_name moved old new : List ℕ) (keys : Keys) (rows : Rows) (dirs : Dirs)
    (new_keys : Keys) (new_rows : Rows) (new_dirs : Dirs) (whole : Bool) (s : Stored) →
    stored_as whole keys rows dirs ≡ s → (whole ≡ true → IsPlaced keys rows dirs) → s.whole ≡ true →
    is_name name ≡ true → is_name to_name ≡ true →
    IsPathOf dirs from name old → IsPathOf dirs to to_name new → MovesUnder old new (record { dir = to; to = moved })
    keys rows dirs new_keys new_rows new_dirs →
    IsDir s from → IsDir s to → get s.names (from ++ name) ≡ Some moved → get s.names (to ++ to_name) ≡ None →
    (IsDir s moved → IsAtOrBelow s.names moved to → ⊥) → IsPlaced new_keys new_rows new_dirs ×
    Moves s from name to to_name moved (stored_as true new_keys new_rows new_dirs)
renamed from name to to_name moved old new keys rows dirs new_keys new_rows new_dirs whole s view placed = subst
    (λ (s : Stored). s.whole ≡ true → is_name name ≡ true → is_name to_name ≡ true →
    IsPathOf dirs from name old → IsPathOf dirs to to_name new → MovesUnder old new (record { dir = to; to = moved })
    keys rows dirs new_keys new_rows new_dirs →
    IsDir s from → IsDir s to → get s.names (from ++ name) ≡ Some moved → get s.names (to ++ to_name) ≡ None →
    (IsDir s moved → IsAtOrBelow s.names moved to → ⊥) → IsPlaced new_keys new_rows new_dirs ×
    Moves s from name to to_name moved (stored_as true new_keys new_rows new_dirs)) view
    (λ all is to_ok old_is new_is moves in_from in_to leads new_name apart.
    let top = some_of (get dirs from) in_from in
    let to_top = some_of (get dirs to) in_to in
    let ready = ready_to_move keys rows dirs from name to to_name moved top.0 to_top.0 (placed all)
    top.1 to_top.1 is to_ok leads new_name apart in
    let row : PathRow = record { dir = to; to = moved } in
    let new_moves = subst (λ n. MovesUnder old n row keys rows dirs new_keys new_rows new_dirs)
    (new_is to_top.0 to_top.1) moves in
    let moves_all : MovesUnder (joined top.0 name) (joined to_top.0 to_name) row keys rows dirs new_keys new_rows
    new_dirs =
    subst (λ o. MovesUnder o (joined to_top.0 to_name) row keys rows dirs new_keys new_rows new_dirs)
    (old_is top.0 top.1) new_moves in (
      placed_moved keys rows dirs from name to to_name moved top.0 to_top.0 ready new_keys new_rows new_dirs
          moves_all,
      record {
        whole = refl;
        names = names_moved keys rows dirs from name to to_name moved top.0 to_top.0 ready new_keys new_rows
            new_dirs moves_all;
        dirs = λ p q x p_is q_is.
            dirs_moved keys rows dirs from name to to_name moved top.0 to_top.0 ready new_keys new_rows new_dirs
            moves_all x
            ∙ ap (λ a. option_map (moved_path (joined a name) (joined to_top.0 to_name)) (get dirs x))
            (some_same top.1 p_is)
            ∙ ap (λ b. option_map (moved_path (joined p name) (joined b to_name)) (get dirs x))
            (some_same to_top.1 q_is);
      },
    ))
