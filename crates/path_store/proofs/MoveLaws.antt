-- A store after a name has moved, with all that lies under it.
use Rattle.std.proofs.Common.{◌⊎◌, inl, inr, ◌≡◌, ◌≢◌, ℕ, true, false, List, [], ◌∷◌, ◌++◌, length, Some, IsSome, is_some, option_map, refl, sym, ap, ◌∙◌}
use Rattle.std.specs.FinMap.{get, insert, remove}
use Rattle.slab.specs.Slab.{get as slot}
use Rattle.nfs2_types.specs.Names.{is_name}
use Rattle.server_trait.proofs.TreeLaws.{bytes_or_not, one_or_not, get-insert_same, get-insert_other, get-remove_same, get-remove_other, some_same, some_none}
use Rattle.server_trait.proofs.SoftLaws.{some_of}
use Rattle.path_store.specs.Stored.{Paths, joined, is_under, moved_path}
use Rattle.path_store.specs.Placed.{Keys, Rows, Dirs, row_at, last_part, names_in, IsRowAt, IsKeyed, IsPlaced}
use Rattle.path_store.specs.Changes.{MovesUnder}
use Rattle.path_store.specs.declared.row.PathRow.{PathRow}
use Rattle.path_store.proofs.PlacedLaws.{map_some, row_of_key, key_of_row, some_is, same_found, dir_of, no_slash_at, one_name, names_sound, names_complete, names_of_named}
use Rattle.path_store.proofs.ReadyLaws.{IsReady}
use Rattle.path_store.proofs.KeyMoves.{keys_along, keys_back, dirs_along}
use Rattle.path_store.proofs.SlashLaws.{true_or_false, last_part-joined, name_no_slash, joined_not_nil, not_nil, under_of, moved_other, moved_self, moved_joined, moved_is_under}

-- what is under a name's path is not the root's
pub under_not_nil : (top name path : List ℕ) → is_under (joined top name) path ≡ true → path ≢ []
under_not_nil top name path t e = let u = under_of (joined top name) path t in by_top top u.0 (sym e ∙ u.1)
  where
    by_top : (top rest : List ℕ) → [] ≡ joined top name ++ rest → ⊥
    by_top [] rest z = not_nil _ _ (sym z)
    by_top (b ∷ top) rest z = not_nil _ _ (sym z)

module _ (keys : Keys) (rows : Rows) (dirs : Dirs) (from name to to_name moved top to_top : List ℕ)
    (ready : IsReady keys rows dirs from name to to_name moved top to_top) (new_keys : Keys) (new_rows : Rows)
    (new_dirs : Dirs)
    (moves : MovesUnder (joined top name) (joined to_top to_name) (record { dir = to; to = moved })
    keys rows dirs new_keys new_rows new_dirs) where
  abbrev old : List ℕ
  old = joined top name

  abbrev new : List ℕ
  new = joined to_top to_name

  abbrev shift : List ℕ → List ℕ
  shift = moved_path (joined top name) (joined to_top to_name)

  abbrev row : PathRow
  row = record { dir = to; to = moved }

  -- the row before
  slot_before : slot rows moves.key ≡ Some ready.row_before
  slot_before = sym (row_of_key keys rows old moves.key moves.key_is) ∙ ready.found_before

  key_along : (x : List ℕ) (k : ℕ) → get keys x ≡ Some k → get new_keys (shift x) ≡ Some k
  key_along x k found = ap (λ m. get m (shift x)) moves.keys_are
      ∙ keys_along old new ready.off keys moves.entries moves.all_under ready.nothing_new x k found

  key_back : (x : List ℕ) (k : ℕ) → get new_keys x ≡ Some k → (y : List ℕ) × (get keys y ≡ Some k) × (x ≡ shift y)
  key_back x k found = keys_back old new ready.off keys moves.entries moves.all_under ready.nothing_new x k
      (sym (ap (λ m. get m x) moves.keys_are) ∙ found)

  -- the other keys keep their rows
  slot_kept : (y : List ℕ) (k : ℕ) → y ≢ old → get keys y ≡ Some k → slot new_rows k ≡ slot rows k
  slot_kept y k ne found = moves.rows_are.others k (λ e. ne (ready.placed.keyed.once y old k found (moves.key_is
      ∙ ap Some (sym e))))

  here : row_at new_keys new_rows new ≡ Some row
  here = row_of_key new_keys new_rows new moves.key
      (ap (get new_keys) (sym (moved_self old new)) ∙ key_along old moves.key moves.key_is) ∙ moves.rows_are.changed

  row_along : (y : List ℕ) (r : PathRow) → y ≢ old → row_at keys rows y ≡ Some r →
      row_at new_keys new_rows (shift y) ≡ Some r
  row_along y r ne found =
      let k = key_of_row keys rows y r found in
      row_of_key new_keys new_rows (shift y) k.0 (key_along y k.0 k.1) ∙ slot_kept y k.0 ne k.1 ∙ k.2

  row_back : (x : List ℕ) (r : PathRow) → row_at new_keys new_rows x ≡ Some r →
      ((x ≡ new) × (r ≡ row)) ⊎ ((y : List ℕ) × (y ≢ old) × (row_at keys rows y ≡ Some r) × (x ≡ shift y))
  row_back x r found =
      let k = key_of_row new_keys new_rows x r found in
      let y = key_back x k.0 k.1 in
      elim (bytes_or_not y.0 old) as (λ _. ((x ≡ new) × (r ≡ row)) ⊎ ((y : List ℕ) × (y ≢ old) ×
      (row_at keys rows y ≡ Some r) × (x ≡ shift y))) [
        | inl e ↦
            let key : k.0 ≡ moves.key = some_same y.1 (ap (get keys) e ∙ moves.key_is) in
            inl (
              y.2 ∙ ap shift e ∙ moved_self old new,
              some_same k.2 (ap (slot new_rows) key
                  ∙ moves.rows_are.changed),
            )
        | inr ne ↦ inr (y.0, ne, row_of_key keys rows y.0 k.0 y.1 ∙ sym (slot_kept y.0 k.0 ne y.1) ∙ k.2, y.2)
      ]

  keyed_after : IsKeyed new_keys new_rows
  keyed_after = record {
    has_row = λ x k found.
        let y = key_back x k found in
        elim (one_or_not k moves.key) as (λ _. IsSome (slot new_rows k)) [
          | inl e ↦ some_is (slot new_rows k) (ap (slot new_rows) e ∙ moves.rows_are.changed)
          | inr ne ↦ (let r = some_of (slot rows k) (ready.placed.keyed.has_row y.0 k y.1) in some_is
              (slot new_rows k)
              (moves.rows_are.others k ne ∙ r.1))
        ];
    once = λ x z k found found'.
        let y = key_back x k found in
        let y' = key_back z k found' in
        y.2 ∙ ap shift (ready.placed.keyed.once y.0 y'.0 k y.1 y'.1) ∙ sym y'.2;
    used = λ k there. elim (one_or_not k moves.key) as (λ _. (x : List ℕ) × (get new_keys x ≡ Some k)) [
      | inl e ↦ (shift old, key_along old moves.key moves.key_is ∙ ap Some (sym e))
      | inr ne ↦
          let q = ready.placed.keyed.used k (ap is_some (sym (moves.rows_are.others k ne)) ∙ there) in
          (shift q.0, key_along q.0 k q.1)
    ];
  }

  -- rows lead to where they led
  led_before : (p : List ℕ) (k : ℕ) (r : PathRow) → get keys p ≡ Some k → slot new_rows k ≡ Some r →
      (s : PathRow) × (slot rows k ≡ Some s) × (s.to ≡ r.to)
  led_before p k r found after = elim (one_or_not k moves.key) as (λ _. (s : PathRow) × (slot rows k ≡ Some s) ×
      (s.to ≡ r.to)) [
        | inl e ↦ (
          ready.row_before,
          ap (slot rows) e ∙ slot_before,
          ready.leads_before ∙ ap (λ (x : PathRow). x.to)
              (some_same moves.rows_are.changed (ap (slot new_rows) (sym e) ∙ after)),
        )
        | inr ne ↦ (r, sym (moves.rows_are.others k ne) ∙ after, refl)
      ]

  leads_after : (p : List ℕ) (k : ℕ) (s : PathRow) → get keys p ≡ Some k → slot rows k ≡ Some s →
      (r : PathRow) × (slot new_rows k ≡ Some r) × (r.to ≡ s.to)
  leads_after p k s found before = elim (one_or_not k moves.key) as (λ _. (r : PathRow) ×
      (slot new_rows k ≡ Some r) × (r.to ≡ s.to)) [
        | inl e ↦ (
          row,
          ap (slot new_rows) e ∙ moves.rows_are.changed,
          sym ready.leads_before
              ∙ ap (λ (x : PathRow). x.to) (some_same slot_before (ap (slot rows) (sym e) ∙ before)),
        )
        | inr ne ↦ (s, moves.rows_are.others k ne ∙ before, refl)
      ]

  pub dirs_moved : (x : List ℕ) → get new_dirs x ≡ option_map shift (get dirs x)
  dirs_moved x = ap (λ m. get m x) moves.dirs_are
      ∙ dirs_along old new keys rows new_rows dirs moves.entries ready.placed.tree moves.all_under
      (under_not_nil top name) led_before leads_after x

  dir_back : (x p : List ℕ) → get new_dirs x ≡ Some p → (q : List ℕ) × (get dirs x ≡ Some q) × (shift q ≡ p)
  dir_back x p found = map_some shift (get dirs x) p (sym (dirs_moved x) ∙ found)

  dir_along : (x q : List ℕ) → get dirs x ≡ Some q → get new_dirs x ≡ Some (shift q)
  dir_along x q found = dirs_moved x ∙ ap (option_map shift) found

  -- a row's path moves as its directory's
  path_moved : (y : List ℕ) (r : PathRow) (t : List ℕ) → y ≢ old → row_at keys rows y ≡ Some r →
      get dirs r.dir ≡ Some t →
      shift y ≡ joined (shift t) (last_part y)
  path_moved y r t ne found t_is =
      let path = (ready.placed.tree.placed y r found).path_is t t_is in
      ap shift path ∙ moved_joined old new t (last_part y)
      (no_slash_at (row_at keys rows) dirs ready.placed.tree y r found) (λ e. ne (path ∙ e))

  name_kept : (y : List ℕ) (r : PathRow) → y ≢ old → row_at keys rows y ≡ Some r → last_part (shift y) ≡ last_part y
  name_kept y r ne found =
      let d = dir_of (row_at keys rows) dirs ready.placed.tree y r found in
      ap last_part (path_moved y r d.0 ne found d.1)
      ∙ last_part-joined (shift d.0) (last_part y) (no_slash_at (row_at keys rows) dirs ready.placed.tree y r found)

  new_last : last_part new ≡ to_name
  new_last = last_part-joined to_top to_name (name_no_slash to_name ready.new_is_name)

  moved_fits : length moved ≡ 32
  moved_fits = ap length (sym ready.leads_before)
      ∙ (ready.placed.tree.placed old ready.row_before ready.found_before).to_fits

  to_after : get new_dirs to ≡ Some to_top
  to_after = dir_along to to_top ready.to_is ∙ ap Some (moved_other old new to_top ready.to_outside)

  row_placed : (x : List ℕ) (r : PathRow) → row_at new_keys new_rows x ≡ Some r → IsRowAt new_dirs x r
  row_placed x r found = elim (row_back x r found) as (λ _. IsRowAt new_dirs x r) [
    | inl n ↦
        let dir_is : get new_dirs r.dir ≡ Some to_top = ap (λ (z : PathRow). get new_dirs z.dir) n.1 ∙ to_after in
        record {
          in_dir = some_is (get new_dirs r.dir) dir_is;
          path_is = λ t t_is. n.0 ∙ ap (λ l. joined l to_name) (some_same dir_is t_is)
              ∙ ap (joined t) (sym (ap last_part n.0 ∙ new_last));
          name_is = ap is_name (ap last_part n.0 ∙ new_last) ∙ ready.new_is_name;
          to_fits = ap (λ (z : PathRow). length z.to) n.1 ∙ moved_fits;
        }
    | inr b ↦
        let p = ready.placed.tree.placed b.0 r b.2 in
        let d = dir_of (row_at keys rows) dirs ready.placed.tree b.0 r b.2 in
        let dir_is = dir_along r.dir d.0 d.1 in
        let same : last_part x ≡ last_part b.0 = ap last_part b.3 ∙ name_kept b.0 r b.1 b.2 in
        record {
          in_dir = some_is (get new_dirs r.dir) dir_is;
          path_is = λ t t_is. b.3 ∙ path_moved b.0 r d.0 b.1 b.2 d.1
              ∙ ap (λ l. joined l (last_part b.0)) (some_same dir_is t_is) ∙ ap (joined t) (sym same);
          name_is = ap is_name same ∙ p.name_is;
          to_fits = p.to_fits;
        }
  ]

  nil_back : (q : List ℕ) → shift q ≡ [] → q ≡ []
  nil_back q e = elim (true_or_false (is_under old q)) as (λ _. q ≡ []) [
    | inl t ↦ absurd (under_not_nil to_top to_name (shift q) (moved_is_under old new q t) e)
    | inr f ↦ sym (moved_other old new q f) ∙ e
  ]

  there : (x p : List ℕ) → get new_dirs x ≡ Some p → p ≢ [] → IsSome (row_at new_keys new_rows p)
  there x p x_is ne =
      let d = dir_back x p x_is in
      elim (bytes_or_not d.0 old) as (λ _. IsSome (row_at new_keys new_rows p)) [
        | inl e ↦ some_is (row_at new_keys new_rows p) (ap (row_at new_keys new_rows) (sym d.2 ∙ ap shift e
            ∙ moved_self old new) ∙ here)
        | inr other ↦
            let deep : d.0 ≢ [] = λ e. ne (sym d.2 ∙ ap shift e ∙ moved_other old new [] (root_outside)) in
            let r = some_of (row_at keys rows d.0) (ready.placed.tree.there x d.0 d.1 deep) in
            some_is (row_at new_keys new_rows p) (ap (row_at new_keys new_rows) (sym d.2)
            ∙ row_along d.0 r.0 other r.1)
      ]
    where
      root_outside : is_under old [] ≡ false
      root_outside = elim (true_or_false (is_under old [])) as (λ _. is_under old [] ≡ false) [
        | inl t ↦ absurd (under_not_nil top name [] t refl)
        | inr f ↦ f
      ]

  only : (x p z : List ℕ) (r : PathRow) → get new_dirs x ≡ Some p → row_at new_keys new_rows z ≡ Some r → r.to ≡ x →
      p ≡ z
  only x p z r x_is found leads_to =
      let d = dir_back x p x_is in
      elim (row_back z r found) as (λ _. p ≡ z) [
        | inl n ↦
            let to_it : ready.row_before.to ≡ x = ready.leads_before ∙ sym (ap (λ (w : PathRow). w.to) n.1)
            ∙ leads_to in
            sym d.2 ∙ ap shift (ready.placed.tree.only x d.0 old ready.row_before d.1 ready.found_before to_it)
            ∙ moved_self old new ∙ sym n.0
        | inr b ↦ sym d.2 ∙ ap shift (ready.placed.tree.only x d.0 b.0 r d.1 b.2 leads_to) ∙ sym b.3
      ]

  own : (x p : List ℕ) (r : PathRow) → get new_dirs x ≡ Some p → row_at new_keys new_rows p ≡ Some r → r.to ≡ x
  own x p r x_is found =
      let d = dir_back x p x_is in
      elim (bytes_or_not d.0 old) as (λ _. r.to ≡ x) [
        | inl e ↦
            let row_is : r ≡ row = some_same found (ap (row_at new_keys new_rows) (sym d.2 ∙ ap shift e
            ∙ moved_self old new) ∙ here) in
            ap (λ (w : PathRow). w.to) row_is ∙ sym ready.leads_before
            ∙ ready.placed.tree.own x old ready.row_before (d.1 ∙ ap Some e) ready.found_before
        | inr ne ↦
            let deep : d.0 ≢ [] = λ e. root_has_no_row (sym d.2 ∙ ap shift e) in
            let s = some_of (row_at keys rows d.0) (ready.placed.tree.there x d.0 d.1 deep) in
            let same : r ≡ s.0 = some_same found (ap (row_at new_keys new_rows) (sym d.2)
            ∙ row_along d.0 s.0 ne s.1) in
            ap (λ (w : PathRow). w.to) same ∙ ready.placed.tree.own x d.0 s.0 d.1 s.1
      ]
    where
      root_has_no_row : p ≡ shift [] → ⊥
      root_has_no_row e = elim (true_or_false (is_under old [])) [
        | inl t ↦ under_not_nil top name [] t refl
        | inr f ↦
            let t = some_of (get new_dirs r.dir) (row_placed p r found).in_dir in
            joined_not_nil t.0 (last_part p) (sym ((row_placed p r found).path_is t.0 t.1) ∙ e
            ∙ moved_other old new [] f)
      ]

  pub placed_moved : IsPlaced new_keys new_rows new_dirs
  placed_moved = record {
    keyed = keyed_after;
    tree = record {
      placed = row_placed;
      rooted = λ x z a b.
          let d = dir_back x [] a in
          let f = dir_back z [] b in
          ready.placed.tree.rooted x z (d.1 ∙ ap Some (nil_back d.0 d.2)) (f.1 ∙ ap Some (nil_back f.0 f.2));
      there = there;
      own = own;
      only = only;
      fits = λ x p x_is. let d = dir_back x p x_is in ready.placed.tree.fits x d.0 d.1;
    };
  }

  -- the key of the name that moves
  name_key : ready.row_before.dir ++ last_part old ≡ from ++ name
  name_key = ap (λ l. l ++ last_part old) ready.dir_before
      ∙ ap (λ l. from ++ l) (last_part-joined top name ready.name_flat)

  abbrev names_then : Paths
  names_then = insert (remove (names_in keys rows) (from ++ name)) (to ++ to_name) moved

  pub names_moved : names_in new_keys new_rows ≡ names_then
  names_moved = same_found (names_in new_keys new_rows) names_then (
      λ k h found.
      let n = names_sound new_keys new_rows k h found in
      elim (row_back n.path n.row n.found) as (λ _. get names_then k ≡ Some h) [
        | inl e ↦
            let key : k ≡ to ++ to_name = n.key_is ∙ ap (λ (w : PathRow). w.dir ++ last_part n.path) e.1
            ∙ ap (λ l. to ++ l) (ap last_part e.0 ∙ new_last) in
            ap (get names_then) key ∙ get-insert_same (remove (names_in keys rows) (from ++ name)) (to ++ to_name)
            moved
            ∙ ap Some (sym (ap (λ (w : PathRow). w.to) e.1) ∙ n.leads)
        | inr b ↦
            let key : k ≡ n.row.dir ++ last_part b.0 = n.key_is ∙ ap (λ l. n.row.dir ++ l) (ap last_part b.3
            ∙ name_kept b.0 n.row b.1 b.2) in
            let before = names_of_named keys rows dirs ready.placed.tree k h
            (record { path = b.0; row = n.row; found = b.2; key_is = key; leads = n.leads }) in
            let other : k ≢ to ++ to_name = λ e. some_none (ap (get (names_in keys rows)) (sym e) ∙ before)
            ready.new_name in
            let apart_too : k ≢ from ++ name = λ e. b.1 (one_name (row_at keys rows) dirs ready.placed.tree b.0 old
            n.row
            ready.row_before b.2 ready.found_before (sym key ∙ e ∙ sym name_key)) in
            get-insert_other (remove (names_in keys rows) (from ++ name)) (to ++ to_name) moved k other
            ∙ get-remove_other (names_in keys rows) (from ++ name) k apart_too ∙ before
      ]
      ) (
      λ k h found. elim (bytes_or_not k (to ++ to_name)) as (λ _. get (names_in new_keys new_rows) k ≡ Some h) [
        | inl e ↦
            ap (get (names_in new_keys new_rows)) (e ∙ ap (λ l. to ++ l) (sym new_last))
            ∙ names_complete new_keys new_rows new_dirs placed_moved.tree new row here
            ∙ sym (ap (get names_then) e ∙ get-insert_same (remove (names_in keys rows) (from ++ name))
            (to ++ to_name) moved) ∙ found
        | inr ne ↦
            let left : get (remove (names_in keys rows) (from ++ name)) k ≡ Some h =
            sym (get-insert_other (remove (names_in keys rows) (from ++ name)) (to ++ to_name) moved k ne)
            ∙ found in
            let other : k ≢ from ++ name = λ e. some_none left
            (ap (get (remove (names_in keys rows) (from ++ name))) e
            ∙ get-remove_same (names_in keys rows) (from ++ name)) in
            let n = names_sound keys rows k h (sym (get-remove_other (names_in keys rows) (from ++ name) k other)
            ∙ left) in
            let not_it : n.path ≢ old = λ e. other (n.key_is ∙ ap (λ (w : PathRow). w.dir ++ last_part n.path)
            (some_same n.found (ap (row_at keys rows) e ∙ ready.found_before))
            ∙ ap (λ l. ready.row_before.dir ++ last_part l) e ∙ name_key) in
            names_of_named new_keys new_rows new_dirs placed_moved.tree k h (record {
              path = shift n.path;
              row = n.row;
              found = row_along n.path n.row not_it n.found;
              key_is = n.key_is ∙ ap (λ l. n.row.dir ++ l) (sym (name_kept n.path n.row not_it n.found));
              leads = n.leads;
            })
      ]
      )
