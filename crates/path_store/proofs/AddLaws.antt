-- A store after a name was added.
use Rattle.std.proofs.Common.{◌⊎◌, inl, inr, ◌≡◌, ◌≢◌, ℕ, Bool, true, false, List, [], ◌++◌, length, Some, None, IsSome, is_some, refl, sym, ap, ap₂, ◌∙◌, subst}
use Rattle.std.specs.FinMap.{get, insert}
use Rattle.slab.specs.Slab.{get as slot}
use Rattle.nfs2_types.specs.Names.{is_name}
use Rattle.server_trait.proofs.TreeLaws.{bytes_or_not, one_or_not, get-insert_same, get-insert_other, some_same, some_none}
use Rattle.server_trait.proofs.SoftLaws.{some_of}
use Rattle.path_store.specs.Stored.{Stored, Paths, joined, with_name, IsDir, IsUnnamed, AddsDir}
use Rattle.path_store.specs.Placed.{Keys, Rows, Dirs, row_at, has_slash, last_part, names_in, stored_as, IsRowAt, IsKeyed, IsPlaced}
use Rattle.path_store.specs.Changes.{IsPathOf, PutsRow}
use Rattle.path_store.specs.declared.row.PathRow.{PathRow}
use Rattle.path_store.proofs.SlashLaws.{last_part-joined, name_no_slash, joined_not_nil}
use Rattle.path_store.proofs.PlacedLaws.{row_of_key, key_of_row, some_is, same_found, dir_of, names_sound, names_complete, names_of_named, no_row}

-- the rows after one more was put
module _ (keys : Keys) (rows : Rows) (path : List ℕ) (row : PathRow) (new_keys : Keys) (new_rows : Rows)
    (put : PutsRow keys rows path row new_keys new_rows)
    (keyed : IsKeyed keys rows) (free : row_at keys rows path ≡ None) where
  key_here : get new_keys path ≡ Some put.key
  key_here = ap (λ m. get m path) put.keys_are ∙ get-insert_same keys path put.key

  key_other : (q : List ℕ) → q ≢ path → get new_keys q ≡ get keys q
  key_other q ne = ap (λ m. get m q) put.keys_are ∙ get-insert_other keys path put.key q ne

  -- the key is none of the old
  new_key : (q : List ℕ) (k : ℕ) → get keys q ≡ Some k → k ≢ put.key
  new_key q k is e = let r = some_of (slot rows k) (keyed.has_row q k is) in some_none (ap (slot rows) (sym e)
      ∙ r.1) put.vacant

  pub put_here : row_at new_keys new_rows path ≡ Some row
  put_here = row_of_key new_keys new_rows path put.key key_here ∙ put.rows_are.changed

  pub put_other : (q : List ℕ) (r : PathRow) → q ≢ path → row_at new_keys new_rows q ≡ Some r →
      row_at keys rows q ≡ Some r
  put_other q r ne is =
      let k = key_of_row new_keys new_rows q r is in
      let old : get keys q ≡ Some k.0 = sym (key_other q ne) ∙ k.1 in
      row_of_key keys rows q k.0 old ∙ sym (put.rows_are.others k.0 (new_key q k.0 old)) ∙ k.2

  pub put_kept : (q : List ℕ) (r : PathRow) → row_at keys rows q ≡ Some r →
      (q ≢ path) × (row_at new_keys new_rows q ≡ Some r)
  put_kept q r is =
      let ne : q ≢ path = λ e. some_none (ap (row_at keys rows) (sym e) ∙ is) free in
      let k = key_of_row keys rows q r is in (
        ne,
        row_of_key new_keys new_rows q k.0 (key_other q ne ∙ k.1) ∙ put.rows_are.others k.0 (new_key q k.0 k.1)
            ∙ k.2,
      )

  pub keyed_after_put : IsKeyed new_keys new_rows
  keyed_after_put = record {
    has_row = λ q k is. elim (bytes_or_not q path) as (λ _. IsSome (slot new_rows k)) [
      | inl e ↦ some_is (slot new_rows k) (ap (slot new_rows) (some_same is (ap (get new_keys) e ∙ key_here))
          ∙ put.rows_are.changed)
      | inr ne ↦
          let old : get keys q ≡ Some k = sym (key_other q ne) ∙ is in
          let r = some_of (slot rows k) (keyed.has_row q k old) in
          some_is (slot new_rows k) (put.rows_are.others k (new_key q k old) ∙ r.1)
    ];
    once = λ q p k is is'. elim (bytes_or_not q path) as (λ _. q ≡ p) [
      | inl e ↦ elim (bytes_or_not p path) as (λ _. q ≡ p) [
        | inl f ↦ e ∙ sym f
        | inr nf ↦ absurd (new_key p k (sym (key_other p nf) ∙ is') (some_same is (ap (get new_keys) e ∙ key_here)))
      ]
      | inr ne ↦ elim (bytes_or_not p path) as (λ _. q ≡ p) [
        | inl f ↦ absurd (new_key q k (sym (key_other q ne) ∙ is) (some_same is' (ap (get new_keys) f ∙ key_here)))
        | inr nf ↦ keyed.once q p k (sym (key_other q ne) ∙ is) (sym (key_other p nf) ∙ is')
      ]
    ];
    used = λ k there. elim (one_or_not k put.key) as (λ _. (q : List ℕ) × (get new_keys q ≡ Some k)) [
      | inl e ↦ (path, key_here ∙ ap Some (sym e))
      | inr ne ↦
          let before : IsSome (slot rows k) = ap is_some (sym (put.rows_are.others k ne)) ∙ there in
          let q = keyed.used k before in
          let r = some_of (slot rows k) before in (
            q.0,
            key_other q.0 (λ e. some_none
                (sym (ap (row_at keys rows) e) ∙ row_of_key keys rows q.0 k q.1 ∙ r.1) free) ∙ q.1,
          )
    ];
  }

-- what the directories are then: as before, or with the new one
pub record DirsAfter (dirs : Dirs) (to path : List ℕ) (new_dirs : Dirs) : Type 0 where
  pub kept : (x p : List ℕ) → get dirs x ≡ Some p → get new_dirs x ≡ Some p
  pub new_one : (x p : List ℕ) → get new_dirs x ≡ Some p → (get dirs x ≡ Some p) ⊎ ((x ≡ to) × (p ≡ path))

pub same_dirs : (dirs : Dirs) (to path : List ℕ) → DirsAfter dirs to path dirs
same_dirs dirs to path = record { kept = λ x p is. is; new_one = λ x p is. inl is }

pub one_more_dir : (dirs : Dirs) (to path : List ℕ) → get dirs to ≡ None →
    DirsAfter dirs to path (insert dirs to path)
one_more_dir dirs to path none = record {
  kept = λ x p is. get-insert_other dirs to path x (λ e. some_none is (ap (get dirs) e ∙ none)) ∙ is;
  new_one = λ x p is. elim (bytes_or_not x to) as (λ _. (get dirs x ≡ Some p) ⊎ ((x ≡ to) × (p ≡ path))) [
    | inl e ↦ inr (e, some_same is (ap (get (insert dirs to path)) e ∙ get-insert_same dirs to path))
    | inr ne ↦ inl (sym (get-insert_other dirs to path x ne) ∙ is)
  ];
}

-- the tree with a row more
module _ (keys : Keys) (rows : Rows) (dirs : Dirs) (dir name top to : List ℕ) (new_keys : Keys) (new_rows : Rows)
    (new_dirs : Dirs)
    (placed : IsPlaced keys rows dirs) (is_dir : get dirs dir ≡ Some top) (is : is_name name ≡ true)
    (put : PutsRow keys rows (joined top name) (record { dir = dir; to = to }) new_keys new_rows)
    (new_name : get (names_in keys rows) (dir ++ name) ≡ None) (no_dir : get dirs to ≡ None) (fits : length to ≡ 32)
    (after : DirsAfter dirs to (joined top name) new_dirs)
    (unnamed : IsSome (get new_dirs to) → (key : List ℕ) → get (names_in keys rows) key ≡ Some to → ⊥) where
  abbrev row : PathRow
  row = record { dir = dir; to = to }

  abbrev path : List ℕ
  path = joined top name

  flat : has_slash name ≡ false
  flat = name_no_slash name is

  name_of : last_part (joined top name) ≡ name
  name_of = last_part-joined top name flat

  free : row_at keys rows (joined top name) ≡ None
  free = no_row keys rows dirs placed.tree dir top name is_dir flat new_name

  here : row_at new_keys new_rows (joined top name) ≡ Some row
  here = put_here keys rows path row new_keys new_rows put placed.keyed free

  other : (q : List ℕ) (r : PathRow) → q ≢ path → row_at new_keys new_rows q ≡ Some r → row_at keys rows q ≡ Some r
  other = put_other keys rows path row new_keys new_rows put placed.keyed free

  kept : (q : List ℕ) (r : PathRow) → row_at keys rows q ≡ Some r → (q ≢ path) × (row_at new_keys new_rows q ≡ Some r)
  kept = put_kept keys rows path row new_keys new_rows put placed.keyed free

  new_row : (q : List ℕ) (r : PathRow) → row_at new_keys new_rows q ≡ Some r → q ≡ path → r ≡ row
  new_row q r found e = some_same found (ap (row_at new_keys new_rows) e ∙ here)

  row_placed : (q : List ℕ) (r : PathRow) → row_at new_keys new_rows q ≡ Some r → IsRowAt new_dirs q r
  row_placed q r found = elim (bytes_or_not q path) as (λ _. IsRowAt new_dirs q r) [
    | inl e ↦
        let row_is = new_row q r found e in
        let dir_is : get new_dirs r.dir ≡ Some top = ap (λ (x : PathRow). get new_dirs x.dir) row_is
        ∙ after.kept dir top is_dir in
        record {
          in_dir = some_is (get new_dirs r.dir) dir_is;
          path_is = λ t t_is. e ∙ ap (λ l. joined l name) (some_same dir_is t_is)
              ∙ ap (joined t) (sym (ap last_part e ∙ name_of));
          name_is = ap is_name (ap last_part e ∙ name_of) ∙ is;
          to_fits = ap (λ (x : PathRow). length x.to) row_is ∙ fits;
        }
    | inr ne ↦
        let old = other q r ne found in
        let p = placed.tree.placed q r old in
        let d = dir_of (row_at keys rows) dirs placed.tree q r old in
        let dir_is = after.kept r.dir d.0 d.1 in
        record {
          in_dir = some_is (get new_dirs r.dir) dir_is;
          path_is = λ t t_is. d.2 ∙ ap (λ l. joined l (last_part q)) (some_same dir_is t_is);
          name_is = p.name_is;
          to_fits = p.to_fits;
        }
  ]

  -- the root's path, and the new directory's
  not_empty : path ≢ []
  not_empty = joined_not_nil top name

  root_there : (x : List ℕ) → get new_dirs x ≡ Some [] → get dirs x ≡ Some []
  root_there x x_is = elim (after.new_one x [] x_is) as (λ _. get dirs x ≡ Some [])
      [ inl o ↦ o | inr n ↦ absurd (not_empty (sym n.1)) ]

  there : (x p : List ℕ) → get new_dirs x ≡ Some p → p ≢ [] → IsSome (row_at new_keys new_rows p)
  there x p x_is ne = elim (after.new_one x p x_is) as (λ _. IsSome (row_at new_keys new_rows p)) [
    | inl o ↦ (let r = some_of (row_at keys rows p) (placed.tree.there x p o ne) in some_is
        (row_at new_keys new_rows p) (kept p r.0 r.1).1)
    | inr n ↦ some_is (row_at new_keys new_rows p) (ap (row_at new_keys new_rows) n.1 ∙ here)
  ]

  own : (x p : List ℕ) (r : PathRow) → get new_dirs x ≡ Some p → row_at new_keys new_rows p ≡ Some r → r.to ≡ x
  own x p r x_is found = elim (after.new_one x p x_is) as (λ _. r.to ≡ x) [
    | inl o ↦ elim (bytes_or_not p path) as (λ _. r.to ≡ x) [
      | inl e ↦ absurd (let old = some_of (row_at keys rows p)
          (placed.tree.there x p o (λ z. not_empty (sym e ∙ z))) in some_none (ap (row_at keys rows) (sym e) ∙ old.1)
          free)
      | inr ne ↦ placed.tree.own x p r o (other p r ne found)
    ]
    | inr n ↦ ap (λ (y : PathRow). y.to) (new_row p r found n.1) ∙ sym n.0
  ]

  only : (x p q : List ℕ) (r : PathRow) → get new_dirs x ≡ Some p → row_at new_keys new_rows q ≡ Some r → r.to ≡ x →
      p ≡ q
  only x p q r x_is found leads = elim (bytes_or_not q path) as (λ _. p ≡ q) [
    | inl e ↦
        let to_is : to ≡ x = sym (ap (λ (y : PathRow). y.to) (new_row q r found e)) ∙ leads in
        elim (after.new_one x p x_is) as (λ _. p ≡ q) [
          | inl o ↦ absurd (some_none (ap (get dirs) to_is ∙ o) no_dir)
          | inr n ↦ n.1 ∙ sym e
        ]
    | inr ne ↦
        let old = other q r ne found in
        elim (after.new_one x p x_is) as (λ _. p ≡ q) [
          | inl o ↦ placed.tree.only x p q r o old leads
          | inr n ↦ absurd (unnamed (some_is (get new_dirs to) (ap (get new_dirs) (sym n.0) ∙ x_is))
              (r.dir ++ last_part q)
              (names_complete keys rows dirs placed.tree q r old ∙ ap Some (leads ∙ n.0)))
        ]
  ]

  fits_all : (x p : List ℕ) → get new_dirs x ≡ Some p → length x ≡ 32
  fits_all x p x_is = elim (after.new_one x p x_is) as (λ _. length x ≡ 32) [
    | inl o ↦ placed.tree.fits x p o
    | inr n ↦ ap length n.0 ∙ fits
  ]

  pub placed_after : IsPlaced new_keys new_rows new_dirs
  placed_after = record {
    keyed = keyed_after_put keys rows path row new_keys new_rows put placed.keyed free;
    tree = record {
      placed = row_placed;
      rooted = λ x y a b. placed.tree.rooted x y (root_there x a) (root_there y b);
      there = there;
      own = own;
      only = only;
      fits = fits_all;
    };
  }

  pub names_after : names_in new_keys new_rows ≡ insert (names_in keys rows) (dir ++ name) to
  names_after = same_found _ _ (
      λ k h found.
      let n = names_sound new_keys new_rows k h found in
      elim (bytes_or_not n.path path) as (λ _. get (insert (names_in keys rows) (dir ++ name) to) k ≡ Some h) [
        | inl e ↦
            let row_is = new_row n.path n.row n.found e in
            let key : k ≡ dir ++ name = n.key_is ∙ ap (λ (x : PathRow). x.dir ++ last_part n.path) row_is
            ∙ ap (λ l. dir ++ l) (ap last_part e ∙ name_of) in
            ap (get (insert (names_in keys rows) (dir ++ name) to)) key
            ∙ get-insert_same (names_in keys rows) (dir ++ name) to
            ∙ ap Some (sym (ap (λ (x : PathRow). x.to) row_is) ∙ n.leads)
        | inr ne ↦
            let old = names_of_named keys rows dirs placed.tree k h
            (record {
              path = n.path;
              row = n.row;
              found = other n.path n.row ne n.found;
              key_is = n.key_is;
              leads = n.leads;
            }) in
            get-insert_other (names_in keys rows) (dir ++ name)
            to k (λ e. some_none (ap (get (names_in keys rows)) (sym e) ∙ old) new_name) ∙ old
      ]
      ) (
      λ k h found. elim (bytes_or_not k (dir ++ name)) as (λ _. get (names_in new_keys new_rows) k ≡ Some h) [
        | inl e ↦
            ap (get (names_in new_keys new_rows)) (e ∙ ap (λ l. dir ++ l) (sym name_of))
            ∙ names_complete new_keys new_rows new_dirs placed_after.tree path row here
            ∙ sym (ap (get (insert (names_in keys rows) (dir ++ name) to)) e
            ∙ get-insert_same (names_in keys rows) (dir ++ name) to) ∙ found
        | inr ne ↦
            let n = names_sound keys rows k h (sym (get-insert_other (names_in keys rows) (dir ++ name) to k ne)
            ∙ found) in
            names_of_named new_keys new_rows new_dirs placed_after.tree k h
            (record {
              path = n.path;
              row = n.row;
              found = (kept n.path n.row n.found).1;
              key_is = n.key_is;
              leads = n.leads;
            })
      ]
      )

-- THE CALLS

module _ (dir name to path : List ℕ) (keys : Keys) (rows : Rows) (dirs : Dirs) (new_keys : Keys) (new_rows : Rows)
    (whole : Bool)
    (placed : whole ≡ true → IsPlaced keys rows dirs) (is : is_name name ≡ true) (fits : length to ≡ 32)
    (path_of : IsPathOf dirs dir name path) (put : PutsRow keys rows path (record { dir = dir; to = to })
    new_keys new_rows) where
  -- after `add`
  pub added : (s : Stored) → stored_as whole keys rows dirs ≡ s → s.whole ≡ true → IsDir s dir →
      get s.names (dir ++ name) ≡ None → get s.dirs to ≡ None →
      IsPlaced new_keys new_rows dirs × (stored_as true new_keys new_rows dirs ≡ with_name s dir name to)
  added s view = subst (λ (s : Stored). s.whole ≡ true → IsDir s dir → get s.names (dir ++ name) ≡ None →
      get s.dirs to ≡ None →
      IsPlaced new_keys new_rows dirs × (stored_as true new_keys new_rows dirs ≡ with_name s dir name to))
      view (λ all in_dir new_name no_dir.
      let top = some_of (get dirs dir) in_dir in
      let put_at : PutsRow keys rows (joined top.0 name) (record { dir = dir; to = to }) new_keys new_rows =
      subst (λ p. PutsRow keys rows p (record { dir = dir; to = to }) new_keys new_rows) (path_of top.0 top.1) put in
      let after = same_dirs dirs to (joined top.0 name) in
      let unnamed : IsSome (get dirs to) → (key : List ℕ) → get (names_in keys rows) key ≡ Some to → ⊥ =
      λ there _ _. (let d = some_of (get dirs to) there in some_none d.1 no_dir) in (
        placed_after keys rows dirs dir name top.0 to new_keys new_rows dirs (placed all) top.1 is put_at new_name
            no_dir fits after unnamed,
        let names = names_after keys rows dirs dir name top.0 to new_keys new_rows dirs (placed all)
            top.1 is put_at new_name no_dir fits after unnamed in
            ap₂ (λ (b : Bool) (n : Paths). let t : Stored = record { whole = b; dirs = dirs; names = n } in t)
            (sym all) names,
      ))

  -- after `add_dir`
  pub dir_added : (s : Stored) (new_dirs : Dirs) (copy : List ℕ) → copy ≡ path → new_dirs ≡ insert dirs to copy →
      stored_as whole keys rows dirs ≡ s →
      s.whole ≡ true → IsDir s dir → get s.names (dir ++ name) ≡ None → get s.dirs to ≡ None → IsUnnamed s to →
      IsPlaced new_keys new_rows new_dirs × AddsDir s dir name to (stored_as true new_keys new_rows new_dirs)
  dir_added s new_dirs copy same inserted view = subst (λ (s : Stored). s.whole ≡ true → IsDir s dir →
      get s.names (dir ++ name) ≡ None → get s.dirs to ≡ None → IsUnnamed s to →
      IsPlaced new_keys new_rows new_dirs × AddsDir s dir name to (stored_as true new_keys new_rows new_dirs))
      view (λ all in_dir new_name no_dir unnamed.
      let top = some_of (get dirs dir) in_dir in
      let put_at : PutsRow keys rows (joined top.0 name) (record { dir = dir; to = to }) new_keys new_rows =
      subst (λ p. PutsRow keys rows p (record { dir = dir; to = to }) new_keys new_rows) (path_of top.0 top.1) put in
      let dirs_are : new_dirs ≡ insert dirs to (joined top.0 name) = inserted
      ∙ ap (insert dirs to) (same ∙ path_of top.0 top.1) in
      let after : DirsAfter dirs to (joined top.0 name) new_dirs = subst (DirsAfter dirs to (joined top.0 name))
      (sym dirs_are) (one_more_dir dirs to (joined top.0 name) no_dir) in (
        placed_after keys rows dirs dir name top.0 to new_keys new_rows new_dirs (placed all) top.1 is put_at new_name
            no_dir fits after (λ _. unnamed),
        record {
          whole = refl;
          names = names_after keys rows dirs dir name top.0 to new_keys new_rows new_dirs (placed all)
              top.1 is put_at new_name no_dir fits after (λ _. unnamed);
          dirs = λ p p_is. dirs_are ∙ ap (λ l. insert dirs to (joined l name)) (some_same top.1 p_is);
        },
      ))
