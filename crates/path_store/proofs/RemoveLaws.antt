-- A store after a name was removed.
use Rattle.std.proofs.Common.{inl, inr, is_some, ◌≡◌, ◌≢◌, ℕ, Bool, true, List, [], ◌++◌, Some, None, IsSome, refl, sym, ap, ◌∙◌, subst}
use Rattle.std.specs.FinMap.{get, remove}
use Rattle.slab.specs.Slab.{get as slot}
use Rattle.nfs2_types.specs.Names.{is_name}
use Rattle.server_trait.proofs.TreeLaws.{one_or_not, get-remove_same, get-remove_other, some_same, some_none}
use Rattle.server_trait.proofs.SoftLaws.{some_of}
use Rattle.path_store.specs.Stored.{Stored, joined, IsDir, HasNoNames, Drops}
use Rattle.path_store.specs.Placed.{Keys, Rows, Dirs, row_at, last_part, names_in, stored_as, IsRowAt, IsKeyed, IsPlaced}
use Rattle.path_store.specs.Changes.{IsPathOf, TakesRow}
use Rattle.path_store.specs.declared.row.PathRow.{PathRow}
use Rattle.path_store.proofs.SlashLaws.{name_no_slash, last_part-joined}
use Rattle.path_store.proofs.PlacedLaws.{row_of_key, key_of_row, some_is, same_found, dir_of, one_name, named_in, names_sound, names_complete, names_of_named}

-- the rows without the one at a path
module _ (keys : Keys) (rows : Rows) (path : List ℕ) (key : ℕ) (new_keys : Keys) (new_rows : Rows)
    (take : TakesRow keys rows path new_keys new_rows)
    (keyed : IsKeyed keys rows) (key_is : get keys path ≡ Some key) where
  key_gone : get new_keys path ≡ None
  key_gone = ap (λ m. get m path) take.keys_are ∙ get-remove_same keys path

  key_left : (q : List ℕ) → q ≢ path → get new_keys q ≡ get keys q
  key_left q ne = ap (λ m. get m q) take.keys_are ∙ get-remove_other keys path q ne

  slot_left : (q : List ℕ) (k : ℕ) → q ≢ path → get keys q ≡ Some k → slot new_rows k ≡ slot rows k
  slot_left q k ne is = (take.rows_are key key_is).others k
      (λ e. ne (keyed.once q path k is (key_is ∙ ap Some (sym e))))

  pub row_left : (q : List ℕ) (r : PathRow) → row_at new_keys new_rows q ≡ Some r →
      (q ≢ path) × (row_at keys rows q ≡ Some r)
  row_left q r is =
      let k = key_of_row new_keys new_rows q r is in
      let ne : q ≢ path = λ e. some_none k.1 (ap (get new_keys) e ∙ key_gone) in
      let old : get keys q ≡ Some k.0 = sym (key_left q ne) ∙ k.1 in
      (ne, row_of_key keys rows q k.0 old ∙ sym (slot_left q k.0 ne old) ∙ k.2)

  pub row_stays : (q : List ℕ) (r : PathRow) → q ≢ path → row_at keys rows q ≡ Some r →
      row_at new_keys new_rows q ≡ Some r
  row_stays q r ne is =
      let k = key_of_row keys rows q r is in
      row_of_key new_keys new_rows q k.0 (key_left q ne ∙ k.1) ∙ slot_left q k.0 ne k.1 ∙ k.2

  pub keyed_after_take : IsKeyed new_keys new_rows
  keyed_after_take = record {
    has_row = λ q k is.
        let ne : q ≢ path = λ e. some_none is (ap (get new_keys) e ∙ key_gone) in
        let old : get keys q ≡ Some k = sym (key_left q ne) ∙ is in
        let r = some_of (slot rows k) (keyed.has_row q k old) in
        some_is (slot new_rows k) (slot_left q k ne old ∙ r.1);
    once = λ q p k is is'.
        let ne : q ≢ path = λ e. some_none is (ap (get new_keys) e ∙ key_gone) in
        let ne' : p ≢ path = λ e. some_none is' (ap (get new_keys) e ∙ key_gone) in
        keyed.once q p k (sym (key_left q ne) ∙ is) (sym (key_left p ne') ∙ is');
    used = λ k there. elim (one_or_not k key) as (λ _. (q : List ℕ) × (get new_keys q ≡ Some k)) [
      | inl e ↦
          let r = some_of (slot new_rows k) there in
          absurd (some_none r.1 (ap (slot new_rows) e ∙ (take.rows_are key key_is).changed))
      | inr ne ↦
          let q = keyed.used k (ap is_some (sym ((take.rows_are key key_is).others k ne)) ∙ there) in
          (q.0, key_left q.0 (λ e. ne (some_same q.1 (ap (get keys) e ∙ key_is))) ∙ q.1)
    ];
  }

module _ (keys : Keys) (rows : Rows) (dirs : Dirs) (dir name top to : List ℕ) (new_keys : Keys) (new_rows : Rows)
    (placed : IsPlaced keys rows dirs) (is_dir : get dirs dir ≡ Some top) (is : is_name name ≡ true)
    (take : TakesRow keys rows (joined top name) new_keys new_rows)
    (leads : get (names_in keys rows) (dir ++ name) ≡ Some to) (bare : (x : List ℕ) →
    get (names_in keys rows) (to ++ x) ≡ None) where
  abbrev path : List ℕ
  path = joined top name

  gone : (row : PathRow) × (row_at keys rows path ≡ Some row) × (row.dir ≡ dir) × (row.to ≡ to)
  gone = named_in keys rows dirs placed.tree dir top name to is_dir leads

  key_of : (key : ℕ) × (get keys path ≡ Some key) × (slot rows key ≡ Some gone.0)
  key_of = key_of_row keys rows path gone.0 gone.1

  left : (q : List ℕ) (r : PathRow) → row_at new_keys new_rows q ≡ Some r → (q ≢ path) × (row_at keys rows q ≡ Some r)
  left = row_left keys rows path key_of.0 new_keys new_rows take placed.keyed key_of.1

  stays : (q : List ℕ) (r : PathRow) → q ≢ path → row_at keys rows q ≡ Some r → row_at new_keys new_rows q ≡ Some r
  stays = row_stays keys rows path key_of.0 new_keys new_rows take placed.keyed key_of.1

  -- the key of the name that goes
  name_key : gone.0.dir ++ last_part path ≡ dir ++ name
  name_key = ap (λ l. l ++ last_part path) gone.2
      ∙ ap (λ l. dir ++ l) (last_part-joined top name (name_no_slash name is))

  dir_left : (x p : List ℕ) → get (remove dirs to) x ≡ Some p → (x ≢ to) × (get dirs x ≡ Some p)
  dir_left x p x_is =
      let ne : x ≢ to = λ e. some_none x_is (ap (get (remove dirs to)) e ∙ get-remove_same dirs to) in
      (ne, sym (get-remove_other dirs to x ne) ∙ x_is)

  dir_stays : (x p : List ℕ) → x ≢ to → get dirs x ≡ Some p → get (remove dirs to) x ≡ Some p
  dir_stays x p ne x_is = get-remove_other dirs to x ne ∙ x_is

  row_placed : (q : List ℕ) (r : PathRow) → row_at new_keys new_rows q ≡ Some r → IsRowAt (remove dirs to) q r
  row_placed q r found =
      let old = (left q r found).1 in
      let p = placed.tree.placed q r old in
      let d = dir_of (row_at keys rows) dirs placed.tree q r old in
      let ne : r.dir ≢ to = λ e. some_none (names_complete keys rows dirs placed.tree q r old)
      (ap (λ l. get (names_in keys rows) (l ++ last_part q)) e ∙ bare (last_part q)) in
      let dir_is = dir_stays r.dir d.0 ne d.1 in
      record {
        in_dir = some_is (get (remove dirs to) r.dir) dir_is;
        path_is = λ t t_is. d.2 ∙ ap (λ l. joined l (last_part q)) (some_same dir_is t_is);
        name_is = p.name_is;
        to_fits = p.to_fits;
      }

  there : (x p : List ℕ) → get (remove dirs to) x ≡ Some p → p ≢ [] → IsSome (row_at new_keys new_rows p)
  there x p x_is ne =
      let old = dir_left x p x_is in
      let r = some_of (row_at keys rows p) (placed.tree.there x p old.1 ne) in
      let apart : p ≢ path = λ e. old.0 (sym (placed.tree.own x p r.0 old.1 r.1)
      ∙ ap (λ (y : PathRow). y.to) (some_same r.1 (ap (row_at keys rows) e ∙ gone.1)) ∙ gone.3) in
      some_is (row_at new_keys new_rows p) (stays p r.0 apart r.1)

  pub placed_without : IsPlaced new_keys new_rows (remove dirs to)
  placed_without = record {
    keyed = keyed_after_take keys rows path key_of.0 new_keys new_rows take placed.keyed key_of.1;
    tree = record {
      placed = row_placed;
      rooted = λ x y a b. placed.tree.rooted x y (dir_left x [] a).1 (dir_left y [] b).1;
      there = there;
      own = λ x p r x_is found. placed.tree.own x p r (dir_left x p x_is).1 (left p r found).1;
      only = λ x p q r x_is found leads_to. placed.tree.only x p q r (dir_left x p x_is).1 (left q r found).1
          leads_to;
      fits = λ x p x_is. placed.tree.fits x p (dir_left x p x_is).1;
    };
  }

  pub names_without : names_in new_keys new_rows ≡ remove (names_in keys rows) (dir ++ name)
  names_without = same_found _ _ (
      λ k h found.
      let n = names_sound new_keys new_rows k h found in
      let old = left n.path n.row n.found in
      let apart : k ≢ dir ++ name = λ e. old.0 (one_name (row_at keys rows) dirs placed.tree n.path path n.row gone.0
      old.1 gone.1
      (sym n.key_is ∙ e ∙ sym name_key)) in
      get-remove_other (names_in keys rows) (dir ++ name) k apart
      ∙ names_of_named keys rows dirs placed.tree k h
      (record { path = n.path; row = n.row; found = old.1; key_is = n.key_is; leads = n.leads })
      ) (
      λ k h found.
      let apart : k ≢ dir ++ name = λ e. some_none found (ap (get (remove (names_in keys rows) (dir ++ name))) e
      ∙ get-remove_same (names_in keys rows) (dir ++ name)) in
      let n = names_sound keys rows k h (sym (get-remove_other (names_in keys rows) (dir ++ name) k apart) ∙ found) in
      let ne : n.path ≢ path = λ e. apart (n.key_is ∙ ap (λ (x : PathRow). x.dir ++ last_part n.path)
      (some_same n.found (ap (row_at keys rows) e ∙ gone.1))
      ∙ ap (λ l. gone.0.dir ++ last_part l) e ∙ name_key) in
      names_of_named new_keys new_rows (remove dirs to) placed_without.tree k h
      (record {
        path = n.path;
        row = n.row;
        found = stays n.path n.row ne n.found;
        key_is = n.key_is;
        leads = n.leads;
      })
      )

-- after `remove`
pub removed : (dir name to whole_path : List ℕ) (keys : Keys) (rows : Rows) (dirs : Dirs) (new_keys : Keys)
    (new_rows : Rows) (new_dirs : Dirs) (whole : Bool) (s : Stored) →
    (whole ≡ true → IsPlaced keys rows dirs) → is_name name ≡ true → IsPathOf dirs dir name whole_path →
    TakesRow keys rows whole_path new_keys new_rows →
    new_dirs ≡ remove dirs to → stored_as whole keys rows dirs ≡ s → s.whole ≡ true → IsDir s dir →
    get s.names (dir ++ name) ≡ Some to → HasNoNames s to →
    IsPlaced new_keys new_rows new_dirs × Drops s dir name to (stored_as true new_keys new_rows new_dirs)
removed dir name to whole_path keys rows dirs new_keys new_rows new_dirs whole s placed is path_of take dirs_are
    view =
    subst (λ (s : Stored). s.whole ≡ true → IsDir s dir → get s.names (dir ++ name) ≡ Some to → HasNoNames s to →
    IsPlaced new_keys new_rows new_dirs × Drops s dir name to (stored_as true new_keys new_rows new_dirs))
    view (λ all in_dir leads bare.
    let top = some_of (get dirs dir) in_dir in
    let take_at : TakesRow keys rows (joined top.0 name) new_keys new_rows = subst
    (λ p. TakesRow keys rows p new_keys new_rows) (path_of top.0 top.1) take in (
      subst (IsPlaced new_keys new_rows) (sym dirs_are)
          (placed_without keys rows dirs dir name top.0 to new_keys new_rows (placed all)
          top.1 is take_at leads bare),
      record {
        whole = refl;
        names = names_without keys rows dirs dir name top.0 to new_keys new_rows (placed all)
            top.1 is take_at leads bare;
        dirs = dirs_are;
      },
    ))
