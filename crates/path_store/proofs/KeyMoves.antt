-- What it does to the maps that paths move one after the other.
use Rattle.std.proofs.Common.{◌⊎◌, inl, inr, ◌≡◌, ◌≢◌, ℕ, true, false, if◌then◌else◌, List, [], ◌∷◌, Option, Some, None, IsSome, option_map, is_some, refl, sym, ap, ◌∙◌}
use Rattle.std.specs.FinMap.{get, insert, remove}
use Rattle.slab.specs.Slab.{get as slot}
use Rattle.server_trait.proofs.TreeLaws.{bytes_or_not, get-insert_same, get-insert_other, get-remove_same, get-remove_other, some_same, some_none}
use Rattle.server_trait.proofs.SoftLaws.{some_of}
use Rattle.path_store.specs.Stored.{is_under, moved_path}
use Rattle.path_store.specs.Placed.{Keys, Rows, Dirs, row_at, IsTree}
use Rattle.path_store.specs.Changes.{moved_keys, moved_dirs, led_to}
use Rattle.path_store.specs.Walks.{IsAmong, AreUnder}
use Rattle.path_store.specs.declared.row.PathRow.{PathRow}
use Rattle.path_store.proofs.PlacedLaws.{none_or_some, some_is, row_of_key, key_of_row}
use Rattle.path_store.proofs.SlashLaws.{true_or_false, not_both, moved_other, moved_apart, moved_is_under}

-- KEYS

module _ (old new : List ℕ) (off : (p : List ℕ) → is_under old p ≡ true → is_under old (moved_path old new p) ≡ false)
  where
    abbrev AllUnder : List (List ℕ × ℕ) → Type 0
    AllUnder es = (p : List ℕ) (k : ℕ) → IsAmong (p, k) es → is_under old p ≡ true

    abbrev one : List ℕ × ℕ → Keys → Keys
    one e keys = insert (remove keys e.0) (moved_path old new e.0) e.1

    rest_under : (e : List ℕ × ℕ) (es : List (List ℕ × ℕ)) → AllUnder (e ∷ es) → AllUnder es
    rest_under e es all p k m = all p k (inr m)

    one_left : (e : List ℕ × ℕ) (keys : Keys) (x : List ℕ) (k : ℕ) → is_under old e.0 ≡ true → is_under old x ≡ true →
        get (one e keys) x ≡ Some k →
        (x ≢ e.0) × (get keys x ≡ Some k)
    one_left e keys x k under t is =
        let apart : x ≢ moved_path old new e.0 = λ s. not_both (ap (is_under old) (sym s) ∙ t) (off e.0 under) in
        let left : get (remove keys e.0) x ≡ Some k = sym (get-insert_other (remove keys e.0) (moved_path old new e.0)
        e.1 x apart) ∙ is in
        let ne : x ≢ e.0 = λ s. some_none left (ap (get (remove keys e.0)) s ∙ get-remove_same keys e.0) in
        (ne, sym (get-remove_other keys e.0 x ne) ∙ left)

    -- where all under the old path move, none is left there
    gone : (es : List (List ℕ × ℕ)) (keys : Keys) → AllUnder es → ((x : List ℕ) (k : ℕ) → is_under old x ≡ true →
        get keys x ≡ Some k → IsAmong (x, k) es) →
        (x : List ℕ) (k : ℕ) → is_under old x ≡ true → get (moved_keys old new es keys) x ≡ Some k → ⊥
    gone [] keys all complete x k t is = complete x k t is
    gone (e ∷ es) keys all complete x k t is = gone es (one e keys) (rest_under e es all) (
        λ y j u found.
        let left = one_left e keys y j (all e.0 e.1 (inl refl)) u found in
        elim (complete y j u left.1) as (λ _. IsAmong (y, j) es) [
          | inl s ↦ absurd (left.0 (sym (ap (λ (p : List ℕ × ℕ). p.0) s)))
          | inr m ↦ m
        ]
        ) x k t is

    came_from : (es : List (List ℕ × ℕ)) (keys : Keys) (x : List ℕ) (k : ℕ) →
        get (moved_keys old new es keys) x ≡ Some k →
        (get keys x ≡ Some k) ⊎ ((p : List ℕ) × IsAmong (p, k) es × (x ≡ moved_path old new p))
    came_from [] keys x k is = inl is
    came_from (e ∷ es) keys x k is = elim (came_from es (one e keys) x k is) as (λ _. (get keys x ≡ Some k) ⊎
        ((p : List ℕ) × IsAmong (p, k) (e ∷ es) × (x ≡ moved_path old new p))) [
          | inl here ↦ elim (bytes_or_not x (moved_path old new e.0)) as (λ _. (get keys x ≡ Some k) ⊎ ((p : List ℕ) ×
              IsAmong (p, k) (e ∷ es) × (x ≡ moved_path old new p))) [
                | inl s ↦
                    let key : e.1 ≡ k = some_same (ap (get (one e keys)) s
                    ∙ get-insert_same (remove keys e.0) (moved_path old new e.0) e.1) here in
                    inr (e.0, inl (ap (λ n. (e.0, n)) key), s)
                | inr ne ↦
                    let left : get (remove keys e.0) x ≡ Some k = sym (get-insert_other (remove keys e.0)
                    (moved_path old new e.0) e.1 x ne) ∙ here in
                    inl (sym (get-remove_other keys e.0 x (λ s. some_none left (ap (get (remove keys e.0)) s
                    ∙ get-remove_same keys e.0))) ∙ left)
              ]
          | inr p ↦ inr (p.0, inr p.1, p.2)
        ]

    stays : (es : List (List ℕ × ℕ)) (keys : Keys) (x : List ℕ) (k : ℕ) → AllUnder es → is_under old x ≡ false →
        ((p : List ℕ) (j : ℕ) → IsAmong (p, j) es → moved_path old new p ≡ x → j ≡ k) → get keys x ≡ Some k →
        get (moved_keys old new es keys) x ≡ Some k
    stays [] keys x k all f alike is = is
    stays (e ∷ es) keys x k all f alike is = stays es (one e keys) x k (rest_under e es all)
        f (λ p j m s. alike p j (inr m) s) (
        elim (bytes_or_not x (moved_path old new e.0)) as (λ _. get (one e keys) x ≡ Some k) [
          | inl s ↦ ap (get (one e keys)) s ∙ get-insert_same (remove keys e.0) (moved_path old new e.0) e.1
              ∙ ap Some (alike e.0 e.1 (inl refl) (sym s))
          | inr ne ↦ get-insert_other (remove keys e.0) (moved_path old new e.0) e.1 x ne
              ∙ get-remove_other keys e.0 x (λ s. not_both (all e.0 e.1 (inl refl)) (ap (is_under old) (sym s) ∙ f))
              ∙ is
        ]
        )

    arrives : (es : List (List ℕ × ℕ)) (keys : Keys) (p : List ℕ) (k : ℕ) → AllUnder es → IsAmong (p, k) es →
        ((q : List ℕ) (j : ℕ) → IsAmong (q, j) es → moved_path old new q ≡ moved_path old new p → j ≡ k) →
        get (moved_keys old new es keys) (moved_path old new p) ≡ Some k
    arrives [] keys p k all m alike = absurd m
    arrives (e ∷ es) keys p k all (inl s) alike =
        stays es (one e keys) (moved_path old new p) k (rest_under e es all) (off p (all p k (inl s)))
        (λ q j m t. alike q j (inr m) t)
        (ap (λ q. get (one e keys) (moved_path old new q)) (sym (ap (λ (x : List ℕ × ℕ). x.0) s))
        ∙ get-insert_same (remove keys e.0) (moved_path old new e.0) e.1 ∙ ap (λ (x : List ℕ × ℕ). Some x.1) s)
    arrives (e ∷ es) keys p k all (inr m) alike = arrives es (one e keys) p k (rest_under e es all)
        m (λ q j n t. alike q j (inr n) t)

    -- all paths under the old path move
    module _ (keys : Keys) (es : List (List ℕ × ℕ)) (listed : AreUnder old keys es)
        (free : (x : List ℕ) (k : ℕ) → get keys x ≡ Some k → is_under new x ≡ true → ⊥) where
      all_under : AllUnder es
      all_under p k m = (listed.sound p k m).1

      pub keys_along : (x : List ℕ) (k : ℕ) → get keys x ≡ Some k →
          get (moved_keys old new es keys) (moved_path old new x) ≡ Some k
      keys_along x k is = elim (true_or_false (is_under old x)) as (λ _. get (moved_keys old new es keys)
          (moved_path old new x) ≡ Some k) [
            | inl t ↦ arrives es keys x k all_under (listed.complete x k is t) (λ q j m s.
                let same = moved_apart old new q x (all_under q j m) t s in
                some_same (listed.sound q j m).0 (ap (get keys) same ∙ is))
            | inr f ↦ ap (get (moved_keys old new es keys)) (moved_other old new x f)
                ∙ stays es keys x k all_under f (λ p j m s.
                absurd (free x k is (ap (is_under new) (sym s) ∙ moved_is_under old new p (all_under p j m)))) is
          ]

      pub keys_back : (x : List ℕ) (k : ℕ) → get (moved_keys old new es keys) x ≡ Some k →
          (y : List ℕ) × (get keys y ≡ Some k) × (x ≡ moved_path old new y)
      keys_back x k is = elim (true_or_false (is_under old x)) as (λ _. (y : List ℕ) × (get keys y ≡ Some k) ×
          (x ≡ moved_path old new y)) [
            | inl t ↦ absurd (gone es keys all_under (λ y j u found. listed.complete y j found u) x k t is)
            | inr f ↦ elim (came_from es keys x k is) as (λ _. (y : List ℕ) × (get keys y ≡ Some k) ×
                (x ≡ moved_path old new y)) [
                  | inl here ↦ (x, here, sym (moved_other old new x f))
                  | inr p ↦ (p.0, (listed.sound p.0 k p.1).0, p.2)
                ]
          ]

-- DIRECTORIES

led_here : (row : PathRow) (path : List ℕ) (dirs : Dirs) (x : List ℕ) → row.to ≡ x → IsSome (get dirs x) →
    get (led_to (Some row) path dirs) x ≡ Some path
led_here row path dirs x same there =
    ap (λ b. get (if b then insert dirs row.to path else dirs) x) (ap (λ l. is_some (get dirs l)) same ∙ there)
    ∙ ap (get (insert dirs row.to path)) (sym same) ∙ get-insert_same dirs row.to path

led_other : (row : PathRow) (path : List ℕ) (dirs : Dirs) (x : List ℕ) → row.to ≢ x →
    get (led_to (Some row) path dirs) x ≡ get dirs x
led_other row path dirs x ne = elim (is_some (get dirs row.to)) as (λ b. get (if b then insert dirs row.to path else
    dirs) x ≡ get dirs x) [
      | true ↦ get-insert_other dirs row.to path x (λ s. ne (sym s))
      | false ↦ refl
    ]

led_none : (o : Option PathRow) (path : List ℕ) (dirs : Dirs) (x : List ℕ) → get dirs x ≡ None →
    get (led_to o path dirs) x ≡ None
led_none None path dirs x none = none
led_none (Some row) path dirs x none = elim (bytes_or_not row.to x) as (λ _. get (led_to (Some row) path dirs)
    x ≡ None) [
      | inl s ↦ ap (λ b. get (if b then insert dirs row.to path else dirs) x) (ap is_some (ap (get dirs) s ∙ none))
          ∙ none
      | inr ne ↦ led_other row path dirs x ne ∙ none
    ]

led_some : (o : Option PathRow) (path : List ℕ) (dirs : Dirs) (x : List ℕ) → IsSome (get dirs x) →
    IsSome (get (led_to o path dirs) x)
led_some None path dirs x there = there
led_some (Some row) path dirs x there = elim (bytes_or_not row.to x) as (λ _. IsSome
    (get (led_to (Some row) path dirs) x)) [
      | inl s ↦ some_is (get (led_to (Some row) path dirs) x) (led_here row path dirs x s there)
      | inr ne ↦ ap is_some (led_other row path dirs x ne) ∙ there
    ]

module _ (rows : Rows) (old new : List ℕ) where
  abbrev led : List ℕ × ℕ → Dirs → Dirs
  led e dirs = led_to (slot rows e.1) (moved_path old new e.0) dirs

  dirs_none : (es : List (List ℕ × ℕ)) (dirs : Dirs) (x : List ℕ) → get dirs x ≡ None →
      get (moved_dirs rows old new es dirs) x ≡ None
  dirs_none [] dirs x none = none
  dirs_none (e ∷ es) dirs x none = dirs_none es (led e dirs) x (led_none (slot rows e.1) (moved_path old new e.0)
      dirs x none)

  -- what leads to it among these has this path then
  abbrev MovesTo : List (List ℕ × ℕ) → List ℕ → List ℕ → Type 0
  MovesTo es x v = (p : List ℕ) (k : ℕ) (row : PathRow) → IsAmong (p, k) es → slot rows k ≡ Some row → row.to ≡ x →
      moved_path old new p ≡ v

  dirs_stay : (es : List (List ℕ × ℕ)) (dirs : Dirs) (x v : List ℕ) → MovesTo es x v → get dirs x ≡ Some v →
      get (moved_dirs rows old new es dirs) x ≡ Some v
  dirs_stay [] dirs x v alike is = is
  dirs_stay (e ∷ es) dirs x v alike is = dirs_stay es (led e dirs) x v (λ p k row m. alike p k row (inr m)) (
      elim (slot rows e.1) as (λ o. slot rows e.1 ≡ o → get (led_to o (moved_path old new e.0) dirs) x ≡ Some v) [
        | None ↦ λ _. is
        | Some row ↦ λ found. elim (bytes_or_not row.to x) as (λ _. get (led_to (Some row) (moved_path old new e.0)
            dirs) x ≡ Some v) [
              | inl s ↦ led_here row (moved_path old new e.0) dirs x s (some_is (get dirs x) is)
                  ∙ ap Some (alike e.0 e.1 row (inl refl) found s)
              | inr ne ↦ led_other row (moved_path old new e.0) dirs x ne ∙ is
            ]
      ] refl
      )

  dirs_here : (es : List (List ℕ × ℕ)) (dirs : Dirs) (x v p : List ℕ) (k : ℕ) (row : PathRow) → MovesTo es x v →
      IsAmong (p, k) es → slot rows k ≡ Some row → row.to ≡ x →
      IsSome (get dirs x) → get (moved_dirs rows old new es dirs) x ≡ Some v
  dirs_here [] dirs x v p k row alike m found s there = absurd m
  dirs_here (e ∷ es) dirs x v p k row alike (inl same) found s there =
      let found_here : slot rows e.1 ≡ Some row = ap (λ (y : List ℕ × ℕ). slot rows y.1) same ∙ found in
      dirs_stay es (led e dirs) x v (λ q j r m. alike q j r (inr m))
      (ap (λ o. get (led_to o (moved_path old new e.0) dirs) x) found_here
      ∙ led_here row (moved_path old new e.0) dirs x s there
      ∙ ap Some (alike e.0 e.1 row (inl refl) found_here s))
  dirs_here (e ∷ es) dirs x v p k row alike (inr m) found s there =
      dirs_here es (led e dirs) x v p k row (λ q j r n. alike q j r (inr n))
      m found s (led_some (slot rows e.1) (moved_path old new e.0) dirs x there)

-- all directories under the old path move
pub dirs_along : (old new : List ℕ) (keys : Keys) (rows new_rows : Rows) (dirs : Dirs) (es : List (List ℕ × ℕ)) →
    IsTree (row_at keys rows) dirs →
    AreUnder old keys es → ((path : List ℕ) → is_under old path ≡ true → path ≢ []) →
    ((p : List ℕ) (k : ℕ) (r : PathRow) → get keys p ≡ Some k → slot new_rows k ≡ Some r →
    (s : PathRow) × (slot rows k ≡ Some s) × (s.to ≡ r.to)) →
    ((p : List ℕ) (k : ℕ) (s : PathRow) → get keys p ≡ Some k → slot rows k ≡ Some s →
    (r : PathRow) × (slot new_rows k ≡ Some r) × (r.to ≡ s.to)) →
    (x : List ℕ) → get (moved_dirs new_rows old new es dirs) x ≡ option_map (moved_path old new) (get dirs x)
dirs_along old new keys rows new_rows dirs es tree listed deep was stays_so x =
    elim (none_or_some (get dirs x)) as (λ _. get (moved_dirs new_rows old new es dirs)
    x ≡ option_map (moved_path old new) (get dirs x)) [
      | inl none ↦ dirs_none new_rows old new es dirs x none ∙ sym (ap (option_map (moved_path old new)) none)
      | inr d ↦ with_path d.0 d.1 ∙ sym (ap (option_map (moved_path old new)) d.1)
    ]
  where
    alike : (path : List ℕ) → get dirs x ≡ Some path → MovesTo new_rows old new es x (moved_path old new path)
    alike path is p k row m found s =
        let key = (listed.sound p k m).0 in
        let before = was p k row key found in
        ap (moved_path old new) (sym (tree.only x path p before.0 is (row_of_key keys rows p k key ∙ before.1)
        (before.2 ∙ s)))

    with_path : (path : List ℕ) → get dirs x ≡ Some path →
        get (moved_dirs new_rows old new es dirs) x ≡ Some (moved_path old new path)
    with_path path is = elim (true_or_false (is_under old path)) as (λ _. get (moved_dirs new_rows old new es dirs)
        x ≡ Some (moved_path old new path)) [
          | inl t ↦
              let row = some_of (row_at keys rows path) (tree.there x path is (deep path t)) in
              let key = key_of_row keys rows path row.0 row.1 in
              let after = stays_so path key.0 row.0 key.1 key.2 in
              dirs_here new_rows old new es dirs x (moved_path old new path) path key.0 after.0 (alike path is)
              (listed.complete path key.0 key.1 t) after.1
              (after.2 ∙ tree.own x path row.0 is row.1) (some_is (get dirs x) is)
          | inr f ↦ dirs_stay new_rows old new es dirs x (moved_path old new path) (alike path is) (is
              ∙ ap Some (sym (moved_other old new path f)))
        ]
