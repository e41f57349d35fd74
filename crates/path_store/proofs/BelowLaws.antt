-- A directory lies below another exactly if its path goes on from the other's.
use Rattle.std.proofs.Common.{inl, inr, ◌≡◌, ◌↔◌, ℕ, zero, suc, ◌+◌, ◌≤◌, true, List, ◌∷◌, ◌++◌, length, Some, refl, sym, ap, ◌∙◌, subst, arith, length-append}
use Rattle.std.specs.FinMap.{get}
use Rattle.server_trait.proofs.TreeLaws.{some_same}
use Rattle.server_trait.proofs.SoftLaws.{some_of}
use Rattle.path_store.specs.Stored.{joined, is_under, LeadsIn, IsAtOrBelow, Paths}
use Rattle.path_store.specs.Placed.{Keys, Rows, Dirs, row_at, last_part, names_in, IsTree}
use Rattle.path_store.proofs.NameLaws.{apart_keys}
use Rattle.path_store.proofs.PlacedLaws.{dir_of, no_slash_at, one_dir, names_sound, names_complete}
use Rattle.path_store.proofs.SlashLaws.{under_is, under_refl, under_slash, under_cases, under_trans, slash_split, joined_not_nil}

-- one name more at the end
leads_more : (names : Paths) (k : ℕ) (h q name x : List ℕ) → LeadsIn names k h q → get names (q ++ name) ≡ Some x →
    LeadsIn names (suc k) h x
leads_more names zero h q name x same leads = (name, x, ap (λ l. get names (l ++ name)) same ∙ leads, refl)
leads_more names (suc k) h q name x first leads = (
  first.0,
  first.1,
  first.2,
  leads_more names k first.1 q name x
      first.3 leads,
)

shorter : (top name path : List ℕ) (n : ℕ) → path ≡ joined top name → length path ≤ suc n → length top ≤ n
shorter top name path n e le =
    let len : length path ≡ length top + suc (length name) = ap length e ∙ length-append top (47 ∷ name) in
    omega arith

not_short : (top rest path : List ℕ) → path ≡ top ++ 47 ∷ rest → length path ≤ 0 → ⊥
not_short top rest path e le =
    let len : length path ≡ length top + suc (length rest) = ap length e ∙ length-append top (47 ∷ rest) in
    absurd (omega arith)

module _ (keys : Keys) (rows : Rows) (dirs : Dirs) (tree : IsTree (row_at keys rows) dirs) where
  abbrev names : Paths
  names = names_in keys rows

  -- the directory at a beginning of a directory's path
  pub record IsAbove (dir top : List ℕ) : Type 0 where
    pub above : List ℕ
    pub is_dir : get dirs above ≡ Some top
    pub below : IsAtOrBelow (names_in keys rows) above dir

  -- one step up
  on_top : (n : ℕ) (dir top path rest : List ℕ) → length path ≤ suc n → get dirs dir ≡ Some path →
      path ≡ top ++ 47 ∷ rest →
      ((d p : List ℕ) → length p ≤ n → get dirs d ≡ Some p → is_under top p ≡ true → IsAbove d top) → IsAbove dir top
  on_top n dir top path rest le is e higher =
      let row = some_of (row_at keys rows path) (tree.there dir path is (λ z. joined_not_nil top rest (sym e ∙ z))) in
      let d = dir_of (row_at keys rows) dirs tree path row.0 row.1 in
      let flat = no_slash_at (row_at keys rows) dirs tree path row.0 row.1 in
      let up = higher row.0.dir d.0 (shorter d.0 (last_part path) path n d.2 le) d.1
      (under_is top d.0 (slash_split top rest d.0 (last_part path) (sym e ∙ d.2) flat)) in
      record {
        above = up.above;
        is_dir = up.is_dir;
        below = (
          suc up.below.0,
          leads_more (names_in keys rows) up.below.0 up.above row.0.dir (last_part path) dir up.below.1
              (names_complete keys rows dirs tree path row.0 row.1 ∙ ap Some (tree.own dir path row.0 is row.1)),
        );
      }

  same_top : (dir top path : List ℕ) → get dirs dir ≡ Some path → path ≡ top → IsAbove dir top
  same_top dir top path is same = record { above = dir; is_dir = is ∙ ap Some same; below = (zero, refl) }

  above_within : (n : ℕ) (dir top path : List ℕ) → length path ≤ n → get dirs dir ≡ Some path →
      is_under top path ≡ true → IsAbove dir top
  above_within zero dir top path le is under = elim (under_cases top path under) as (λ _. IsAbove dir top) [
    | inl same ↦ same_top dir top path is same
    | inr rest ↦ absurd (not_short top rest.0 path rest.1 le)
  ]
  above_within (suc n) dir top path le is under = elim (under_cases top path under) as (λ _. IsAbove dir top) [
    | inl same ↦ same_top dir top path is same
    | inr rest ↦ on_top n dir top path rest.0 le is rest.1 (λ d p short d_is below. above_within n d top p short d_is
        below)
  ]

  pub above : (dir top path : List ℕ) → get dirs dir ≡ Some path → is_under top path ≡ true → IsAbove dir top
  above dir top path is under = above_within (length path) dir top path (omega arith) is under

  -- what has names is a directory
  begins_at : (k : ℕ) (x q : List ℕ) (path : List ℕ) → length x ≡ 32 → get dirs q ≡ Some path →
      LeadsIn (names_in keys rows) k x q →
      (top : List ℕ) × (get dirs x ≡ Some top)
  begins_at zero x q path fits is same = (path, ap (get dirs) same ∙ is)
  begins_at (suc k) x q path fits is leads =
      let n = names_sound keys rows (x ++ leads.0) leads.1 leads.2 in
      let d = dir_of (row_at keys rows) dirs tree n.path n.row n.found in
      (d.0, ap (get dirs) (apart_keys n.row.dir x (last_part n.path) leads.0 d.3 fits n.key_is) ∙ d.1)

  leads_under : (k : ℕ) (h q top path : List ℕ) → get dirs h ≡ Some top → get dirs q ≡ Some path →
      LeadsIn (names_in keys rows) k h q →
      is_under top path ≡ true
  leads_under zero h q top path is is' same = subst (λ l. is_under top l ≡ true) (some_same is (ap (get dirs) same
      ∙ is')) (under_refl top)
  leads_under (suc k) h q top path is is' leads =
      let n = names_sound keys rows (h ++ leads.0) leads.1 leads.2 in
      let d = dir_of (row_at keys rows) dirs tree n.path n.row n.found in
      let same : h ≡ n.row.dir = apart_keys n.row.dir h (last_part n.path) leads.0 d.3 (tree.fits h top is)
      n.key_is in
      let top_is : d.0 ≡ top = some_same d.1 (ap (get dirs) (sym same) ∙ is) in
      let fits : length leads.1 ≡ 32 = ap length (sym n.leads) ∙ (tree.placed n.path n.row n.found).to_fits in
      let x = begins_at k leads.1 q path fits is' leads.3 in
      let x_is : x.0 ≡ n.path = tree.only leads.1 x.0 n.path n.row x.1 n.found n.leads in
      under_trans top x.0 path
      (subst (λ l. is_under top l ≡ true) (sym (x_is ∙ d.2 ∙ ap (λ l. joined l (last_part n.path)) top_is))
      (under_slash top (last_part n.path)))
      (leads_under k leads.1 q x.0 path x.1 is' leads.3)

  pub below_if_under : (dir other top path : List ℕ) → get dirs dir ≡ Some top → get dirs other ≡ Some path →
      (is_under top path ≡ true) ↔ IsAtOrBelow (names_in keys rows) dir other
  below_if_under dir other top path is is' = (
    λ under.
        let up = above other top path is' under in
        subst (λ h. IsAtOrBelow (names_in keys rows) h other)
        (one_dir (row_at keys rows) dirs tree up.above dir top up.is_dir is) up.below,
    λ below. leads_under below.0 dir other top path is is' below.1,
  )
