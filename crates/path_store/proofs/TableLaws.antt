-- Rows at the places that their handles carry, read as a map: what is found, put in and taken out.
use Rattle.std.proofs.Common.{◌⊎◌, inl, inr, ◌≡◌, ◌≢◌, ◌==◌, eq-eqb, eqb→eq, T, ℕ, zero, suc, ◌+◌, ◌<◌, Bool, true, false, cond, List, [], ◌∷◌, length, Option, Some, None, IsSome, is_some, slice_index_or, refl, sym, ap, ◌∙◌, subst, arith, bytes_eq, count_by, if◌then◌else◌}
use Rattle.std.specs.Ordering.{nat_cmp}
use Rattle.std.specs.Cmp.Lexicographic.{slice_cmp, nat_list_cmp_total}
use Rattle.std.specs.FinMap.{get, insert, remove, len, empty, from_entries, get-empty, len-empty, len-insert}
use Rattle.std.proofs.lemmas.Slice.Eq.{bytes_eq-Decides}
use Rattle.std.proofs.lemmas.Bool.{cases_lt}
use Rattle.std.proofs.lemmas.List.{get_or_past}
use Rattle.std.proofs.lemmas.List.Sums.{sum_by-cons}
use Rattle.server_trait.specs.Tree.{ByBytes}
use Rattle.server_trait.proofs.TreeLaws.{bytes_or_not, get-insert_same, get-insert_other, get-remove_same, get-remove_other, same_answers, some_same, some_none}
use Rattle.path_store.specs.Tables.{place_of, entries_of, table, ArePlaced, HasRoom}
use Rattle.path_store.proofs.SlashLaws.{true_or_false}

T_of : {b : Bool} → b ≡ true → T b
T_of e = subst T (sym e) tt

nat_or_not : (j k : ℕ) → (j ≡ k) ⊎ (j ≢ k)
nat_or_not j k = elim (true_or_false (j == k)) as (λ _. (j ≡ k) ⊎ (j ≢ k)) [
  | inl t ↦ inl (eqb→eq j k (T_of t))
  | inr f ↦ inr (λ e. absurd (let bad : true ≡ false = sym (eq-eqb j k e) ∙ f in cc))
]

module _ {A : Type 0} (handle : A → List ℕ) where
  -- rows of which the first stands at a place
  abbrev ArePlacedFrom : ℕ → List (Option A) → Type 0
  ArePlacedFrom n rows = (k : ℕ) (a : A) → slice_index_or rows k None ≡ Some a → place_of (handle a) ≡ n + k

  next_placed : (n : ℕ) (o : Option A) (rows : List (Option A)) → ArePlacedFrom n (o ∷ rows) → ArePlacedFrom (suc n) rows
  next_placed n o rows placed k a is = let p = placed (suc k) a is in omega (arith, p)

  module _ {X : Type 0} (value : A → X) where
    -- the value of a row, if it is the handle's
    abbrev pub value_for : List ℕ → Option A → Option X
    value_for h None = None
    value_for h (Some a) = if bytes_eq (handle a) h then Some (value a) else None

    pub value_here : (a : A) → value_for (handle a) (Some a) ≡ Some (value a)
    value_here a = ap (λ b. if b then Some (value a) else None) ((bytes_eq-Decides (handle a) (handle a)).1 refl)

    pub value_other : (a : A) (h : List ℕ) → handle a ≢ h → value_for h (Some a) ≡ None
    value_other a h ne = elim (true_or_false (bytes_eq (handle a) h)) as (λ _. value_for h (Some a) ≡ None) [
      | inl t ↦ absurd (ne ((bytes_eq-Decides (handle a) h).0 t))
      | inr f ↦ ap (λ b. if b then Some (value a) else None) f
    ]

    abbrev map_of : List (Option A) → ByBytes X
    map_of rows = from_entries (entries_of handle value rows)

    -- a row more before others
    found_first : (a : A) (rows : List (Option A)) (h : List ℕ) → get (map_of rows) (handle a) ≡ None →
        get (map_of (Some a ∷ rows)) h ≡ (if bytes_eq (handle a) h then Some (value a) else get (map_of rows) h)
    found_first a rows h none = elim (true_or_false (bytes_eq (handle a) h)) as (λ _. get (map_of (Some a ∷ rows)) h
        ≡ (if bytes_eq (handle a) h then Some (value a) else get (map_of rows) h)) [
          | inl t ↦ ap (get (map_of (Some a ∷ rows))) (sym ((bytes_eq-Decides (handle a) h).0 t))
              ∙ get-insert_same (map_of rows) (handle a) (value a)
              ∙ sym (ap (λ b. if b then Some (value a) else get (map_of rows) h) t)
          | inr f ↦ get-insert_other (map_of rows) (handle a) (value a) h (λ e. absurd (let bad : true ≡ false =
              sym ((bytes_eq-Decides (handle a) h).1 (sym e)) ∙ f in cc))
              ∙ sym (ap (λ b. if b then Some (value a) else get (map_of rows) h) f)
        ]

    -- nothing is found before the first place
    none_before : (n : ℕ) (rows : List (Option A)) → ArePlacedFrom n rows → (h : List ℕ) → place_of h < n →
        get (map_of rows) h ≡ None
    none_before n [] placed h less = get-empty (slice_cmp nat_cmp) h
    none_before n (None ∷ rows) placed h less = none_before (suc n) rows (next_placed n None rows placed) h
        (omega arith)
    none_before n (Some a ∷ rows) placed h less =
        let here = placed zero a refl in
        get-insert_other (map_of rows) (handle a) (value a) h (λ e. let same = ap place_of e in
        absurd (omega (arith, same, here)))
        ∙ none_before (suc n) rows (next_placed n (Some a) rows placed) h (omega arith)

    found_from : (n : ℕ) (rows : List (Option A)) → ArePlacedFrom n rows → (h : List ℕ) (k : ℕ) → place_of h ≡ n + k →
        get (map_of rows) h ≡ value_for h (slice_index_or rows k None)
    found_from n [] placed h k at_k = get-empty (slice_cmp nat_cmp) h
    found_from n (None ∷ rows) placed h zero at_k =
        none_before (suc n) rows (next_placed n None rows placed) h (omega (arith, at_k))
    found_from n (None ∷ rows) placed h (suc k) at_k =
        found_from (suc n) rows (next_placed n None rows placed) h k (omega (arith, at_k))
    found_from n (Some a ∷ rows) placed h zero at_k =
        let rest = next_placed n (Some a) rows placed in
        let here = placed zero a refl in
        found_first a rows h (none_before (suc n) rows rest (handle a) (omega (arith, here)))
        ∙ ap (λ o. if bytes_eq (handle a) h then Some (value a) else o)
        (none_before (suc n) rows rest h (omega (arith, at_k)))
    found_from n (Some a ∷ rows) placed h (suc k) at_k =
        let here = placed zero a refl in
        get-insert_other (map_of rows) (handle a) (value a) h (λ e. let same = ap place_of e in
        absurd (omega (arith, same, here, at_k)))
        ∙ found_from (suc n) rows (next_placed n (Some a) rows placed) h k (omega (arith, at_k))

    -- what a table has is the value of the row at the handle's place
    pub got-table : (rows : List (Option A)) → ArePlaced handle rows → (h : List ℕ) →
        get (table handle value rows) h ≡ value_for h (slice_index_or rows (place_of h) None)
    unfolding table
    got-table rows placed h = found_from 0 rows (λ k a is. let p = placed k a is in omega (arith, p)) h (place_of h)
        (omega arith)

    pub empty-table : table handle value [] ≡ empty
    unfolding table
    empty-table = refl

    -- a table has as many as there are rows
    len_from : (n : ℕ) (rows : List (Option A)) → ArePlacedFrom n rows → len (map_of rows) ≡ count_by is_some rows
    len_from n [] placed = len-empty (slice_cmp nat_cmp) X
    len_from n (None ∷ rows) placed = len_from (suc n) rows (next_placed n None rows placed)
    len_from n (Some a ∷ rows) placed =
        let rest = next_placed n (Some a) rows placed in
        let here = placed zero a refl in
        let all = len_from (suc n) rows rest in
        let all_more : len (map_of rows) + 1 ≡ count_by is_some (Some a ∷ rows) = omega (arith, all, sum_by-cons (λ (o : Option A). cond (is_some o) 1 0) (Some a) rows) in
        len-insert nat_list_cmp_total (map_of rows) (handle a) (value a)
        ∙ ap (λ o. cond (is_some o) (len (map_of rows)) (len (map_of rows) + 1))
        (none_before (suc n) rows rest (handle a) (omega (arith, here)))
        ∙ all_more

    pub len-table : (rows : List (Option A)) → ArePlaced handle rows → len (table handle value rows) ≡ count_by is_some rows
    unfolding table
    len-table rows placed = len_from 0 rows (λ k a is. let p = placed k a is in omega (arith, p))

    -- a handle that is there has its place alone
    pub row_there : (rows : List (Option A)) → ArePlaced handle rows → (h : List ℕ) → IsSome (get (table handle value rows) h) →
        (a : A) × (slice_index_or rows (place_of h) None ≡ Some a) × (handle a ≡ h)
    row_there rows placed h there = elim (slice_index_or rows (place_of h) None) as (λ o.
        slice_index_or rows (place_of h) None ≡ o → (a : A) × (o ≡ Some a) × (handle a ≡ h)) [
          | None ↦ λ is. absurd (let bad : false ≡ true = sym (ap is_some (got-table rows placed h
              ∙ ap (value_for h) is)) ∙ there in cc)
          | Some a ↦ λ is. (
            a,
            refl,
            (elim (bytes_or_not (handle a) h) as (λ _. handle a ≡ h) [
              | inl same ↦ same
              | inr ne ↦ absurd (let bad : false ≡ true = sym (ap is_some (got-table rows placed h
                  ∙ ap (value_for h) is ∙ value_other a h ne)) ∙ there in cc)
            ]),
          )
        ] refl

    -- what stands at the handle's place says what is found
    module _ (rows : List (Option A)) (placed : ArePlaced handle rows) (place : ℕ) (h : List ℕ) (o : Option A)
        (at : place ≡ place_of h) (is : o ≡ slice_index_or rows place None) where
      got-at : value_for h o ≡ get (table handle value rows) h
      got-at = ap (value_for h) (is ∙ ap (λ k. slice_index_or rows k None) at) ∙ sym (got-table rows placed h)

      pub none-at : o ≡ None → None ≡ get (table handle value rows) h
      none-at none = sym (ap (value_for h) none) ∙ got-at

      pub other-at : (a : A) → o ≡ Some a → handle a ≢ h → None ≡ get (table handle value rows) h
      other-at a some ne = sym (ap (value_for h) some ∙ value_other a h ne) ∙ got-at

      pub here-at : (a : A) → o ≡ Some a → handle a ≡ h → Some (value a) ≡ get (table handle value rows) h
      here-at a some same = sym (ap (value_for h) some ∙ ap (λ k. value_for k (Some a)) (sym same) ∙ value_here a)
          ∙ got-at

      pub not-none-at : IsSome (get (table handle value rows) h) → o ≡ None → ⊥
      not-none-at there none = let b = row_there rows placed h there in
          some_none b.1 (ap (λ k. slice_index_or rows k None) (sym at) ∙ sym is ∙ none)

    -- where it stands is within the rows
    pub there-within : (rows : List (Option A)) → ArePlaced handle rows → (h : List ℕ) →
        IsSome (get (table handle value rows) h) → place_of h < length rows
    there-within rows placed h there = elim (cases_lt (place_of h) (length rows)) [
      | inl less ↦ less
      | inr more ↦ absurd (let a = row_there rows placed h there in
          some_none a.1 (get_or_past rows (place_of h) None more))
    ]

    -- where none but its own row stands at its place, a handle has room
    pub alone-room : (rows : List (Option A)) → ArePlaced handle rows → (h : List ℕ) →
        ((a : A) → slice_index_or rows (place_of h) None ≡ Some a → handle a ≡ h) → HasRoom (table handle value rows) h
    alone-room rows placed h alone q there same =
        let b = row_there rows placed q there in
        sym b.2 ∙ alone b.0 (ap (λ i. slice_index_or rows i None) (sym same) ∙ b.1)

    pub has-room : (rows : List (Option A)) → ArePlaced handle rows → (h : List ℕ) →
        IsSome (get (table handle value rows) h) → HasRoom (table handle value rows) h
    has-room rows placed h there = let a = row_there rows placed h there in
        alone-room rows placed h (λ b is. ap handle (some_same is a.1) ∙ a.2)

    -- the row at a place is another, and the others stay
    module _ (rows rows' : List (Option A)) (placed : ArePlaced handle rows) (k : ℕ)
        (others : (j : ℕ) → j ≢ k → slice_index_or rows' j None ≡ slice_index_or rows j None) where
      elsewhere : ArePlaced handle rows' → (q : List ℕ) → place_of q ≢ k →
          get (table handle value rows') q ≡ get (table handle value rows) q
      elsewhere placed' q ne = got-table rows' placed' q ∙ ap (value_for q) (others (place_of q) ne)
          ∙ sym (got-table rows placed q)

      pub put-placed : (a : A) → slice_index_or rows' k None ≡ Some a → place_of (handle a) ≡ k → ArePlaced handle rows'
      put-placed a is at_k j b is_b = elim (nat_or_not j k) as (λ _. place_of (handle b) ≡ j) [
        | inl same ↦ (let one : a ≡ b = some_same is (ap (λ i. slice_index_or rows' i None) (sym same) ∙ is_b) in
            ap (λ x. place_of (handle x)) (sym one) ∙ at_k ∙ sym same)
        | inr ne ↦ placed j b (sym (others j ne) ∙ is_b)
      ]

      pub put-table : (a : A) → slice_index_or rows' k None ≡ Some a → place_of (handle a) ≡ k →
          HasRoom (table handle value rows) (handle a) →
          table handle value rows' ≡ insert (table handle value rows) (handle a) (value a)
      put-table a is at_k room = same_answers _ _ (λ q. elim (bytes_or_not q (handle a)) as (λ _.
          get (table handle value rows') q ≡ get (insert (table handle value rows) (handle a) (value a)) q) [
            | inl same ↦ ap (get (table handle value rows')) same ∙ got-table rows' placed' (handle a)
                ∙ ap (λ i. value_for (handle a) (slice_index_or rows' i None)) at_k ∙ ap (value_for (handle a)) is
                ∙ value_here a
                ∙ sym (ap (get (insert (table handle value rows) (handle a) (value a))) same
                ∙ get-insert_same (table handle value rows) (handle a) (value a))
            | inr ne ↦ at_other q ne
                ∙ sym (get-insert_other (table handle value rows) (handle a) (value a) q ne)
          ])
        where
          placed' : ArePlaced handle rows'
          placed' = put-placed a is at_k

          at_other : (q : List ℕ) → q ≢ handle a → get (table handle value rows') q ≡ get (table handle value rows) q
          at_other q ne = elim (nat_or_not (place_of q) k) as (λ _. get (table handle value rows') q
              ≡ get (table handle value rows) q) [
                | inr far ↦ elsewhere placed' q far
                | inl near ↦ got-table rows' placed' q ∙ ap (λ i. value_for q (slice_index_or rows' i None)) near
                    ∙ ap (value_for q) is ∙ value_other a q (λ e. ne (sym e))
                    ∙ sym (none_there q ne (near ∙ sym at_k))
              ]
            where
              none_there : (q : List ℕ) → q ≢ handle a → place_of q ≡ place_of (handle a) →
                  get (table handle value rows) q ≡ None
              none_there q ne near = elim (get (table handle value rows) q) as (λ o. get (table handle value rows) q ≡ o →
                  o ≡ None) [
                    | None ↦ λ _. refl
                    | Some x ↦ λ found. absurd (ne (room q (ap is_some found) near))
                  ] refl

      pub taken-placed : slice_index_or rows' k None ≡ None → ArePlaced handle rows'
      taken-placed none j b is_b = placed j b (sym (others j (λ same. some_none is_b
          (ap (λ i. slice_index_or rows' i None) same ∙ none))) ∙ is_b)

      pub taken-table : slice_index_or rows' k None ≡ None → (h : List ℕ) → place_of h ≡ k →
          IsSome (get (table handle value rows) h) → table handle value rows' ≡ remove (table handle value rows) h
      taken-table none h at_k there = same_answers _ _ (λ q. elim (bytes_or_not q h) as (λ _.
          get (table handle value rows') q ≡ get (remove (table handle value rows) h) q) [
            | inl same ↦ got-table rows' placed' q
                ∙ ap (λ i. value_for q (slice_index_or rows' i None)) (ap place_of same ∙ at_k)
                ∙ ap (value_for q) none
                ∙ sym (ap (get (remove (table handle value rows) h)) same
                ∙ get-remove_same (table handle value rows) h)
            | inr ne ↦ elim (nat_or_not (place_of q) k) as (λ _. get (table handle value rows') q
                ≡ get (remove (table handle value rows) h) q) [
                  | inr far ↦ elsewhere placed' q far ∙ sym (get-remove_other (table handle value rows) h q ne)
                  | inl near ↦ got-table rows' placed' q ∙ ap (λ i. value_for q (slice_index_or rows' i None)) near
                      ∙ ap (value_for q) none
                      ∙ sym (get-remove_other (table handle value rows) h q ne ∙ none_there q ne near)
                ]
          ])
        where
          placed' : ArePlaced handle rows'
          placed' = taken-placed none

          none_there : (q : List ℕ) → q ≢ h → place_of q ≡ k → get (table handle value rows) q ≡ None
          none_there q ne near = elim (get (table handle value rows) q) as (λ o. get (table handle value rows) q ≡ o →
              o ≡ None) [
                | None ↦ λ _. refl
                | Some x ↦ λ found. absurd (ne (has-room rows placed h there q (ap is_some found) (near ∙ sym at_k)))
              ] refl
