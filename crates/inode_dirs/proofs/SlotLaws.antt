-- An index of a directory's slots, after a name is added and after one is removed; the names that the slots hold.
use Rattle.std.proofs.Common.{inl, inr, ◌≡◌, ◌≢◌, ◌↔◌, ℕ, zero, suc, ◌<◌, ◌≤◌, arith, cond, List, [], ◌∷◌, ◌++◌, map, take, set, length, slice_get, Option, Some, None, refl, sym, ap, ◌∙◌, subst}
use Rattle.std.specs.Option.{option_map}
use Rattle.std.specs.Ordering.{nat_cmp, is_eq}
use Rattle.std.specs.Cmp.Lexicographic.{slice_cmp, nat_list_cmp_total}
use Rattle.std.specs.FinMap.{get, insert, remove, find, get-from_entries}
use Rattle.std.proofs.lemmas.Option.{slice_get_within}
use Rattle.server_trait.proofs.TreeLaws.{bytes_or_not, one_or_not, some_none, some_same, same_answers, other-keys, same-key_refl, get-insert_same, get-insert_other, get-remove_same, get-remove_other}
use Rattle.inode_dirs.specs.Slots.{Slots, IsIndexOf, names_of}
use Rattle.inode_dirs.specs.declared.index.Place.{Place}

-- NUMBERS

data Compared (a b : ℕ) : Type 0 where
  Below : a < b → Compared a b
  Same : a ≡ b → Compared a b
  Above : b < a → Compared a b

compare : (a b : ℕ) → Compared a b
compare zero zero = Same refl
compare zero (suc b) = Below (omega arith)
compare (suc a) zero = Above (omega arith)
compare (suc a) (suc b) = elim (compare a b) as (λ _. Compared (suc a) (suc b)) [
  | Below l ↦ Below (omega arith)
  | Same e ↦ Same (ap suc e)
  | Above l ↦ Above (omega arith)
]

-- PLACES IN LISTS

module _ {X : Type 0} where
  pub get-append : (xs : List X) (x : X) (k : ℕ) → k < length xs → slice_get (xs ++ x ∷ []) k ≡ slice_get xs k
  get-append [] x k l = absurd (omega arith)
  get-append (y ∷ xs) x zero l = refl
  get-append (y ∷ xs) x (suc k) l = get-append xs x k (omega arith)

  pub get-append_last : (xs : List X) (x : X) → slice_get (xs ++ x ∷ []) (length xs) ≡ Some x
  get-append_last [] x = refl
  get-append_last (y ∷ xs) x = get-append_last xs x

  pub get-append_past : (xs : List X) (x : X) (k : ℕ) → length xs < k → slice_get (xs ++ x ∷ []) k ≡ None
  get-append_past [] x zero l = absurd (omega arith)
  get-append_past [] x (suc k) l = refl
  get-append_past (y ∷ xs) x zero l = absurd (omega arith)
  get-append_past (y ∷ xs) x (suc k) l = get-append_past xs x k (omega arith)

  pub get-take : (n : ℕ) (xs : List X) (k : ℕ) → k < n → slice_get (take n xs) k ≡ slice_get xs k
  get-take zero xs k l = absurd (omega arith)
  get-take (suc n) [] k l = refl
  get-take (suc n) (x ∷ xs) zero l = refl
  get-take (suc n) (x ∷ xs) (suc k) l = get-take n xs k (omega arith)

  pub get-take_past : (n : ℕ) (xs : List X) (k : ℕ) → n ≤ k → slice_get (take n xs) k ≡ None
  get-take_past zero xs k l = refl
  get-take_past (suc n) [] k l = refl
  get-take_past (suc n) (x ∷ xs) zero l = absurd (omega arith)
  get-take_past (suc n) (x ∷ xs) (suc k) l = get-take_past n xs k (omega arith)

  pub get-set_same : (xs : List X) (k : ℕ) (x : X) → k < length xs → slice_get (set xs k x) k ≡ Some x
  get-set_same [] k x l = absurd (omega arith)
  get-set_same (y ∷ xs) zero x l = refl
  get-set_same (y ∷ xs) (suc k) x l = get-set_same xs k x (omega arith)

  pub get-set_other : (xs : List X) (k j : ℕ) (x : X) → j ≢ k → slice_get (set xs k x) j ≡ slice_get xs j
  get-set_other [] k j x ne = refl
  get-set_other (y ∷ xs) zero zero x ne = absurd (ne refl)
  get-set_other (y ∷ xs) zero (suc j) x ne = refl
  get-set_other (y ∷ xs) (suc k) zero x ne = refl
  get-set_other (y ∷ xs) (suc k) (suc j) x ne = get-set_other xs k j x (λ e. ne (ap suc e))

-- THE NAMES

module _ (handle : ℕ → List ℕ) where
  abbrev rows : Slots → List (List ℕ × List ℕ)
  rows ss = map (λ s. (s.0, handle s.1)) ss

  -- where a name stands
  found : (ss : Slots) (q h : List ℕ) → find (slice_cmp nat_cmp) q (rows ss) ≡ Some h →
      (k : ℕ) × (i : ℕ) × (slice_get ss k ≡ Some (q, i)) × (handle i ≡ h)
  found [] q h is = absurd (let bad : None ≡ Some h = is in cc)
  found (s ∷ ss) q h is = elim (bytes_or_not q s.0) as (λ _. (k : ℕ) × (i : ℕ) × (slice_get (s ∷ ss) k ≡ Some (q, i))
      × (handle i ≡ h)) [
        | inl e ↦ (
          0,
          s.1,
          ap (λ x. Some (x, s.1)) (sym e),
          some_same
              (ap (λ b. cond b (Some (handle s.1)) (find (slice_cmp nat_cmp) q (rows ss)))
              (ap (λ x. is_eq (slice_cmp nat_cmp q x)) (sym e) ∙ same-key_refl q)) is,
        )
        | inr ne ↦ let below = found ss q h
            (sym (ap (λ b. cond b (Some (handle s.1)) (find (slice_cmp nat_cmp) q (rows ss))) (other-keys q s.0 ne)) ∙ is)
            in (suc below.0, below.1, below.2, below.3)
      ]

  not_found : (ss : Slots) (q : List ℕ) (k i : ℕ) → slice_get ss k ≡ Some (q, i) → find (slice_cmp nat_cmp) q
      (rows ss) ≡ None → ⊥
  not_found [] q k i at none = some_none at refl
  not_found (s ∷ ss) q k i at none = elim (bytes_or_not q s.0) as (λ _. ⊥) [
    | inl e ↦ some_none (ap (λ b. cond b (Some (handle s.1)) (find (slice_cmp nat_cmp) q (rows ss)))
        (ap (λ x. is_eq (slice_cmp nat_cmp q x)) (sym e) ∙ same-key_refl q)) none
    | inr ne ↦ by k at ne (not_found ss q)
        (sym (ap (λ b. cond b (Some (handle s.1)) (find (slice_cmp nat_cmp) q (rows ss))) (other-keys q s.0 ne)) ∙ none)
  ]
    where
      by : (k : ℕ) → slice_get (s ∷ ss) k ≡ Some (q, i) → q ≢ s.0 →
          ((k i : ℕ) → slice_get ss k ≡ Some (q, i) → find (slice_cmp nat_cmp) q (rows ss) ≡ None → ⊥) →
          find (slice_cmp nat_cmp) q (rows ss) ≡ None → ⊥
      by zero at ne below none = ne (ap (λ (x : List ℕ × ℕ). x.0) (some_same at refl))
      by (suc k) at ne below none = below k i at none

  -- the names of slots are what the index answers
  pub names-indexed : (f : List ℕ → Option Place) (ss : Slots) → IsIndexOf f ss → (q : List ℕ) →
      get (names_of handle ss) q ≡ option_map (λ p. handle p.inode) (f q)
  unfolding names_of
  names-indexed f ss is q = get-from_entries nat_list_cmp_total (rows ss) q
      ∙ both (f q) refl (find (slice_cmp nat_cmp) q (rows ss)) refl
    where
      both : (o : Option Place) → f q ≡ o → (r : Option (List ℕ)) → find (slice_cmp nat_cmp) q (rows ss) ≡ r →
          r ≡ option_map (λ p. handle p.inode) o
      both None e None d = refl
      both None e (Some h) d =
          let at = found ss q h d in
          let place : Place = record { slot = at.0; inode = at.1 } in
          absurd (some_none ((is q place).1 at.2) e)
      both (Some p) e None d = absurd (not_found ss q p.slot p.inode ((is q p).0 e) d)
      both (Some p) e (Some h) d =
          let at = found ss q h d in
          let place : Place = record { slot = at.0; inode = at.1 } in
          let same : place ≡ p = some_same ((is q place).1 at.2) e in
          ap Some (sym at.3 ∙ ap (λ (p : Place). handle p.inode) same)

-- A NAME IS ADDED

module _ (f f' : List ℕ → Option Place) (ss : Slots) (is : IsIndexOf f ss) (name : List ℕ) (i : ℕ) (new : f name ≡ None)
    (place : Place) (slot_is : place.slot ≡ length ss) (inode_is : place.inode ≡ i)
    (here : f' name ≡ Some place) (others : (q : List ℕ) → q ≢ name → f' q ≡ f q) where
  added_last : (p : Place) → slice_get (ss ++ (name, i) ∷ []) p.slot ≡ Some (name, p.inode) → p.slot < length ss → ⊥
  added_last p at l = some_none ((is name p).1 (sym (get-append ss (name, i) p.slot l) ∙ at)) new

  pub index-added : IsIndexOf f' (ss ++ (name, i) ∷ [])
  index-added q p = elim (bytes_or_not q name) as (λ _. (f' q ≡ Some p) ↔ (slice_get (ss ++ (name, i) ∷ [])
      p.slot ≡ Some (q, p.inode))) [
        | inl e ↦ subst (λ q. (f' q ≡ Some p) ↔ (slice_get (ss ++ (name, i) ∷ []) p.slot ≡ Some (q, p.inode))) (sym e) (
          λ a. let same : place ≡ p = some_same here a in subst (λ (p : Place). slice_get (ss ++ (name, i) ∷ [])
              p.slot ≡ Some (name, p.inode)) same
              (ap (slice_get (ss ++ (name, i) ∷ [])) slot_is ∙ get-append_last ss (name, i) ∙ ap (λ n. Some (name, n))
              (sym inode_is)),
          λ at. here ∙ ap Some (is_place p at (compare p.slot (length ss))),
        )
        | inr ne ↦ (
          λ a. let old = (is q p).0 (sym (others q ne) ∙ a) in get-append ss (name, i) p.slot (slice_get_within ss p.slot
              (q, p.inode) old) ∙ old,
          λ at. others q ne ∙ (is q p).1 (is_old q p ne at (compare p.slot (length ss))),
        )
      ]
    where
      is_place : (p : Place) → slice_get (ss ++ (name, i) ∷ []) p.slot ≡ Some (name, p.inode) → Compared p.slot
          (length ss) → place ≡ p
      is_place p at (Below l) = absurd (added_last p at l)
      is_place p at (Same e) =
          let at_last : Some (name, i) ≡ Some (name, p.inode) = sym (get-append_last ss (name, i))
          ∙ ap (slice_get (ss ++ (name, i) ∷ [])) (sym e) ∙ at in
          let inodes : i ≡ p.inode = ap (λ (x : List ℕ × ℕ). x.1) (some_same refl at_last) in
          let a : place.slot ≡ p.slot = slot_is ∙ sym e in
          let b : place.inode ≡ p.inode = inode_is ∙ inodes in
          λ k. record { slot = a k; inode = b k }
      is_place p at (Above l) = absurd (some_none at (get-append_past ss (name, i) p.slot l))

      is_old : (q : List ℕ) (p : Place) → q ≢ name → slice_get (ss ++ (name, i) ∷ []) p.slot ≡ Some (q, p.inode) →
          Compared p.slot (length ss) → slice_get ss p.slot ≡ Some (q, p.inode)
      is_old q p ne at (Below l) = sym (get-append ss (name, i) p.slot l) ∙ at
      is_old q p ne at (Same e) =
          let at_last : Some (name, i) ≡ Some (q, p.inode) = sym (get-append_last ss (name, i))
          ∙ ap (slice_get (ss ++ (name, i) ∷ [])) (sym e) ∙ at in
          absurd (ne (ap (λ (x : List ℕ × ℕ). x.0) (some_same at_last refl)))
      is_old q p ne at (Above l) = absurd (some_none at (get-append_past ss (name, i) p.slot l))

-- A NAME IS REMOVED, AND THE LAST SLOT MOVES INTO ITS PLACE

module _ (f f' : List ℕ → Option Place) (ss : Slots) (is : IsIndexOf f ss) (name : List ℕ) (gone : Place)
    (at_name : f name ≡ Some gone)
    (last : List ℕ) (j n : ℕ) (size : length ss ≡ suc n) (is_last : slice_get ss n ≡ Some (last, j))
    (moved : Place) (slot_is : moved.slot ≡ gone.slot) (inode_is : moved.inode ≡ j)
    (here : f' name ≡ None) (there : last ≢ name → f' last ≡ Some moved)
    (others : (q : List ℕ) → q ≢ name → q ≢ last → f' q ≡ f q) where
  stood : slice_get ss gone.slot ≡ Some (name, gone.inode)
  stood = (is name gone).0 at_name

  within : gone.slot < suc n
  within = let l = slice_get_within ss gone.slot (name, gone.inode) stood in omega (arith, l, size)

  abbrev left : Slots
  left = take n (set ss gone.slot (last, j))

  -- what stands in each place that is left
  at_gone : gone.slot < n → slice_get left gone.slot ≡ Some (last, j)
  at_gone l = get-take n (set ss gone.slot (last, j)) gone.slot l ∙ get-set_same ss gone.slot (last, j)
      (omega (arith, size))

  at_other : (k : ℕ) → k < n → k ≢ gone.slot → slice_get left k ≡ slice_get ss k
  at_other k l ne = get-take n (set ss gone.slot (last, j)) k l ∙ get-set_other ss gone.slot k (last, j) ne

  at_past : (k : ℕ) → n ≤ k → slice_get left k ≡ None
  at_past k l = get-take_past n (set ss gone.slot (last, j)) k l

  -- a name stands in one place of the slots
  once : (q : List ℕ) (a b x y : ℕ) → slice_get ss a ≡ Some (q, x) → slice_get ss b ≡ Some (q, y) → a ≡ b
  once q a b x y at_a at_b =
      let p : Place = record { slot = a; inode = x } in
      let r : Place = record { slot = b; inode = y } in
      ap (λ (p : Place). p.slot) (some_same ((is q p).1 at_a) ((is q r).1 at_b))

  -- the removed name was the last, or stood before it
  last_or : (last ≡ name) → gone.slot ≡ n
  last_or e = once name gone.slot n gone.inode j stood (is_last ∙ ap (λ x. Some (x, j)) e)

  name_left : (p : Place) → slice_get left p.slot ≡ Some (name, p.inode) → Compared p.slot n → ⊥
  name_left p at (Below l) = elim (one_or_not p.slot gone.slot) as (λ _. ⊥) [
    | inl e ↦
        let is_name : Some (last, j) ≡ Some (name, p.inode) = sym (at_gone (omega (arith, e, l)))
        ∙ ap (slice_get left) (sym e) ∙ at in
        let end = last_or (ap (λ (x : List ℕ × ℕ). x.0) (some_same refl is_name)) in
        omega (arith, e, l, end)
    | inr ne ↦ ne (once name p.slot gone.slot p.inode gone.inode (sym (at_other p.slot l ne) ∙ at) stood)
  ]
  name_left p at (Same e) = some_none at (at_past p.slot (omega (arith, e)))
  name_left p at (Above l) = some_none at (at_past p.slot (omega (arith, l)))

  last_to : (p : Place) → last ≢ name → moved ≡ p → slice_get left p.slot ≡ Some (last, p.inode)
  last_to p ne same = subst (λ (p : Place). slice_get left p.slot ≡ Some (last, p.inode)) same (
      ap (slice_get left) slot_is ∙ at_gone (before (compare gone.slot n)) ∙ ap (λ x. Some (last, x)) (sym inode_is))
    where
      before : Compared gone.slot n → gone.slot < n
      before (Below l) = l
      before (Same e) = absurd (ne (ap (λ (x : List ℕ × ℕ). x.0) (some_same is_last (ap (slice_get ss) (sym e)
          ∙ stood))))
      before (Above l) = absurd (let w = within in omega (arith, l, w))

  last_from : (p : Place) → last ≢ name → slice_get left p.slot ≡ Some (last, p.inode) → Compared p.slot n → moved ≡ p
  last_from p ne at (Below l) = elim (one_or_not p.slot gone.slot) as (λ _. moved ≡ p) [
    | inl e ↦
        let both : Some (last, j) ≡ Some (last, p.inode) = sym (at_gone (omega (arith, e, l))) ∙ ap (slice_get left)
        (sym e) ∙ at in
        let a : moved.slot ≡ p.slot = slot_is ∙ sym e in
        let b : moved.inode ≡ p.inode = inode_is ∙ ap (λ (x : List ℕ × ℕ). x.1) (some_same refl both) in
        λ k. record { slot = a k; inode = b k }
    | inr apart ↦ absurd (let end = once last p.slot n p.inode j (sym (at_other p.slot l apart) ∙ at) is_last in
        omega (arith, end, l))
  ]
  last_from p ne at (Same e) = absurd (some_none at (at_past p.slot (omega (arith, e))))
  last_from p ne at (Above l) = absurd (some_none at (at_past p.slot (omega (arith, l))))

  other_to : (q : List ℕ) (p : Place) → q ≢ name → q ≢ last → slice_get ss p.slot ≡ Some (q, p.inode) →
      Compared p.slot n → slice_get left p.slot ≡ Some (q, p.inode)
  other_to q p nn nl at (Below l) = at_other p.slot l
      (λ e. nn (ap (λ (x : List ℕ × ℕ). x.0) (some_same at (ap (slice_get ss) e ∙ stood)))) ∙ at
  other_to q p nn nl at (Same e) =
      absurd (nl (ap (λ (x : List ℕ × ℕ). x.0) (some_same at (ap (slice_get ss) e ∙ is_last))))
  other_to q p nn nl at (Above l) = absurd (let w = slice_get_within ss p.slot (q, p.inode) at in
      omega (arith, w, size, l))

  other_from : (q : List ℕ) (p : Place) → q ≢ name → q ≢ last → slice_get left p.slot ≡ Some (q, p.inode) →
      Compared p.slot n → slice_get ss p.slot ≡ Some (q, p.inode)
  other_from q p nn nl at (Below l) = elim (one_or_not p.slot gone.slot) as (λ _. slice_get ss p.slot ≡ Some
      (q, p.inode)) [
        | inl e ↦ absurd (nl (ap (λ (x : List ℕ × ℕ). x.0) (some_same at (ap (slice_get left) e
            ∙ at_gone (omega (arith, e, l))))))
        | inr ne ↦ sym (at_other p.slot l ne) ∙ at
      ]
  other_from q p nn nl at (Same e) = absurd (some_none at (at_past p.slot (omega (arith, e))))
  other_from q p nn nl at (Above l) = absurd (some_none at (at_past p.slot (omega (arith, l))))

  pub index-removed : IsIndexOf f' left
  index-removed q p = elim (bytes_or_not q name) as (λ _. (f' q ≡ Some p) ↔ (slice_get left p.slot ≡ Some
      (q, p.inode))) [
        | inl e ↦ subst (λ q. (f' q ≡ Some p) ↔ (slice_get left p.slot ≡ Some (q, p.inode))) (sym e) (
          λ a. absurd (some_none a here),
          λ at. absurd (name_left p at (compare p.slot n)),
        )
        | inr nn ↦ elim (bytes_or_not q last) as (λ _. (f' q ≡ Some p) ↔ (slice_get left p.slot ≡ Some (q, p.inode))) [
          | inl e ↦
              let ne : last ≢ name = λ x. nn (e ∙ x) in
              subst (λ q. (f' q ≡ Some p) ↔ (slice_get left p.slot ≡ Some (q, p.inode))) (sym e) (
                λ a. last_to p ne (some_same (there ne) a),
                λ at. there ne ∙ ap Some (last_from p ne at (compare p.slot n)),
              )
          | inr nl ↦ (
            λ a. other_to q p nn nl ((is q p).0 (sym (others q nn nl) ∙ a)) (compare p.slot n),
            λ at. others q nn nl ∙ (is q p).1 (other_from q p nn nl at (compare p.slot n)),
          )
        ]
      ]

-- THE NAMES AFTER

-- the inode of a place, if there is one
abbrev inode_at : Option Place → Option ℕ
inode_at o = option_map (λ (p : Place). p.inode) o

module _ (handle : ℕ → List ℕ) (f f' : List ℕ → Option Place) (ss ss' : Slots) (is : IsIndexOf f ss)
    (is' : IsIndexOf f' ss')
    (name : List ℕ) (others : (q : List ℕ) → q ≢ name → inode_at (f' q) ≡ inode_at (f q)) where
  by_inode : (o : Option Place) → option_map (λ (p : Place). handle p.inode) o ≡ option_map handle (inode_at o)
  by_inode None = refl
  by_inode (Some p) = refl

  -- what a name leads to, before and after
  led_before : (q : List ℕ) → get (names_of handle ss) q ≡ option_map handle (inode_at (f q))
  led_before q = names-indexed handle f ss is q ∙ by_inode (f q)

  led_after : (q : List ℕ) → get (names_of handle ss') q ≡ option_map handle (inode_at (f' q))
  led_after q = names-indexed handle f' ss' is' q ∙ by_inode (f' q)

  kept : (q : List ℕ) → q ≢ name → get (names_of handle ss') q ≡ get (names_of handle ss) q
  kept q ne = led_after q ∙ ap (option_map handle) (others q ne) ∙ sym (led_before q)

  -- one name more
  pub names-more : (i : ℕ) → inode_at (f' name) ≡ Some i → names_of handle ss' ≡ insert (names_of handle ss) name
      (handle i)
  names-more i here = same_answers (names_of handle ss') (insert (names_of handle ss) name (handle i)) (λ q.
      elim (bytes_or_not q name) as (λ _. get (names_of handle ss') q ≡ get (insert (names_of handle ss) name
      (handle i)) q) [
        | inl e ↦ subst (λ q. get (names_of handle ss') q ≡ get (insert (names_of handle ss) name (handle i)) q) (sym e)
            (led_after name ∙ ap (option_map handle) here ∙ sym (get-insert_same (names_of handle ss) name (handle i)))
        | inr ne ↦ kept q ne ∙ sym (get-insert_other (names_of handle ss) name (handle i) q ne)
      ])

  -- one name less
  pub names-less : inode_at (f' name) ≡ None → names_of handle ss' ≡ remove (names_of handle ss) name
  names-less here = same_answers (names_of handle ss') (remove (names_of handle ss) name) (λ q.
      elim (bytes_or_not q name) as (λ _. get (names_of handle ss') q ≡ get (remove (names_of handle ss) name) q) [
        | inl e ↦ subst (λ q. get (names_of handle ss') q ≡ get (remove (names_of handle ss) name) q) (sym e)
            (led_after name ∙ ap (option_map handle) here ∙ sym (get-remove_same (names_of handle ss) name))
        | inr ne ↦ kept q ne ∙ sym (get-remove_other (names_of handle ss) name q ne)
      ])

-- AN INDEX IS BUILT

-- no slots
pub index-none : IsIndexOf (λ _. None) []
index-none q p = (
  λ a. absurd (let bad : None ≡ Some p = a in cc),
  λ at. absurd (let bad : None ≡ Some (q, p.inode) = at in cc),
)

-- where names stand once, the next slot's name is new
pub next-new : (f : List ℕ → Option Place) (ss : Slots) (k i : ℕ) (name : List ℕ) → IsIndexOf f (take k ss) →
    slice_get ss k ≡ Some (name, i) →
    ((a b x y : ℕ) (q : List ℕ) → slice_get ss a ≡ Some (q, x) → slice_get ss b ≡ Some (q, y) → a ≡ b) → f name ≡ None
next-new f ss k i name is at once = by (f name) refl
  where
    stands : (p : Place) → slice_get (take k ss) p.slot ≡ Some (name, p.inode) → Compared p.slot k → ⊥
    stands p here (Below l) = let same = once p.slot k p.inode i name (sym (get-take k ss p.slot l) ∙ here) at in
        omega (arith, same, l)
    stands p here (Same e) = some_none here (get-take_past k ss p.slot (omega (arith, e)))
    stands p here (Above l) = some_none here (get-take_past k ss p.slot (omega (arith, l)))

    by : (o : Option Place) → f name ≡ o → o ≡ None
    by None e = refl
    by (Some p) e = absurd (stands p ((is name p).0 e) (compare p.slot k))
