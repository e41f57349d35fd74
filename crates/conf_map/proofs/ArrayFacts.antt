-- What a valid array says of each entry, and how its names count.
use Rattle.std.proofs.Common.{◌≡◌, ◌≢◌, inl, inr, ℕ, zero, suc, ◌+◌, ◌*◌, ◌≤◌, ◌<◌, arith, true, false, Bool, List, [], ◌∷◌, length, slice_get, Some, None, refl, sym, ap, ◌∙◌, subst, cond}
use Rattle.std.specs.Prelude.{nat_lt, nat_le, ◌||◌, not, ◌==◌, sum_by, count_by, unwrap_or, if◌then◌else◌}
use Rattle.std.specs.List.{list_all, list_any, position, position_or_len}
use Rattle.std.proofs.lemmas.Bool.Decides.{nat_tests}
use Rattle.std.proofs.lemmas.List.Sums.{sum_by-cons, count_by-le-length, fails_before_first, passes_at_first}
use Rattle.std.proofs.lemmas.Option.{slice_get_within, slice_get-get_or}
use Rattle.nfs2_types.specs.declared.Limits.{Limits}
use Rattle.nfs2_types.specs.Names.{is_name}
use Rattle.server_trait.proofs.TreeLaws.{some_none, some_same, one_or_not}
use Rattle.abs_model.specs.declared.entry.NameRow.{NameRow}
use Rattle.abs_model.specs.declared.entry.Object.{Object}
use Rattle.abs_model.specs.declared.entry.Object.TheVariants.{Null, File, Dir, Link}
use Rattle.abs_model.specs.declared.entry.Entry.{Entry}
use Rattle.abs_model.specs.Objects.{is_null, is_dir, names_of, bytes_of, attr_of, used_by, row_of}
use Rattle.abs_model.specs.Array.{entry_at, null_entry, has_row_to, links, used, parent, is_named_by}
use Rattle.abs_model.specs.Valid.{is_rising, most_bytes, times_fit, entry_fits, leads, Valid}
use Rattle.conf_map.specs.Stands.{LeadTo, IsParent}
use Rattle.conf_map.proofs.Frames.{entry_at-some}
use Rattle.conf_map.proofs.RowFacts.{and_left, and_right, all_at, found_at}

-- TESTS

-- what the test `<` says
pub lt_of : (a b : ℕ) → nat_lt a b ≡ true → a < b
lt_of a b is = grind (arith, nat_tests)

-- what the test `≤` says
pub le_of : (a b : ℕ) → nat_le a b ≡ true → a ≤ b
le_of a b is = grind (arith, nat_tests)

-- what the test `==` says
pub eq_of : (a b : ℕ) → (a == b) ≡ true → a ≡ b
eq_of a b is = grind (arith, nat_tests)

-- equal numbers pass it
pub eq_is : (a b : ℕ) → a ≡ b → (a == b) ≡ true
eq_is a b e = grind (arith, nat_tests)

-- and others do not
pub eq_not : (a b : ℕ) → a ≢ b → (a == b) ≡ false
eq_not a b ne = grind (arith, nat_tests)

-- what does not hold is false
pub not_of : (b : Bool) → not b ≡ true → b ≡ false
not_of true is = absurd (let bad : false ≡ true = is in cc)
not_of false is = refl

-- ONE ENTRY

-- what an entry of a valid array keeps to
pub record Fits (e : Entry) : Type 0 where
  pub mode : (attr_of e).mode < 4096
  pub times : times_fit (attr_of e) ≡ true
  pub rising : is_rising (names_of e) ≡ true
  pub names : list_all (λ r. is_name r.name) (names_of e) ≡ true
  pub bytes : length (bytes_of e) ≤ most_bytes e

fits : (e : Entry) → entry_fits e ≡ true → Fits e
fits e is =
    let four = and_left _ _ is in
    let three = and_left _ _ four in
    let two = and_left _ _ three in
    record {
      mode = lt_of _ _ (and_left _ _ two);
      times = and_right _ _ two;
      rising = and_right _ _ three;
      names = and_right _ _ four;
      bytes = le_of _ _ (and_right _ _ is);
    }

-- what has names is a directory
pub dir_of_row : (e : Entry) (name : List ℕ) (r : NameRow) → row_of name (names_of e) ≡ Some r → is_dir e ≡ true
dir_of_row e name r = by_object e.generation e.object
  where
    by_object : (g : ℕ) (o : Object) → row_of name (names_of (record { generation = g; object = o })) ≡ Some r →
        is_dir (record { generation = g; object = o }) ≡ true
    by_object g Null is = absurd (some_none is refl)
    by_object g (File a b) is = absurd (some_none is refl)
    by_object g (Link a b) is = absurd (some_none is refl)
    by_object g (Dir a names) is = refl

-- where a name of a valid array leads: to a live entry of its generation, and not to the root
pub record IsLed (A : List Entry) (r : NameRow) : Type 0 where
  pub not_root : r.index ≢ 0
  pub live : is_null (entry_at A r.index) ≡ false
  pub generation : (entry_at A r.index).generation ≡ r.generation

led : (A : List Entry) (r : NameRow) → leads A r ≡ true → IsLed A r
led A r is =
    let named = and_right (not (r.index == 0)) (is_named_by r.generation (entry_at A r.index)) is in
    record {
      not_root = λ e. let bad : true ≡ false = sym (eq_is r.index 0 e) ∙ not_of _ (and_left _ _ is) in cc;
      live = not_of _ (and_left _ _ named);
      generation = eq_of _ _ (and_right _ _ named);
    }

-- a live entry stands in the array
pub live_within : (A : List Entry) (i : ℕ) → is_null (entry_at A i) ≡ false → i < length A
live_within [] i live = absurd (let bad : true ≡ false = live in cc)
live_within (e ∷ A) zero live = omega arith
live_within (e ∷ A) (suc i) live = let below = live_within A i live in omega arith

-- within the array there is an entry
pub within_at : (A : List Entry) (i : ℕ) → i < length A → slice_get A i ≡ Some (entry_at A i)
within_at A i below = slice_get-get_or A i null_entry below

module _ (limits : Limits) (A : List Entry) (v : Valid limits A) where
  -- each entry fits
  pub fits_at : (i : ℕ) (e : Entry) → slice_get A i ≡ Some e → Fits e
  fits_at i e at = fits e
      (subst (λ e. entry_fits e ≡ true) (entry_at-some A i e at) (v.fits i (slice_get_within A i e at)))

  -- each name leads to a live entry
  pub led_at : (d : ℕ) (e : Entry) (k : ℕ) (r : NameRow) → slice_get A d ≡ Some e → slice_get (names_of e) k ≡ Some r →
      IsLed A r
  led_at d e k r at row = led A r
      (all_at (leads A) (names_of e) k r
      (subst (λ e. list_all (leads A) (names_of e) ≡ true) (entry_at-some A d e at)
      (v.lead d (slice_get_within A d e at))) row)

  -- the name that finds a row leads to a live entry
  pub led_by : (d : ℕ) (e : Entry) (name : List ℕ) (r : NameRow) → slice_get A d ≡ Some e →
      row_of name (names_of e) ≡ Some r → IsLed A r
  led_by d e name r at is = let f = found_at (names_of e) name r is in led_at d e f.0 r at f.1

-- COUNTS

-- one element's share of a sum, and that of two
pub share_of : {X : Type 0} (f : X → ℕ) (xs : List X) (i : ℕ) (x : X) → slice_get xs i ≡ Some x → f x ≤ sum_by f xs
share_of f [] i x at = absurd (some_none at refl)
share_of f (y ∷ xs) zero x at = let same : f x ≡ f y = ap f (some_same at refl) in let sum = sum_by-cons f y xs in
    omega (arith, same, sum)
share_of f (y ∷ xs) (suc i) x at = let rest = share_of f xs i x at in let sum = sum_by-cons f y xs in
    omega (arith, rest, sum)

shares_of : {X : Type 0} (f : X → ℕ) (xs : List X) (i j : ℕ) (x y : X) → i ≢ j → slice_get xs i ≡ Some x →
    slice_get xs j ≡ Some y → f x + f y ≤ sum_by f xs
shares_of f [] i j x y ne at_i at_j = absurd (some_none at_i refl)
shares_of f (z ∷ xs) zero zero x y ne at_i at_j = absurd (ne refl)
shares_of f (z ∷ xs) zero (suc j) x y ne at_i at_j =
    let same : f x ≡ f z = ap f (some_same at_i refl) in
    let rest = share_of f xs j y at_j in
    let sum = sum_by-cons f z xs in
    omega (arith, same, rest, sum)
shares_of f (z ∷ xs) (suc i) zero x y ne at_i at_j =
    let same : f y ≡ f z = ap f (some_same at_j refl) in
    let rest = share_of f xs i x at_i in
    let sum = sum_by-cons f z xs in
    omega (arith, same, rest, sum)
shares_of f (z ∷ xs) (suc i) (suc j) x y ne at_i at_j =
    let rest = shares_of f xs i j x y (λ e. ne (ap suc e)) at_i at_j in
    let sum = sum_by-cons f z xs in
    omega (arith, rest, sum)

-- each name uses 512 bytes
pub links_used : (A : List Entry) (i : ℕ) → 512 * links A i ≤ used A
links_used [] i = omega arith
links_used (e ∷ A) i =
    let rest = links_used A i in
    let few = count_by-le-length (λ (r : NameRow). r.index == i) (names_of e) in
    let l = sum_by-cons (λ (e : Entry). count_by (λ r. r.index == i) (names_of e)) e A in
    let u = sum_by-cons used_by e A in
    omega (arith, rest, few, l, u)

-- an entry uses no more than the whole array
pub entry_used : (A : List Entry) (i : ℕ) (e : Entry) → slice_get A i ≡ Some e → used_by e ≤ used A
entry_used A i e at = share_of used_by A i e at

-- PARENTS

-- a row that leads to an index stands in the list
pub any_at : (rows : List NameRow) (j : ℕ) → list_any (λ r. r.index == j) rows ≡ true →
    (k : ℕ) × (r : NameRow) × (slice_get rows k ≡ Some r) × (r.index ≡ j)
any_at [] j h = absurd (let bad : false ≡ true = h in cc)
any_at (x ∷ rows) j h = elim (x.index == j) as
    (λ b. (x.index == j) ≡ b → (b || list_any (λ r. r.index == j) rows) ≡ true →
    (k : ℕ) × (r : NameRow) × (slice_get (x ∷ rows) k ≡ Some r) × (r.index ≡ j)) [
      | true ↦ λ t _. (zero, x, refl, eq_of x.index j t)
      | false ↦ λ _ h. let k = any_at rows j h in (suc k.0, k.1, k.2, k.3)
    ] refl h

any_from : (rows : List NameRow) (j k : ℕ) (r : NameRow) → slice_get rows k ≡ Some r → r.index ≡ j →
    list_any (λ r. r.index == j) rows ≡ true
any_from [] j k r at is = absurd (some_none at refl)
any_from (x ∷ rows) j zero r at is =
    let here : (x.index == j) ≡ true = eq_is x.index j (ap (λ (r : NameRow). r.index) (some_same refl at) ∙ is) in
    ap (λ b. b || list_any (λ r. r.index == j) rows) here
any_from (x ∷ rows) j (suc k) r at is = elim (x.index == j) as (λ b. (b || list_any (λ r. r.index == j) rows) ≡ true) [
  | true ↦ refl
  | false ↦ any_from rows j k r at is
]

lead_row : (e : Entry) (i : ℕ) → LeadTo (names_of e) i → has_row_to i e ≡ true
lead_row e i l = let f = found_at (names_of e) l.0 l.1 l.2 in any_from (names_of e) i f.0 l.1 f.1 l.3

row_counts : (e : Entry) (i : ℕ) → has_row_to i e ≡ true → 1 ≤ count_by (λ r. r.index == i) (names_of e)
row_counts e i has =
    let k = any_at (names_of e) i has in
    let share = share_of (λ (r : NameRow). cond (r.index == i) 1 0) (names_of e) k.0 k.1 k.2 in
    let one : cond (k.1.index == i) 1 0 ≡ suc zero = ap (λ b. cond b 1 0) (eq_is k.1.index i k.3) in
    omega (arith, share, one)

-- what has one name has it in one directory
pub one_parent : (A : List Entry) (i p q : ℕ) (e f : Entry) → links A i ≡ 1 → slice_get A p ≡ Some e →
    slice_get A q ≡ Some f → has_row_to i e ≡ true → has_row_to i f ≡ true → p ≡ q
one_parent A i p q e f one at_p at_q has_p has_q = elim (one_or_not p q) as (λ _. p ≡ q) [
  | inl same ↦ same
  | inr ne ↦
      let two = shares_of (λ (e : Entry). count_by (λ r. r.index == i) (names_of e)) A p q e f ne at_p at_q in
      let a = row_counts e i has_p in
      let b = row_counts f i has_q in
      absurd (omega (arith, two, a, b))
]

-- an entry that has a row is no null entry
row_within : (A : List Entry) (i p : ℕ) → has_row_to i (entry_at A p) ≡ true → p < length A
row_within [] i p has = absurd (let bad : false ≡ true = has in cc)
row_within (e ∷ A) i zero has = omega arith
row_within (e ∷ A) i (suc p) has = let below = row_within A i p has in omega arith

-- the first entry that passes, where some does
position_at : (p : Entry → Bool) (A : List Entry) (k : ℕ) → k < length A → p (entry_at A k) ≡ true →
    (q : ℕ) × (position p A ≡ Some q) × (q < length A) × (p (entry_at A q) ≡ true)
position_at p A k below passes =
    let first : position_or_len p A ≤ k = elim (nat_lt k (position_or_len p A)) as
    (λ b. nat_lt k (position_or_len p A) ≡ b → position_or_len p A ≤ k) [
      | true ↦ λ t. absurd (let bad : true ≡ false = sym passes
          ∙ fails_before_first p A k null_entry (lt_of _ _ t) in cc)
      | false ↦ λ f. le_from k (position_or_len p A) f
    ] refl in
    let within : position_or_len p A < length A = omega arith in (
      position_or_len p A,
      ap (λ b. cond b (Some (position_or_len p A)) None) (lt_is _ _ within),
      within,
      passes_at_first p A null_entry within,
    )
  where
    le_from : (a b : ℕ) → nat_lt a b ≡ false → b ≤ a
    le_from a b is = grind (arith, nat_tests)

    lt_is : (a b : ℕ) → a < b → nat_lt a b ≡ true
    lt_is a b is = grind (arith, nat_tests)

-- the directory that names a directory is its parent
pub parent_is : (limits : Limits) (A : List Entry) → Valid limits A → (p i : ℕ) → is_dir (entry_at A i) ≡ true →
    IsParent A p i → p ≡ parent A i
parent_is limits A v p i dir k = elim (one_or_not i 0) as (λ _. p ≡ parent A i) [
  | inl e ↦ k.0 e ∙ sym (ap (λ b. if b then 0 else unwrap_or (position (has_row_to i) A) 0) (eq_is i 0 e))
  | inr ne ↦
      let has = lead_row (entry_at A p) i (k.1 ne) in
      let below = row_within A i p has in
      let q = position_at (has_row_to i) A p below has in
      one_parent A i p q.0 (entry_at A p) (entry_at A q.0) (v.one_name i dir ne) (within_at A p below)
      (within_at A q.0 q.2) has q.3
      ∙ sym (ap (λ b. if b then 0 else unwrap_or (position (has_row_to i) A) 0) (eq_not i 0 ne)
      ∙ ap (λ o. unwrap_or o 0) q.1)
]
