-- The rows of tables, after one is set.
use Rattle.std.proofs.Common.{inl, inr, ◌⊎◌, ◌≤◌, ◌≡◌, ◌≢◌, ℕ, zero, suc, ◌^◌, ◌<◌, Bool, true, false, arith, List, [], ◌∷◌, set, length, slice_get, Option, Some, None, IsSome, refl, sym, ap, ◌∙◌}
use Rattle.std.specs.Prelude.{slice_index, option_and_then}
use Rattle.std.specs.Ordering.{nat_cmp}
use Rattle.std.specs.Cmp.Lexicographic.{slice_cmp}
use Rattle.std.specs.FinMap.{get, empty, get-empty}
use Rattle.std.specs.Int.{w32, to_be_bytes, from_be_bytes}
use Rattle.std.proofs.lemmas.Nat.{from_be_bytes-to_be_bytes_4}
use Rattle.std.proofs.lemmas.Option.{slice_get_within}
use Rattle.std.proofs.lemmas.List.{get_or-set_same, get_or-set_other, get_or_past}
use Rattle.server_trait.specs.Tree.{ByBytes}
use Rattle.block_alloc.specs.Free.{is_free, free_count, one_if}
use Rattle.std.proofs.lemmas.Bool.{cases_lt}
use Rattle.inode_dirs.specs.declared.index.Place.{Place}
use Rattle.inode_dirs.proofs.SlotLaws.{get-set_same, get-set_other}
use Rattle.inode_tree.specs.Handles.{handle_bytes}

four : (i epoch salt : ℕ) → (slice_index (handle_bytes i epoch salt) 0 ∷ slice_index (handle_bytes i epoch salt) 1 ∷
    slice_index (handle_bytes i epoch salt) 2 ∷ slice_index (handle_bytes i epoch salt) 3 ∷ []) ≡ to_be_bytes w32 i
unfolding handle_bytes
four i epoch salt = refl

-- a handle begins with the number of its inode
pub number_in : (i epoch salt inode : ℕ) (h : List ℕ) → i < 2 ^ 32 → handle_bytes i epoch salt ≡ h →
    inode ≡ from_be_bytes w32 (slice_index h 0 ∷ slice_index h 1 ∷ slice_index h 2 ∷ slice_index h 3 ∷ []) → i ≡ inode
number_in i epoch salt inode h fits is read = sym (from_be_bytes-to_be_bytes_4 i fits)
    ∙ ap (from_be_bytes w32) (sym (four i epoch salt)) ∙ ap (λ (h : List ℕ). from_be_bytes w32
    (slice_index h 0 ∷ slice_index h 1 ∷ slice_index h 2 ∷ slice_index h 3 ∷ [])) is ∙ sym read

-- a row with a kind is there
pub used_within : {X : Type 0} (rows : List (Option X)) (i : ℕ) → IsSome (option_and_then (λ k. k) (slice_get rows i)) →
    i < length rows
used_within {X} rows i some = by (slice_get rows i) refl some
  where
    by : (o : Option (Option X)) → slice_get rows i ≡ o → IsSome (option_and_then (λ k. k) o) → i < length rows
    by None none bad = absurd (let no : false ≡ true = bad in cc)
    by (Some k) at some = slice_get_within rows i k at

-- the kind of a row, and the place of a name in a row's index
pub kind_same : {X : Type 0} (rows : List (Option X)) (i : ℕ) (k : Option X) → i < length rows →
    option_and_then (λ k. k) (slice_get (set rows i k) i) ≡ k
kind_same rows i k l = ap (option_and_then (λ k. k)) (get-set_same rows i k l)

pub kind_other : {X : Type 0} (rows : List (Option X)) (i j : ℕ) (k : Option X) → j ≢ i →
    option_and_then (λ k. k) (slice_get (set rows i k) j) ≡ option_and_then (λ k. k) (slice_get rows j)
kind_other rows i j k ne = ap (option_and_then (λ k. k)) (get-set_other rows i j k ne)

pub place_same : (rows : List (ByBytes Place)) (i : ℕ) (m : ByBytes Place) → i < length rows → (q : List ℕ) →
    option_and_then (λ m. get m q) (slice_get (set rows i m) i) ≡ get m q
place_same rows i m l q = ap (option_and_then (λ (m : ByBytes Place). get m q)) (get-set_same rows i m l)

pub place_other : (rows : List (ByBytes Place)) (i j : ℕ) (m : ByBytes Place) → j ≢ i →
    ◌≡◌ {A = List ℕ → Option Place} (λ q. option_and_then (λ m. get m q) (slice_get (set rows i m) j))
    (λ q. option_and_then (λ m. get m q) (slice_get rows j))
place_other rows i j m ne =
    let f : Option (ByBytes Place) → List ℕ → Option Place = λ o q. option_and_then (λ m. get m q) o in
    ap f (get-set_other rows i j m ne)

pub place_bare : (rows : List (ByBytes Place)) (i : ℕ) (m : ByBytes Place) → m ≡ empty → i < length rows → (q : List ℕ) →
    option_and_then (λ m. get m q) (slice_get (set rows i m) i) ≡ None
place_bare rows i m bare l q = place_same rows i m l q ∙ ap (λ (m : ByBytes Place). get m q) bare ∙ get-empty (slice_cmp nat_cmp) q

-- FREE INODES

pub taken_same : (m m' : List Bool) (i : ℕ) → m' ≡ set m i false → i < length m → is_free m' i ≡ false
taken_same m m' i is l = ap (λ m. is_free m i) is ∙ get_or-set_same m i false false l

pub taken_other : (m m' : List Bool) (i k : ℕ) (v : Bool) → m' ≡ set m i v → k ≢ i → is_free m' k ≡ is_free m k
taken_other m m' i k v is ne = ap (λ m. is_free m k) is ∙ get_or-set_other m i k v false ne

pub free_within : (m : List Bool) (i : ℕ) → is_free m i ≡ true → i < length m
free_within m i free = by (one m i)
  where
    by : (i < length m) ⊎ (length m ≤ i) → i < length m
    by (inl l) = l
    by (inr l) = absurd (let bad : false ≡ true = sym (get_or_past m i false l) ∙ free in cc)

    one : (m : List Bool) (i : ℕ) → (i < length m) ⊎ (length m ≤ i)
    one m i = cases_lt i (length m)

some_free : (m : List Bool) (b : ℕ) → is_free m b ≡ true → 1 ≤ free_count m
some_free [] b bad = absurd (let no : false ≡ true = bad in cc)
some_free (x ∷ m) zero is = let one : one_if x ≡ 1 = ap one_if is in omega (arith, one)
some_free (x ∷ m) (suc b) is = let rest = some_free m b is in omega (arith, rest)

-- where none is free, no block is
pub none-free : (m : List Bool) → free_count m ≡ 0 → (i : ℕ) → is_free m i ≡ false
none-free m none i = by (is_free m i) refl
  where
    by : (b : Bool) → is_free m i ≡ b → is_free m i ≡ false
    by false e = e
    by true e = let some = some_free m i e in absurd (omega (arith, some, none))
