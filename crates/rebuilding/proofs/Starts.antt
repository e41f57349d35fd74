-- What stands before the names are put, by index: objects that are made, then those that have their attributes.
use Rattle.std.proofs.Common.{◌≡◌, ◌≢◌, ◌⊎◌, inl, inr, ◌<◌, ◌≤◌, ◌+◌, ◌-◌, ◌^◌, ℕ, zero, suc, List, [], ◌∷◌, Bool, true, false, cond, Option, Some, None, IsSomeAnd, length, replicate, slice_get, count_by, refl, sym, ap, ◌∙◌, subst, arith}
use Rattle.std.specs.Prelude.{get_or, set, sum_by, nat_lt, if◌then◌else◌, not, ◌*◌, ◌&&◌, ◌==◌}
use Rattle.std.specs.Fmt.{decimal}
use Rattle.std.proofs.lemmas.Bool.{and_parts, and_from, cases_lt}
use Rattle.std.proofs.lemmas.List.{length-set, length-replicate, get_or-replicate, get_or-set_same, get_or-set_other, get_or_past}
use Rattle.std.proofs.lemmas.List.Sums.{sum_by-cons, count_by-le-length}
use Rattle.std.proofs.lemmas.Option.{slice_get_within}
use Rattle.nfs2_types.specs.declared.Limits.{Limits}
use Rattle.server_trait.specs.declared.server.ServerLimits.{ServerLimits}
use Rattle.server_trait.proofs.TreeLaws.{one_or_not}
use Rattle.abs_model.specs.declared.entry.Attr.{Attr}
use Rattle.abs_model.specs.declared.entry.NameRow.{NameRow}
use Rattle.abs_model.specs.declared.entry.Object.{Object}
use Rattle.abs_model.specs.declared.entry.Object.TheVariants.{Null, File, Dir, Link}
use Rattle.abs_model.specs.declared.entry.Entry.{Entry}
use Rattle.abs_model.specs.Objects.{is_dir, is_null, names_of, bytes_of, used_by, row_of}
use Rattle.abs_model.specs.Array.{empty_array, empty_root, entry_at, null_entry, links, used}
use Rattle.abs_model.specs.Valid.{Valid, is_rising, most_bytes}
use Rattle.abs_model.proofs.Shapes.{used-set}
use Rattle.conf_map.specs.Stands.{HasRoom}
use Rattle.conf_map.proofs.ArrayFacts.{eq_is, eq_not, fits_at, within_at, not_of}
use Rattle.conf_map.proofs.Frames.{entry_at-some}
use Rattle.conf_map.proofs.Tallies.{used_fresh}
use Rattle.staging.specs.Begin.{begun_bytes, row_in_staging}
use Rattle.staging.specs.Dress.{dressed, dressed_at}
use Rattle.staging.specs.Fill.{file_bytes, filled_at}
use Rattle.staging.specs.Forms.{whole, with_names}
use Rattle.staging.specs.Staged.{StandOnce}
use Rattle.rebuilding.specs.Fill.{dressed_if, dressed_to, live_attr}
use Rattle.rebuilding.specs.Make.{FirstAlone, HasRoomBeside, made_at, made_to, staged_at, staged_to, stays_at}
use Rattle.rebuilding.specs.Name.{bit_at}
use Rattle.rebuilding.specs.Rebuild.{is_object}
use Rattle.rebuilding.proofs.Makings.{MadeTo, StagedTo, as_made, made_so_far, staged_so_far}
use Rattle.rebuilding.proofs.PartlyNamed.{Partly}
use Rattle.rebuilding.proofs.Prefixes.{names_take}
use Rattle.rebuilding.proofs.Sums.{all_names, names_fit, one_of, sum_to, sum_to-list, sum_to-most, sum_to-same, sum_to-zero, used_split}
use Rattle.rebuilding.proofs.ValidNames.{object_named, within_all}

-- SUMS

pub sum_to-grows : (f : ℕ → ℕ) (k n : ℕ) → k ≤ n → sum_to f k ≤ sum_to f n
sum_to-grows f k zero below = let none : k ≡ 0 = omega (arith, below) in subst (λ k. sum_to f k ≤ 0) (sym none) (omega arith)
sum_to-grows f k (suc n) below = elim (one_or_not k (suc n)) as (λ _. sum_to f k ≤ sum_to f (suc n)) [
  | inl e ↦ subst (λ k. sum_to f k ≤ sum_to f (suc n)) (sym e) (omega arith)
  | inr ne ↦ let rest = sum_to-grows f k n (omega (arith, below, ne)) in omega (arith, rest)
]

-- THE EMPTY ARRAY

null_or_past : (m j : ℕ) → get_or (replicate m null_entry) j null_entry ≡ null_entry
null_or_past m j = elim (cases_lt j m) as (λ _. get_or (replicate m null_entry) j null_entry ≡ null_entry) [
  | inl low ↦ get_or-replicate m j null_entry null_entry low
  | inr past ↦ get_or_past (replicate m null_entry) j null_entry (let l = length-replicate {A = Entry} m null_entry in omega (arith, l, past))
]

empty_else : (n i : ℕ) → i ≢ 0 → entry_at (empty_array n) i ≡ null_entry
empty_else n zero ne = absurd (ne refl)
empty_else n (suc j) ne = null_or_past (n - 1) j

pub empty_size : (n : ℕ) → 1 ≤ n → length (empty_array n) ≡ n
empty_size n some = let l = length-replicate {A = Entry} (n - 1) null_entry in omega (arith, l, some)

pub empty_rising : (n i : ℕ) (e : Entry) → slice_get (empty_array n) i ≡ Some e → is_rising (names_of e) ≡ true
empty_rising n i e at = ap (λ (e : Entry). is_rising (names_of e)) (sym (entry_at-some (empty_array n) i e at)) ∙ by_index i
  where
    by_index : (i : ℕ) → is_rising (names_of (entry_at (empty_array n) i)) ≡ true
    by_index zero = refl
    by_index (suc j) = ap (λ (e : Entry). is_rising (names_of e)) (null_or_past (n - 1) j)

-- OBJECTS

whole_used : (e : Entry) → used_by (whole e) ≡ length (bytes_of e)
whole_used e = by_object e.object
  where
    by_object : (o : Object) → used_by (whole (record { generation = e.generation; object = o })) ≡ length (bytes_of (record { generation = e.generation; object = o }))
    by_object Null = refl
    by_object (File a b) = omega arith
    by_object (Dir a b) = refl
    by_object (Link a b) = omega arith

pub begun_short : (e : Entry) → length (bytes_of e) ≤ most_bytes e → begun_bytes e ≤ 1024
begun_short e fits = by_object e.object fits
  where
    by_object : (o : Object) → length (bytes_of (record { generation = e.generation; object = o })) ≤ most_bytes (record { generation = e.generation; object = o }) →
        begun_bytes (record { generation = e.generation; object = o }) ≤ 1024
    by_object Null fits = omega arith
    by_object (File a b) fits = omega arith
    by_object (Dir a b) fits = omega arith
    by_object (Link a b) fits = omega (arith, fits)

pub file_small : (e : Entry) → length (bytes_of e) ≤ most_bytes e → length (file_bytes e) ≤ 1048576
file_small e fits = by_object e.object fits
  where
    by_object : (o : Object) → length (bytes_of (record { generation = e.generation; object = o })) ≤ most_bytes (record { generation = e.generation; object = o }) →
        length (file_bytes (record { generation = e.generation; object = o })) ≤ 1048576
    by_object Null fits = omega arith
    by_object (File a b) fits = omega (arith, fits)
    by_object (Dir a b) fits = omega arith
    by_object (Link a b) fits = omega arith

whole_live : (e : Entry) (attr : Attr) → live_attr e ≡ Some attr → is_null (whole e) ≡ false
whole_live e attr is = by_object e.object is
  where
    by_object : (o : Object) → live_attr (record { generation = e.generation; object = o }) ≡ Some attr → is_null (whole (record { generation = e.generation; object = o })) ≡ false
    by_object Null is = absurd (let bad : None ≡ Some attr = is in cc)
    by_object (File a b) is = refl
    by_object (Dir a b) is = refl
    by_object (Link a b) is = refl

-- an entry that stands there, with these attributes if there are any
abbrev pub dressed_with : Option Attr → ℕ → Entry → Entry
dressed_with None g old = old
dressed_with (Some a) g old = dressed g a old

whole_dressed : (e : Entry) → dressed_with (live_attr e) e.generation (whole e) ≡ with_names [] e
whole_dressed e = by_object e.object
  where
    by_object : (o : Object) → dressed_with (live_attr (record { generation = e.generation; object = o })) e.generation (whole (record { generation = e.generation; object = o }))
        ≡ with_names [] (record { generation = e.generation; object = o })
    by_object Null = refl
    by_object (File a b) = refl
    by_object (Dir a b) = refl
    by_object (Link a b) = refl

root_dressed : (e : Entry) → is_dir e ≡ true → dressed_with (live_attr e) e.generation empty_root ≡ with_names [] e
root_dressed e dir = by_object e.object dir
  where
    by_object : (o : Object) → is_dir (record { generation = e.generation; object = o }) ≡ true → dressed_with (live_attr (record { generation = e.generation; object = o })) e.generation empty_root
        ≡ with_names [] (record { generation = e.generation; object = o })
    by_object Null d = absurd (let bad : false ≡ true = d in cc)
    by_object (File a b) d = absurd (let bad : false ≡ true = d in cc)
    by_object (Dir a b) d = refl
    by_object (Link a b) d = absurd (let bad : false ≡ true = d in cc)

-- ATTRIBUTES

pub record DressedTo (A after : List Entry) (k : ℕ) (A' : List Entry) : Type 0 where
  pub size : length A' ≡ length A
  pub first : (i : ℕ) → i < k → i < length A → entry_at A' i ≡ dressed_with (live_attr (entry_at after i)) (entry_at after i).generation (entry_at A i)
  pub rest : (i : ℕ) → k ≤ i → entry_at A' i ≡ entry_at A i

module _ (A after : List Entry) where
  dressed_more : (k : ℕ) → k < length A → (A' : List Entry) → DressedTo A after k A' → (o : Option Attr) → live_attr (entry_at after k) ≡ o →
      DressedTo A after (suc k) (dressed_if A' k (entry_at after k).generation o)
  dressed_more k low A' d None is = record {
    size = d.size;
    first = λ i below within. elim (one_or_not i k) as (λ _. entry_at A' i ≡ dressed_with (live_attr (entry_at after i)) (entry_at after i).generation (entry_at A i)) [
      | inl e ↦ subst (λ i. entry_at A' i ≡ dressed_with (live_attr (entry_at after i)) (entry_at after i).generation (entry_at A i)) (sym e)
          (d.rest k (omega arith) ∙ ap (λ o. dressed_with o (entry_at after k).generation (entry_at A k)) (sym is))
      | inr ne ↦ d.first i (omega (arith, below, ne)) within
    ];
    rest = λ i high. d.rest i (omega (arith, high));
  }
  dressed_more k low A' d (Some a) is =
      let new : Entry = dressed (entry_at after k).generation a (entry_at A' k) in
      let low' : k < length A' = (let s = d.size in omega (arith, s, low)) in
      record {
        size = length-set A' k (dressed (entry_at after k).generation a (entry_at A' k)) ∙ d.size;
        first = λ i below within. elim (one_or_not i k) as (λ _. entry_at (dressed_at A' k (entry_at after k).generation a) i ≡ dressed_with (live_attr (entry_at after i)) (entry_at after i).generation (entry_at A i)) [
          | inl e ↦ subst (λ i. entry_at (dressed_at A' k (entry_at after k).generation a) i ≡ dressed_with (live_attr (entry_at after i)) (entry_at after i).generation (entry_at A i)) (sym e)
              (get_or-set_same A' k (dressed (entry_at after k).generation a (entry_at A' k)) null_entry low'
              ∙ ap (dressed (entry_at after k).generation a) (d.rest k (omega arith))
              ∙ ap (λ o. dressed_with o (entry_at after k).generation (entry_at A k)) (sym is))
          | inr ne ↦ get_or-set_other A' k i (dressed (entry_at after k).generation a (entry_at A' k)) null_entry ne ∙ d.first i (omega (arith, below, ne)) within
        ];
        rest = λ i high. get_or-set_other A' k i (dressed (entry_at after k).generation a (entry_at A' k)) null_entry (λ e. absurd (omega (arith, high, e))) ∙ d.rest i (omega (arith, high));
      }

  pub dressed_so_far : (k : ℕ) → k ≤ length A → DressedTo A after k (dressed_to A after k)
  dressed_so_far zero below = record { size = refl; first = λ i low _. absurd (omega (arith, low)); rest = λ i _. refl }
  dressed_so_far (suc k) below = dressed_more k (omega (arith, below)) (dressed_to A after k) (dressed_so_far k (omega (arith, below))) (live_attr (entry_at after k)) refl

-- A VALID ARRAY

module _ (limits : Limits) (C : List Entry) (v : Valid limits C) (some : 1 ≤ limits.n) (few : length C ≤ 4096) (most : ServerLimits) (room : HasRoom limits most) (stays : List Bool) (s : FirstAlone (length C) stays) where
  abbrev A0 : List Entry
  A0 = empty_array limits.n

  abbrev A_to : ℕ → List Entry
  A_to k = made_to A0 C stays k

  abbrev S_to : ℕ → List NameRow
  S_to k = staged_to [] C stays k

  abbrev bytes_at : ℕ → ℕ
  bytes_at i = length (bytes_of (entry_at C i))

  abbrev object_at : ℕ → ℕ
  object_at i = one_of (is_object C i)

  pub size0 : length A0 ≡ length C
  size0 = empty_size limits.n some ∙ sym v.size

  pub null0 : (i : ℕ) → stays_at stays i ≡ false → is_null (entry_at A0 i) ≡ true
  null0 i goes = elim (one_or_not i 0) as (λ _. is_null (entry_at A0 i) ≡ true) [
    | inl e ↦ absurd (let bad : true ≡ false = sym s.first ∙ ap (stays_at stays) (sym e) ∙ goes in cc)
    | inr ne ↦ ap is_null (empty_else limits.n i ne)
  ]

  pub fits_here : (i : ℕ) → i < length C → length (bytes_of (entry_at C i)) ≤ most_bytes (entry_at C i)
  fits_here i below = (fits_at limits C v i (entry_at C i) (within_at C i below)).bytes

  made_here : (k : ℕ) → k ≤ length C → MadeTo A0 C stays k (A_to k)
  made_here k below = made_so_far A0 C stays k (let a = size0 in omega (arith, a, below))

  used_one : (k : ℕ) → k < length C → used (A_to k) ≤ sum_to bytes_at k → (b : Bool) → used (made_at (A_to k) k b (entry_at C k)) ≤ sum_to bytes_at (suc k)
  used_one k below rest true = omega (arith, rest)
  used_one k below rest false =
      let m = (made_here k (omega (arith, below))).size in
      let a = size0 in
      let u = used-set (A_to k) k (whole (entry_at C k)) (omega (arith, m, a, below)) in
      let w = whole_used (entry_at C k) in
      omega (arith, rest, u, w)

  used_made : (k : ℕ) → k ≤ length C → used (A_to k) ≤ sum_to bytes_at k
  used_made zero below = let none = used_fresh limits.n in omega (arith, none)
  used_made (suc k) below = used_one k (omega (arith, below)) (used_made k (omega (arith, below))) (stays_at stays k)

  no_root : is_object C 0 ≡ false
  no_root = refl

  object_of : (i : ℕ) → i ≢ 0 → is_object C i ≡ not (is_null (entry_at C i))
  object_of i ne = ap (λ b. not b && not (is_null (entry_at C i))) (eq_not i 0 ne)

  one_name : (k : ℕ) → (z : Bool) → length (S_to (suc k)) ≡ length (if z then S_to k else row_in_staging k (entry_at C k) ∷ S_to k) → object_at k ≡ one_of (not z) →
      length (S_to k) ≡ sum_to object_at k → length (S_to (suc k)) ≡ sum_to object_at (suc k)
  one_name k true here object rest = omega (arith, here, object, rest)
  one_name k false here object rest = omega (arith, here, object, rest)

  names_made : (k : ℕ) → k ≤ length C → length (S_to k) ≡ sum_to object_at k
  names_made zero below = refl
  names_made (suc k) below =
      let rest = names_made k (omega (arith, below)) in
      elim (one_or_not k 0) as (λ _. length (S_to (suc k)) ≡ sum_to object_at (suc k)) [
        | inl e ↦
            let here : length (S_to (suc k)) ≡ length (S_to k) = ap (λ b. length (staged_at (S_to k) k b (entry_at C k))) (ap (stays_at stays) e ∙ s.first) in
            let none : object_at k ≡ zero = ap object_at e in
            omega (arith, here, none, rest)
        | inr ne ↦ one_name k (is_null (entry_at C k)) (ap (λ b. length (staged_at (S_to k) k b (entry_at C k))) (s.others k ne (omega (arith, below)))) (ap one_of (object_of k ne)) rest
      ]

  -- bytes and names of objects that are made, each with one name, are no more than the array uses
  all_fit : sum_to bytes_at (length C) + 512 * sum_to object_at (length C) ≤ used C
  all_fit =
      let u = used_split C in
      let b = sum_to-list (λ (e : Entry). length (bytes_of e)) null_entry C in
      let n = names_fit [] C (is_object C) (length C) refl (within_all limits C v) (λ i below. has_one i (is_object C i) refl) in
      omega (arith, u, b, n)
    where
      has_one : (i : ℕ) (b : Bool) → is_object C i ≡ b → 0 + one_of b ≤ links C i
      has_one i true is = let some = object_named limits C v i is in omega (arith, some)
      has_one i false is = omega arith

  pub room_here : (i : ℕ) → i < length C → stays_at stays i ≡ false → is_null (entry_at C i) ≡ false →
      HasRoomBeside most (A_to i) (S_to i) (length (bytes_of (entry_at C i)))
  room_here i below goes live =
      let m = (made_here i (omega (arith, below))).size in
      let a = size0 in
      let count = count_by-le-length (λ (e : Entry). not (is_null e)) (A_to i) in
      let n = v.size in
      let r = room.nodes in
      let rb = room.bytes in
      let t = v.room in
      let u = used_made i (omega (arith, below)) in
      let l = names_made i (omega (arith, below)) in
      let fit = all_fit in
      let bytes = sum_to-grows bytes_at (suc i) (length C) (omega (arith, below)) in
      let objects = sum_to-grows object_at (suc i) (length C) (omega (arith, below)) in
      let one : object_at i ≡ suc zero = ap one_of (object_of i not_first ∙ ap not live) in
      (omega (arith, m, a, count, n, r), omega (arith, rb, t, u, l, fit, bytes, objects, one))
    where
      not_first : i ≢ 0
      not_first e = absurd (let bad : true ≡ false = sym s.first ∙ ap (stays_at stays) (sym e) ∙ goes in cc)

  -- AFTER IT

  abbrev A1 : List Entry
  A1 = A_to (length C)

  abbrev S1 : List NameRow
  S1 = S_to (length C)

  abbrev A2 : List Entry
  A2 = dressed_to A1 C (length C)

  size1 : length A1 ≡ length C
  size1 = (made_here (length C) (omega arith)).size ∙ size0

  root_made : 0 < length C → entry_at A1 0 ≡ empty_root
  root_made low =
      let at = (made_here (length C) (omega arith)).first 0 low (let a = size0 in omega (arith, a, low)) in
      entry_at-some A1 0 (as_made A0 C stays 0) at ∙ ap (λ b. if b then entry_at A0 0 else whole (entry_at C 0)) s.first

  other_made : (i : ℕ) → i ≢ 0 → i < length C → entry_at A1 i ≡ whole (entry_at C i)
  other_made i ne low =
      let at = (made_here (length C) (omega arith)).first i low (let a = size0 in omega (arith, a, low)) in
      entry_at-some A1 i (as_made A0 C stays i) at ∙ ap (λ b. if b then entry_at A0 i else whole (entry_at C i)) (s.others i ne low)

  pub live_then : (i : ℕ) → i < length C → (attr : Attr) → live_attr (entry_at C i) ≡ Some attr → is_null (entry_at (dressed_to A1 C i) i) ≡ false
  live_then i low attr is =
      let same = (dressed_so_far A1 C i (let a = size1 in omega (arith, a, low))).rest i (omega arith) in
      ap is_null same ∙ elim (one_or_not i 0) as (λ _. is_null (entry_at A1 i) ≡ false) [
        | inl e ↦ ap (λ i. is_null (entry_at A1 i)) e ∙ ap is_null (root_made (omega (arith, low)))
        | inr ne ↦ ap is_null (other_made i ne low) ∙ whole_live (entry_at C i) attr is
      ]

  bare : (i : ℕ) → i < length C → entry_at A2 i ≡ with_names [] (entry_at C i)
  bare i low =
      let d = (dressed_so_far A1 C (length C) (let a = size1 in omega (arith, a))).first i low (let a = size1 in omega (arith, a, low)) in
      d ∙ elim (one_or_not i 0) as (λ _. dressed_with (live_attr (entry_at C i)) (entry_at C i).generation (entry_at A1 i) ≡ with_names [] (entry_at C i)) [
        | inl e ↦ subst (λ i. dressed_with (live_attr (entry_at C i)) (entry_at C i).generation (entry_at A1 i) ≡ with_names [] (entry_at C i)) (sym e)
            (ap (dressed_with (live_attr (entry_at C 0)) (entry_at C 0).generation) (root_made (omega (arith, low))) ∙ root_dressed (entry_at C 0) v.root)
        | inr ne ↦ ap (dressed_with (live_attr (entry_at C i)) (entry_at C i).generation) (other_made i ne low) ∙ whole_dressed (entry_at C i)
      ]

  size2 : length A2 ≡ length C
  size2 = (dressed_so_far A1 C (length C) (let a = size1 in omega (arith, a))).size ∙ size1

  no_links : (i : ℕ) → links A2 i ≡ 0
  no_links i =
      sym (sum_to-list (λ (e : Entry). count_by (λ (r : NameRow). r.index == i) (names_of e)) null_entry A2)
      ∙ sum_to-same (λ d. count_by (λ (r : NameRow). r.index == i) (names_of (entry_at A2 d))) (λ d. 0) (length A2)
      (λ d low. ap (λ (e : Entry). count_by (λ (r : NameRow). r.index == i) (names_of e)) (bare d (let a = size2 in omega (arith, a, low)))
      ∙ ap (count_by (λ (r : NameRow). r.index == i)) (names_take (entry_at C d) 0))
      ∙ sum_to-zero (length A2)

  -- no name is put yet
  pub none_put : (bits : List Bool) → length bits ≡ length C → ((i : ℕ) → i < length C → bit_at bits i ≡ is_object C i) → Partly C (λ _. 0) A2 bits S1
  none_put bits size is = record {
    size = size2;
    each = bare;
    bits_size = size;
    bit = λ i low. is i low ∙ sym (ap (λ n. is_object C i && (n == 0)) (no_links i) ∙ and_true (is_object C i));
    stands = λ i low on.
        let parts = and_parts (not (i == 0)) (not (is_null (entry_at C i))) (sym (is i low) ∙ on) in
        let ne : i ≢ 0 = λ e. absurd (let bad : true ≡ false = sym (eq_is i 0 e) ∙ not_of (i == 0) parts.0 in cc) in
        st.here i low (s.others i ne low) (not_of (is_null (entry_at C i)) parts.1);
    once = st.once;
    count =
        let n = names_made (length C) (omega arith) in
        let sum : sum_to (λ i. one_of (bit_at bits i)) (length bits) ≡ count_by (λ (b : Bool). b) bits = sum_to-list one_of false bits in
        let same = sum_to-same (λ i. one_of (bit_at bits i)) object_at (length bits) (λ i low. ap one_of (is i (omega (arith, size, low)))) in
        let sizes : sum_to object_at (length bits) ≡ sum_to object_at (length C) = ap (sum_to object_at) size in
        n ∙ sym sizes ∙ sym same ∙ sum;
  }
    where
      and_true : (b : Bool) → (b && true) ≡ b
      and_true true = refl
      and_true false = refl

      few32 : length C < 2 ^ 32
      few32 = omega (arith, few)

      st : StagedTo [] C stays (length C) S1
      st = staged_so_far [] C stays (length C) few32 (λ i low goes. refl) (record { found = λ i r at. absurd (let bad : None ≡ Some r = at in cc); once = λ i j a b at _ _. absurd (let bad : None ≡ Some a = at in cc) }) (length C) (omega arith)
