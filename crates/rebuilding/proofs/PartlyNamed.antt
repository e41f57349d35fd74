-- What stands after some names were put: of each directory its first ones, and in staging what has no name yet.
use Rattle.std.proofs.Common.{◌≡◌, ◌≢◌, inl, inr, ◌<◌, ◌≤◌, ◌+◌, ◌^◌, ℕ, zero, suc, List, [], ◌∷◌, Bool, true, false, cond, Option, Some, None, length, take, slice_get, slice_set, count_by, refl, sym, ap, ◌∙◌, subst, arith}
use Rattle.std.specs.Prelude.{get_or, set, sum_by, nat_lt, if◌then◌else◌, not, ◌*◌, ◌&&◌, ◌==◌}
use Rattle.std.specs.Fmt.{decimal}
use Rattle.std.specs.List.{list_all}
use Rattle.std.proofs.lemmas.Bool.{and_parts, and_from}
use Rattle.std.proofs.lemmas.List.{length-set, get_or-set_same, get_or-set_other}
use Rattle.std.proofs.lemmas.List.Sums.{sum_by-set, sum_by-take-le}
use Rattle.std.proofs.lemmas.Option.{slice_get_within}
use Rattle.nfs2_types.specs.declared.Limits.{Limits}
use Rattle.server_trait.proofs.TreeLaws.{one_or_not}
use Rattle.abs_model.specs.declared.entry.NameRow.{NameRow}
use Rattle.abs_model.specs.declared.entry.Entry.{Entry}
use Rattle.abs_model.specs.Objects.{is_dir, is_null, names_of, bytes_of, used_by, row_of, placed, without}
use Rattle.abs_model.specs.Array.{entry_at, null_entry, links, used}
use Rattle.abs_model.specs.Valid.{Valid, is_rising}
use Rattle.abs_model.proofs.Facts.{length-placed}
use Rattle.abs_model.proofs.RowLists.{count-placed, row_of-without_other}
use Rattle.abs_model.proofs.Shapes.{links-set, used-set}
use Rattle.conf_map.proofs.ArrayFacts.{eq_is, eq_not, eq_of}
use Rattle.conf_map.proofs.Frames.{entry_at-some}
use Rattle.staging.specs.Begin.{row_in_staging}
use Rattle.staging.specs.Forms.{with_names}
use Rattle.staging.specs.Place.{put_in}
use Rattle.staging.specs.Put.{let_out}
use Rattle.staging.specs.Staged.{StandOnce}
use Rattle.staging.proofs.Decimals.{decimal_apart}
use Rattle.staging.proofs.Places.{not_eq}
use Rattle.rebuilding.specs.Name.{bit_at}
use Rattle.rebuilding.specs.Rebuild.{is_object}
use Rattle.rebuilding.proofs.OnceLists.{once_without, length_without}
use Rattle.rebuilding.proofs.Prefixes.{all_take, rising_take, placed_next, names_with, names_take, bytes_with, dir_with, again_with}
use Rattle.rebuilding.proofs.Sums.{one_of, sum_to, sum_to-list, sum_most, names_fit, used_split}
use Rattle.rebuilding.proofs.ValidNames.{all_from, rising_in, object_named, within_row, within_all, dir_below, row_led, row_below, row_dir}

-- of each directory so many names were put
pub record Partly (C : List Entry) (p : ℕ → ℕ) (A : List Entry) (bits : List Bool) (S : List NameRow) : Type 0 where
  pub size : length A ≡ length C
  pub each : (i : ℕ) → i < length C → entry_at A i ≡ with_names (take (p i) (names_of (entry_at C i))) (entry_at C i)
  pub bits_size : length bits ≡ length C
  pub bit : (i : ℕ) → i < length C → bit_at bits i ≡ (is_object C i && (links A i == 0))
  pub stands : (i : ℕ) → i < length C → bit_at bits i ≡ true → row_of (decimal i) S ≡ Some (row_in_staging i (entry_at C i))
  pub once : StandOnce S
  pub count : length S ≡ count_by (λ b. b) bits

-- the same numbers, told otherwise
pub as_many : (C : List Entry) (p q : ℕ → ℕ) (A : List Entry) (bits : List Bool) (S : List NameRow) → Partly C p A bits S → ((i : ℕ) → q i ≡ p i) → Partly C q A bits S
as_many C p q A bits S k same = record {
  size = k.size;
  each = λ i below. k.each i below ∙ ap (λ n. with_names (take n (names_of (entry_at C i))) (entry_at C i)) (sym (same i));
  bits_size = k.bits_size;
  bit = k.bit;
  stands = k.stands;
  once = k.once;
  count = k.count;
}

not_none : (n : ℕ) (b : Bool) → (b && (suc n == 0)) ≡ false
not_none n true = eq_not (suc n) 0 (λ e. absurd (omega (arith, e)))
not_none n false = refl

module _ (limits : Limits) (C : List Entry) (v : Valid limits C) (few : length C ≤ 4096) (p : ℕ → ℕ) (A : List Entry) (bits : List Bool) (S : List NameRow) (k : Partly C p A bits S) where
  pub names_now : (i : ℕ) → i < length C → names_of (entry_at A i) ≡ take (p i) (names_of (entry_at C i))
  names_now i below = ap names_of (k.each i below) ∙ names_take (entry_at C i) (p i)

  links_most : (i : ℕ) → links A i ≤ links C i
  links_most i = sum_most (λ (e : Entry). count_by (λ r. r.index == i) (names_of e)) null_entry A C k.size (λ d below.
      let same = ap (count_by (λ (r : NameRow). r.index == i)) (names_now d below) in
      let less = sum_by-take-le (λ (r : NameRow). cond (r.index == i) 1 0) (names_of (entry_at C d)) (p d) in
      omega (arith, same, less))

  -- what is staged lacks one of its names at least
  pub fits_one : (i : ℕ) → i < length C → links A i + one_of (bit_at bits i) ≤ links C i
  fits_one i below = by_bit (bit_at bits i) refl
    where
      by_bit : (b : Bool) → bit_at bits i ≡ b → links A i + one_of b ≤ links C i
      by_bit true is =
          let parts = and_parts (is_object C i) (links A i == 0) (sym (k.bit i below) ∙ is) in
          let none : links A i ≡ 0 = eq_of (links A i) 0 parts.1 in
          let some = object_named limits C v i parts.0 in
          omega (arith, none, some)
      by_bit false is = let most = links_most i in omega (arith, most)

  within_now : list_all (λ (e : Entry). list_all (λ (r : NameRow). nat_lt r.index (length C)) (names_of e)) A ≡ true
  within_now = all_from (λ (e : Entry). list_all (λ (r : NameRow). nat_lt r.index (length C)) (names_of e)) null_entry A (λ i low.
      let below : i < length C = (let s = k.size in omega (arith, low, s)) in
      ap (list_all (λ (r : NameRow). nat_lt r.index (length C))) (names_now i below)
      ∙ all_take (λ (r : NameRow). nat_lt r.index (length C)) (p i) (names_of (entry_at C i)) (within_row limits C v i below))

  -- array and staging use no more than the whole array does
  pub used_fits : used A + 512 * length S ≤ used C
  used_fits =
      let a = used_split A in
      let c = used_split C in
      let bytes = sum_most (λ (e : Entry). length (bytes_of e)) null_entry A C k.size (λ i below.
      let same = ap (λ (e : Entry). length (bytes_of e)) (k.each i below) ∙ ap length (bytes_with (entry_at C i) (take (p i) (names_of (entry_at C i)))) in omega (arith, same)) in
      let names = names_fit A C (bit_at bits) (length C) within_now (within_all limits C v) fits_one in
      let sum : sum_to (λ i. one_of (bit_at bits i)) (length bits) ≡ count_by (λ (b : Bool). b) bits = sum_to-list one_of false bits in
      let same : sum_to (λ i. one_of (bit_at bits i)) (length bits) ≡ sum_to (λ i. one_of (bit_at bits i)) (length C) = ap (sum_to (λ i. one_of (bit_at bits i))) k.bits_size in
      let count = k.count in
      omega (arith, a, c, bytes, names, sum, same, count)

  pub rising_now : (i : ℕ) (e : Entry) → slice_get A i ≡ Some e → is_rising (names_of e) ≡ true
  rising_now i e at =
      let low = slice_get_within A i e at in
      let below : i < length C = (let s = k.size in omega (arith, low, s)) in
      ap (λ (e : Entry). is_rising (names_of e)) (sym (entry_at-some A i e at)) ∙ ap is_rising (names_now i below)
      ∙ rising_take (p i) (names_of (entry_at C i)) (rising_in limits C v i below)

  -- THE NEXT NAME

  module _ (d : ℕ) (row : NameRow) (at : slice_get (names_of (entry_at C d)) (p d) ≡ Some row) where
    abbrev A' : List Entry
    A' = put_in A d row

    abbrev bits' : List Bool
    bits' = slice_set bits row.index false

    abbrev S' : List NameRow
    S' = let_out S (bit_at bits row.index) row

    abbrev named_entry : Entry
    named_entry = with_names (placed row (names_of (entry_at A d))) (entry_at A d)

    d_low : d < length C
    d_low = dir_below limits C v d (p d) row at

    m_low : row.index < length C
    m_low = row_below limits C v d (p d) row at

    m_bits : row.index < length bits
    m_bits = let a = m_low in let b = k.bits_size in omega (arith, a, b)

    a_low : d < length A
    a_low = let a = d_low in let b = k.size in omega (arith, a, b)

    pub dir_now : is_dir (entry_at A d) ≡ true
    dir_now = ap is_dir (k.each d d_low) ∙ dir_with (entry_at C d) (take (p d) (names_of (entry_at C d))) ∙ row_dir limits C v d (p d) row at

    names_then : names_of named_entry ≡ placed row (names_of (entry_at A d))
    names_then = names_with (entry_at A d) (placed row (names_of (entry_at A d))) dir_now

    pub links_then : (j : ℕ) → links A' j ≡ links A j + cond (row.index == j) 1 0
    links_then j =
        let s = links-set A d j named_entry a_low in
        let c = ap (count_by (λ (r : NameRow). r.index == j)) names_then ∙ count-placed (λ (r : NameRow). r.index == j) row (names_of (entry_at A d)) in
        omega (arith, s, c)

    links_here : links A' row.index ≡ suc (links A row.index)
    links_here =
        let l = links_then row.index in
        let one : cond (row.index == row.index) 1 0 ≡ suc zero = ap (λ b. cond b 1 0) (eq_is row.index row.index refl) in
        omega (arith, l, one)

    links_there : (j : ℕ) → j ≢ row.index → links A' j ≡ links A j
    links_there j ne =
        let l = links_then j in
        let none : cond (row.index == j) 1 0 ≡ zero = ap (λ b. cond b 1 0) (eq_not row.index j (λ e. ne (sym e))) in
        omega (arith, l, none)

    pub used_then : used A' ≡ used A + 512
    used_then =
        let u = used-set A d named_entry a_low in
        let b = ap length (bytes_with (entry_at A d) (placed row (names_of (entry_at A d)))) in
        let n = ap length names_then ∙ length-placed row (names_of (entry_at A d)) in
        omega (arith, u, b, n)

    each_then : (q : ℕ → ℕ) → q d ≡ suc (p d) → ((i : ℕ) → i ≢ d → q i ≡ p i) → (i : ℕ) → i < length C →
        entry_at A' i ≡ with_names (take (q i) (names_of (entry_at C i))) (entry_at C i)
    each_then q more others i below = elim (one_or_not i d) as (λ _. entry_at A' i ≡ with_names (take (q i) (names_of (entry_at C i))) (entry_at C i)) [
      | inl e ↦ subst (λ i. entry_at A' i ≡ with_names (take (q i) (names_of (entry_at C i))) (entry_at C i)) (sym e)
          (get_or-set_same A d named_entry null_entry a_low
          ∙ ap (λ ns. with_names ns (entry_at A d)) (ap (placed row) (names_now d d_low) ∙ placed_next (names_of (entry_at C d)) (p d) row (rising_in limits C v d d_low) at)
          ∙ ap (with_names (take (suc (p d)) (names_of (entry_at C d)))) (k.each d d_low)
          ∙ again_with (entry_at C d) (take (suc (p d)) (names_of (entry_at C d))) (take (p d) (names_of (entry_at C d)))
          ∙ ap (λ n. with_names (take n (names_of (entry_at C d))) (entry_at C d)) (sym more))
      | inr ne ↦ get_or-set_other A d i named_entry null_entry ne ∙ k.each i below
          ∙ ap (λ n. with_names (take n (names_of (entry_at C i))) (entry_at C i)) (sym (others i ne))
    ]

    bit_then : (i : ℕ) → i < length C → bit_at bits' i ≡ (is_object C i && (links A' i == 0))
    bit_then i below = elim (one_or_not i row.index) as (λ _. bit_at bits' i ≡ (is_object C i && (links A' i == 0))) [
      | inl e ↦ subst (λ i. bit_at bits' i ≡ (is_object C i && (links A' i == 0))) (sym e)
          (get_or-set_same bits row.index false false m_bits
          ∙ sym (ap (λ n. is_object C row.index && (n == 0)) links_here ∙ not_none (links A row.index) (is_object C row.index)))
      | inr ne ↦ get_or-set_other bits row.index i false false ne ∙ k.bit i below
          ∙ ap (λ n. is_object C i && (n == 0)) (sym (links_there i ne))
    ]

    stands_then : (i : ℕ) → i < length C → bit_at bits' i ≡ true → row_of (decimal i) S' ≡ Some (row_in_staging i (entry_at C i))
    stands_then i below is = elim (one_or_not i row.index) as (λ _. row_of (decimal i) S' ≡ Some (row_in_staging i (entry_at C i))) [
      | inl e ↦ absurd (let bad : true ≡ false = sym is ∙ ap (bit_at bits') e ∙ get_or-set_same bits row.index false false m_bits in cc)
      | inr ne ↦ out (bit_at bits row.index) ne (k.stands i below (sym (get_or-set_other bits row.index i false false ne) ∙ is))
    ]
      where
        out : (b : Bool) → i ≢ row.index → row_of (decimal i) S ≡ Some (row_in_staging i (entry_at C i)) → row_of (decimal i) (let_out S b row) ≡ Some (row_in_staging i (entry_at C i))
        out true ne was = row_of-without_other (decimal i) (decimal row.index) S (row_in_staging i (entry_at C i))
            (not_eq (decimal i) (decimal row.index) (λ e. ne (decimal_apart i row.index (omega (arith, below, few)) (let m = m_low in omega (arith, m, few)) e))) was
        out false ne was = was

    once_then : (b : Bool) → StandOnce (let_out S b row)
    once_then true = once_without (decimal row.index) S k.once
    once_then false = k.once

    count_then : length S' ≡ count_by (λ b. b) bits'
    count_then = by_bit (bit_at bits row.index) refl
      where
        by_bit : (b : Bool) → bit_at bits row.index ≡ b → length (let_out S b row) ≡ count_by (λ b. b) bits'
        by_bit true is =
            let l = length_without (decimal row.index) S (row_in_staging row.index (entry_at C row.index)) k.once (k.stands row.index m_low is) in
            let s = sum_by-set (λ (b : Bool). cond b 1 0) bits row.index false false m_bits in
            let one : cond (bit_at bits row.index) 1 0 ≡ suc zero = ap (λ b. cond b 1 0) is in
            let c = k.count in
            omega (arith, l, s, one, c)
        by_bit false is =
            let s = sum_by-set (λ (b : Bool). cond b 1 0) bits row.index false false m_bits in
            let none : cond (bit_at bits row.index) 1 0 ≡ zero = ap (λ b. cond b 1 0) is in
            let c = k.count in
            omega (arith, s, none, c)

    -- with one more name the same holds
    pub one_more : (q : ℕ → ℕ) → q d ≡ suc (p d) → ((i : ℕ) → i ≢ d → q i ≡ p i) → Partly C q A' bits' S'
    one_more q more others = record {
      size = length-set A d named_entry ∙ k.size;
      each = each_then q more others;
      bits_size = length-set bits row.index false ∙ k.bits_size;
      bit = bit_then;
      stands = stands_then;
      once = once_then (bit_at bits row.index);
      count = count_then;
    }
