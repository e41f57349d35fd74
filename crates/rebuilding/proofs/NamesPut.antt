-- Each name of a valid array can be put when its turn comes, and after the last the array stands and nothing is staged.
use Rattle.std.proofs.Common.{◌≡◌, ◌≢◌, ◌⊎◌, inl, inr, ◌<◌, ◌≤◌, ◌+◌, ℕ, zero, suc, List, [], Bool, true, false, cond, Some, None, length, take, slice_get, slice_set, count_by, refl, sym, ap, ◌∙◌, subst, arith}
use Rattle.std.specs.Prelude.{get_or, nat_lt, if◌then◌else◌, not, ◌*◌, ◌&&◌, ◌==◌}
use Rattle.std.specs.Fmt.{decimal}
use Rattle.std.specs.List.{list_any}
use Rattle.std.proofs.lemmas.Bool.{and_from, cases_lt, lt-ltb}
use Rattle.std.proofs.lemmas.Bool.Decides.{nat_tests}
use Rattle.std.proofs.lemmas.List.{ext_get_or, take_all, nil_from_length, get_or_past}
use Rattle.std.proofs.lemmas.List.Sums.{count_by-le-length}
use Rattle.std.proofs.lemmas.Option.{slice_get_within, slice_get-get_or}
use Rattle.nfs2_types.specs.declared.Limits.{Limits}
use Rattle.nfs2_types.specs.Names.{is_name}
use Rattle.server_trait.specs.declared.server.ServerLimits.{ServerLimits}
use Rattle.server_trait.proofs.TreeLaws.{one_or_not}
use Rattle.abs_model.specs.declared.entry.NameRow.{NameRow}
use Rattle.abs_model.specs.declared.entry.Entry.{Entry}
use Rattle.abs_model.specs.Objects.{is_dir, is_null, names_of, row_of}
use Rattle.abs_model.specs.Array.{entry_at, null_entry, has_row_to, links, used}
use Rattle.abs_model.specs.Valid.{Valid}
use Rattle.conf_map.specs.Stands.{HasRoom}
use Rattle.conf_map.proofs.ArrayFacts.{eq_is, eq_not, fits_at, within_at}
use Rattle.conf_map.proofs.RowFacts.{all_at, row_of-at}
use Rattle.staging.specs.Begin.{row_in_staging}
use Rattle.staging.specs.Forms.{with_names}
use Rattle.staging.specs.Place.{AreAmong, put_in}
use Rattle.staging.specs.Put.{CanPut, IsLinkable, let_out}
use Rattle.rebuilding.specs.Name.{CanPutEach, LeadWithin, all_bits_to, all_out_to, bit_at, bits_to, named_to, out_to, put_to, row_at}
use Rattle.rebuilding.specs.Rebuild.{is_object}
use Rattle.rebuilding.proofs.PartlyNamed.{Partly, as_many, names_now, fits_one, used_fits, rising_now, dir_now, links_then, used_then, one_more}
use Rattle.rebuilding.proofs.Prefixes.{any_take, lacks_next, dir_with, null_with, own_names}
use Rattle.rebuilding.proofs.Sums.{one_of, sum_to, sum_to-list, sum_to-same, sum_to-zero}
use Rattle.rebuilding.proofs.ValidNames.{rising_in, object_named, dir_below, row_led, row_below, row_dir}

-- HOW MANY NAMES

-- of one directory so many were put, of the others as before
abbrev pub but_at : (ℕ → ℕ) → ℕ → ℕ → ℕ → ℕ
but_at p d n i = if i == d then n else p i

but_here : (p : ℕ → ℕ) (d n : ℕ) → but_at p d n d ≡ n
but_here p d n = ap (λ b. if b then n else p d) (eq_is d d refl)

but_there : (p : ℕ → ℕ) (d n i : ℕ) → i ≢ d → but_at p d n i ≡ p i
but_there p d n i ne = ap (λ b. if b then n else p i) (eq_not i d ne)

-- of the first directories all were put
abbrev pub all_below : List Entry → ℕ → ℕ → ℕ
all_below C d i = if nat_lt i d then length (names_of (entry_at C i)) else 0

none_below : (i : ℕ) → nat_lt i 0 ≡ false
none_below i = grind (arith, nat_tests)

not_itself : (d : ℕ) → nat_lt d d ≡ false
not_itself d = grind (arith, nat_tests)

all_more : (C : List Entry) (d i : ℕ) → all_below C (suc d) i ≡ but_at (all_below C d) d (length (names_of (entry_at C d))) i
all_more C d i = elim (one_or_not i d) as (λ _. all_below C (suc d) i ≡ but_at (all_below C d) d (length (names_of (entry_at C d))) i) [
  | inl e ↦ subst (λ i. all_below C (suc d) i ≡ but_at (all_below C d) d (length (names_of (entry_at C d))) i) (sym e)
      (ap (λ b. if b then length (names_of (entry_at C d)) else 0) (lt-ltb d (suc d) (omega arith)) ∙ sym (but_here (all_below C d) d (length (names_of (entry_at C d)))))
  | inr ne ↦
      let same : nat_lt i (suc d) ≡ nat_lt i d = grind (arith, nat_tests, ne) in
      ap (λ b. if b then length (names_of (entry_at C i)) else 0) same ∙ sym (but_there (all_below C d) d (length (names_of (entry_at C d))) i ne)
]

some_of : (n : ℕ) → (n == 0) ≡ false → 1 ≤ n
some_of zero is = absurd (let bad : true ≡ false = is in cc)
some_of (suc n) is = omega arith

module _ (limits : Limits) (C : List Entry) (v : Valid limits C) (few : length C ≤ 4096) (most : ServerLimits) (room : HasRoom limits most) where
  -- ONE NAME

  module _ (p : ℕ → ℕ) (A : List Entry) (bits : List Bool) (S : List NameRow) (k : Partly C p A bits S) (d : ℕ) (row : NameRow) (at : slice_get (names_of (entry_at C d)) (p d) ≡ Some row) where
    next : Partly C (but_at p d (suc (p d))) (put_in A d row) (slice_set bits row.index false) (let_out S (bit_at bits row.index) row)
    next = one_more limits C v few p A bits S k d row at (but_at p d (suc (p d))) (but_here p d (suc (p d))) (λ i ne. but_there p d (suc (p d)) i ne)

    d_low : d < length C
    d_low = dir_below limits C v d (p d) row at

    m_low : row.index < length C
    m_low = row_below limits C v d (p d) row at

    among : AreAmong A C
    among e i has = elim (one_or_low e) as (λ _. has_row_to i (entry_at C e) ≡ true) [
      | inl low ↦ any_take (λ (r : NameRow). r.index == i) (p e) (names_of (entry_at C e))
          (ap (list_any (λ (r : NameRow). r.index == i)) (sym (names_now limits C v few p A bits S k e low)) ∙ has)
      | inr past ↦ absurd (let bad : false ≡ true = sym (ap (has_row_to i) (get_or_past A e null_entry (let s = k.size in omega (arith, past, s)))) ∙ has in cc)
    ]
      where
        one_or_low : (e : ℕ) → (e < length C) ⊎ (length C ≤ e)
        one_or_low e = cases_lt e (length C)

    links_when : bit_at bits row.index ≡ false → IsLinkable most A S row.index
    links_when out =
        let led = row_led limits C v d (p d) row at in
        let same = k.each row.index m_low in
        record {
          live = ap is_null same ∙ null_with (entry_at C row.index) (take (p row.index) (names_of (entry_at C row.index))) ∙ led.live;
          other = ap is_dir same ∙ dir_with (entry_at C row.index) (take (p row.index) (names_of (entry_at C row.index))) ∙ no_dir (is_dir (entry_at C row.index)) refl;
          room = record {
            rising = rising_now limits C v few p A bits S k;
            once = k.once;
            room =
                let live = count_by-le-length (λ (e : Entry). not (is_null e)) A in
                let s = k.size in
                let n = v.size in
                let a = room.nodes in
                let b = room.bytes in
                let t = v.room in
                let u = used_then limits C v few p A bits S k d row at in
                let f = used_fits limits C v few (but_at p d (suc (p d))) (put_in A d row) (slice_set bits row.index false) (let_out S (bit_at bits row.index) row) next in
                let same_names : length (let_out S (bit_at bits row.index) row) ≡ length S = ap (λ b. length (let_out S b row)) out in
                (omega (arith, live, s, n, a), omega (arith, u, f, same_names, t, b));
          };
        }
      where
        no_dir : (b : Bool) → is_dir (entry_at C row.index) ≡ b → b ≡ false
        no_dir false is = refl
        no_dir true is =
            let led = row_led limits C v d (p d) row at in
            let one = v.one_name row.index is led.not_root in
            let object : is_object C row.index ≡ true = and_from (not (row.index == 0)) (not (is_null (entry_at C row.index)))
            (ap not (eq_not row.index 0 led.not_root)) (ap not led.live) in
            let named : (links A row.index == 0) ≡ false = ap (λ x. x && (links A row.index == 0)) (sym object) ∙ (sym (k.bit row.index m_low) ∙ out) in
            let some = some_of (links A row.index) named in
            let more = links_then limits C v few p A bits S k d row at row.index in
            let own : cond (row.index == row.index) 1 0 ≡ suc zero = ap (λ b. cond b 1 0) (eq_is row.index row.index refl) in
            let fits = fits_one limits C v few (but_at p d (suc (p d))) (put_in A d row) (slice_set bits row.index false) (let_out S (bit_at bits row.index) row) next row.index m_low in
            absurd (omega (arith, one, some, more, own, fits))

    pub can_put : CanPut most A C S (bit_at bits row.index) d row
    can_put =
        let rising = rising_in limits C v d d_low in
        record {
          limits = limits;
          valid = v;
          among = among;
          within = (let s = k.size in let l = d_low in omega (arith, s, l));
          is_dir = dir_now limits C v few p A bits S k d row at;
          has = row_of-at (names_of (entry_at C d)) (p d) row rising at;
          lacks = ap (row_of row.name) (names_now limits C v few p A bits S k d d_low) ∙ lacks_next (names_of (entry_at C d)) (p d) row rising at;
          good = all_at (λ (r : NameRow). is_name r.name) (names_of (entry_at C d)) (p d) row (fits_at limits C v d (entry_at C d) (within_at C d d_low)).names at;
          moves = λ staged. (row_in_staging row.index (entry_at C row.index), k.stands row.index m_low staged, refl);
          links = links_when;
        }

  -- ONE DIRECTORY

  module _ (p : ℕ → ℕ) (A : List Entry) (bits : List Bool) (S : List NameRow) (k : Partly C p A bits S) (d : ℕ) (none : p d ≡ 0) where
    abbrev rows : List NameRow
    rows = names_of (entry_at C d)

    at_here : (n : ℕ) → n < length rows → slice_get rows (but_at p d n d) ≡ Some (row_at rows n)
    at_here n below = ap (slice_get rows) (but_here p d n) ∙ slice_get-get_or rows n (record { name = []; index = 0; generation = 0 }) below

    pub put_so_far : (n : ℕ) → n ≤ length rows → Partly C (but_at p d n) (put_to A d rows n) (bits_to bits rows n) (out_to S bits rows n)
    put_so_far zero below = as_many C p (but_at p d 0) A bits S k (λ i. elim (one_or_not i d) as (λ _. but_at p d 0 i ≡ p i) [
      | inl e ↦ subst (λ i. but_at p d 0 i ≡ p i) (sym e) (but_here p d 0 ∙ sym none)
      | inr ne ↦ but_there p d 0 i ne
    ])
    put_so_far (suc n) below =
        let was = put_so_far n (omega (arith, below)) in
        one_more limits C v few (but_at p d n) (put_to A d rows n) (bits_to bits rows n) (out_to S bits rows n) was d (row_at rows n) (at_here n (omega (arith, below)))
        (but_at p d (suc n)) (but_here p d (suc n) ∙ ap suc (sym (but_here p d n))) (λ i ne. but_there p d (suc n) i ne ∙ sym (but_there p d n i ne))

    pub can_put_each : CanPutEach most A C S bits d rows
    can_put_each n below = can_put (but_at p d n) (put_to A d rows n) (bits_to bits rows n) (out_to S bits rows n) (put_so_far n (omega (arith, below))) d (row_at rows n) (at_here n below)

  -- ALL DIRECTORIES

  module _ (A : List Entry) (bits : List Bool) (S : List NameRow) (k : Partly C (λ _. 0) A bits S) where
    none_yet : (d : ℕ) → all_below C d d ≡ 0
    none_yet d = ap (λ b. if b then length (names_of (entry_at C d)) else 0) (not_itself d)

    pub named_so_far : (d : ℕ) → Partly C (all_below C d) (named_to A C d) (all_bits_to bits C d) (all_out_to S bits C d)
    named_so_far zero = as_many C (λ _. 0) (all_below C 0) A bits S k (λ i. ap (λ b. if b then length (names_of (entry_at C i)) else 0) (none_below i))
    named_so_far (suc d) =
        as_many C (but_at (all_below C d) d (length (names_of (entry_at C d)))) (all_below C (suc d)) _ _ _
        (put_so_far (all_below C d) (named_to A C d) (all_bits_to bits C d) (all_out_to S bits C d) (named_so_far d) d (none_yet d) (length (names_of (entry_at C d))) (omega arith))
        (all_more C d)

    pub can_put_all : (d : ℕ) → d < length C → CanPutEach most (named_to A C d) C (all_out_to S bits C d) (all_bits_to bits C d) d (names_of (entry_at C d))
    can_put_all d below = can_put_each (all_below C d) (named_to A C d) (all_bits_to bits C d) (all_out_to S bits C d) (named_so_far d) d (none_yet d)

    pub lead_within : LeadWithin C bits
    lead_within d n r at = let m = row_below limits C v d n r at in let s = k.bits_size in omega (arith, m, s)

    last : Partly C (all_below C (length C)) (named_to A C (length C)) (all_bits_to bits C (length C)) (all_out_to S bits C (length C))
    last = named_so_far (length C)

    -- the array stands
    pub all_named : named_to A C (length C) ≡ C
    all_named = ext_get_or null_entry (named_to A C (length C)) C last.size (λ i low.
        let below : i < length C = (let s = last.size in omega (arith, low, s)) in
        let every : all_below C (length C) i ≡ length (names_of (entry_at C i)) = ap (λ b. if b then length (names_of (entry_at C i)) else 0) (lt-ltb i (length C) below) in
        last.each i below ∙ ap (λ n. with_names (take n (names_of (entry_at C i))) (entry_at C i)) every
        ∙ ap (λ rows. with_names rows (entry_at C i)) (take_all (length (names_of (entry_at C i))) (names_of (entry_at C i)) (omega arith)) ∙ own_names (entry_at C i))

    no_bit : (i : ℕ) → i < length C → bit_at (all_bits_to bits C (length C)) i ≡ false
    no_bit i below = last.bit i below ∙ by_object (is_object C i) refl
      where
        zero_not : (n : ℕ) → 1 ≤ n → (n == 0) ≡ false
        zero_not zero some = absurd (omega (arith, some))
        zero_not (suc n) some = eq_not (suc n) 0 (λ e. absurd (omega (arith, e)))

        by_object : (b : Bool) → is_object C i ≡ b → (b && (links (named_to A C (length C)) i == 0)) ≡ false
        by_object false is = refl
        by_object true is = zero_not (links (named_to A C (length C)) i) (let some = object_named limits C v i is in let same = ap (λ A. links A i) all_named in omega (arith, some, same))

    -- and nothing is staged
    pub all_out : all_out_to S bits C (length C) ≡ []
    all_out =
        let count = last.count in
        let sum : sum_to (λ i. one_of (bit_at (all_bits_to bits C (length C)) i)) (length (all_bits_to bits C (length C))) ≡ count_by (λ (b : Bool). b) (all_bits_to bits C (length C)) =
        sum_to-list one_of false (all_bits_to bits C (length C)) in
        let none = sum_to-same (λ i. one_of (bit_at (all_bits_to bits C (length C)) i)) (λ i. 0) (length (all_bits_to bits C (length C)))
        (λ i low. ap one_of (no_bit i (let s = last.bits_size in omega (arith, low, s)))) in
        let zeros = sum_to-zero (length (all_bits_to bits C (length C))) in
        nil_from_length (all_out_to S bits C (length C)) (omega (arith, count, sum, none, zeros))
