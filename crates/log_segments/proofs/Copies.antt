-- Copying the live records of one half into the other.
use Rattle.std.proofs.Common.{◌≡◌, ◌∙◌, ◌+◌, ◌++◌, ◌<◌, ◌≤◌, ◌^◌, ◌⊎◌, ◌==◌, inl, inr, ℕ, List, [], ◌∷◌, true, false, Some, cond, get_or, length, take, drop, set, bytes_eq, refl, sym, ap, subst, arith}
use Rattle.std.proofs.lemmas.List.{length-take-le, append_assoc, append-nil, drop_more, drop_all, take-append-drop}
use Rattle.std.proofs.lemmas.Grind.{common_steps}
use Rattle.std.specs.FinMap as map
use Rattle.std.specs.FinMap.{FinMap}
use Rattle.std.specs.Ordering.{nat_cmp}
use Rattle.std.specs.Cmp.Lexicographic.{slice_cmp}
use Rattle.log_segments.specs.Failures.{MayShrink}
use Rattle.log_segments.specs.Newest.{live, place_of}
use Rattle.log_segments.specs.Record.{is_end, is_gone, key_of}
use Rattle.log_segments.specs.Segments.{half_size, start_of, blocks_from, records_in, records_from, records, live_records, IsOpen, IsNoted, IsOther}
use Rattle.log_segments.proofs.Blocks.{Content, IsWrite, length-blocks_from, get_or-blocks_from, blocks_from-write, blocks_from-beside, take-blocks_from, blocks_from-more}
use Rattle.log_segments.proofs.Ends.{records_in-records_in, records_in-live, records_in-cut, get_or-records_in}
use Rattle.log_segments.proofs.Halves.{start_cases, records_are_from, end_fits}
use Rattle.log_segments.proofs.LiveLaws.{place-append, live-at, live-not_at, stands-at}

-- the two halves lie side by side behind block 0
pub record AreApart (size s t : ℕ) : Type 0 where
  pub behind_s : 0 < s
  pub behind_t : 0 < t
  pub within_s : s + half_size size ≤ size
  pub within_t : t + half_size size ≤ size
  pub apart : (s + half_size size ≤ t) ⊎ (t + half_size size ≤ s)

pub apart : (size s t : ℕ) → 1 ≤ half_size size → IsOther size s t → AreApart size s t
apart size s t some other = elim other.halves [
  | inl p ↦ (let a = p.0 in let b = p.1 in record {
    behind_s = omega arith;
    behind_t = omega arith;
    within_s = omega
        arith;
    within_t = omega arith;
    apart = inl (omega arith);
  })
  | inr p ↦ (let a = p.0 in let b = p.1 in record {
    behind_s = omega arith;
    behind_t = omega arith;
    within_s = omega
        arith;
    within_t = omega arith;
    apart = inr (omega arith);
  })
]

-- of the first n records those that are live stand in the other half, and are noted
pub record HasCopied (c now : Content) (size s t n count : ℕ) (places : FinMap (slice_cmp nat_cmp) ℕ) : Type 0 where
  pub first : now 0 ≡ c 0
  pub kept : blocks_from now s (half_size size) ≡ blocks_from c s (half_size size)
  pub copied : blocks_from now t count ++ live (drop n (records_from c size s)) ≡ live (records_from c size s)
  pub below : count ≤ n
  pub placed : (k : List ℕ) → map.get places k ≡ place_of (blocks_from now t count) k

pub copy_none : (c : Content) (size s t : ℕ) → HasCopied c c size s t 0 0 map.empty
copy_none c size s t = record {
  first = refl;
  kept = refl;
  copied = refl;
  below = omega arith;
  placed = λ k. map.get-empty (slice_cmp nat_cmp) k;
}

-- what was written so far changes no record
pub records_kept : (c now : Content) (size s t n count : ℕ) (places : FinMap (slice_cmp nat_cmp) ℕ)
    → s ≡ start_of c size
    → HasCopied c now size s t n count places → records now size ≡ records c size
records_kept c now size s t n count places begins h =
    let start : start_of now size ≡ start_of c size = ap (λ b. cond (is_end b) 1 (1 + half_size size)) h.first in
    records_are_from now size s (begins ∙ sym start) ∙ (ap records_in h.kept ∙ sym (records_are_from c size s begins))

-- the record that is read
record IsRecordAt (c : Content) (size s n : ℕ) (b : List ℕ) : Type 0 where
  long : length (take n (records_from c size s)) ≡ n
  rest : drop n (records_from c size s) ≡ b ∷ drop (n + 1) (records_from c size s)
  whole : take n (records_from c size s) ++ b ∷ drop (n + 1) (records_from c size s) ≡ records_from c size s

record_at : (c now : Content) (size s n : ℕ) (b : List ℕ)
    → blocks_from now s (half_size size) ≡ blocks_from c s (half_size size)
    → n < length (records_from c size s) → n < half_size size → b ≡ now (s + n) → IsRecordAt c size s n b
record_at c now size s n b kept fits within at =
    let R = records_from c size s in
    let H = blocks_from c s (half_size size) in
    let is : get_or R n [] ≡ b = get_or-records_in H n fits ∙ (ap (λ xs. get_or xs n []) (sym kept)
    ∙ (get_or-blocks_from now s (half_size size) n within ∙ sym at)) in
    let rest : drop n R ≡ b ∷ drop (n + 1) R = drop_more R n [] fits ∙ ap (λ x. x ∷ drop (n + 1) R) is in
    record {
      long = length-take-le n R (omega arith);
      rest = rest;
      whole = ap (λ xs. take n R ++ xs) (sym rest)
          ∙ take-append-drop n R;
    }

copy_skip : (c now : Content) (size s t n count : ℕ) (places : FinMap (slice_cmp nat_cmp) ℕ) (b : List ℕ)
    → n < length (records_from c size s)
    → n < half_size size → b ≡ now (s + n) → (place_of (records_from c size s) (key_of b) ≡ Some n → ⊥)
    → HasCopied c now size s t n count places → HasCopied c now size s t (n + 1) count places
copy_skip c now size s t n count places b fits within at other h =
    let R = records_from c size s in
    let r = record_at c now size s n b h.kept fits within at in
    let step : live (drop n R) ≡ live (drop (n + 1) R) = ap live r.rest
    ∙ live-not_at (take n R) (drop (n + 1) R) b n r.long (λ q. other (ap (λ rs. place_of rs (key_of b))
    (sym r.whole) ∙ q)) in
    let below = h.below in
    record {
      first = h.first;
      kept = h.kept;
      copied = ap (λ xs. blocks_from now t count ++ xs) (sym step)
          ∙ h.copied;
      below = omega arith;
      placed = h.placed;
    }

-- the copied records, and one more
copied_more : (now new : Content) (t count : ℕ) (b : List ℕ) → IsWrite now new (t + count) b
    → blocks_from new t (count + 1) ≡ blocks_from now t count ++ b ∷ []
copied_more now new t count b w =
    blocks_from-more new t count b w.at ∙ ap (λ xs. xs ++ b ∷ []) (blocks_from-beside now new t count (t + count) b
    (inr (omega arith)) w)

copy_more : (c now new : Content) (size s t n count : ℕ) (old places : FinMap (slice_cmp nat_cmp) ℕ) (b : List ℕ)
    → IsOther size s t
    → n < length (records_from c size s) → n < half_size size → b ≡ now (s + n)
    → place_of (records_from c size s) (key_of b) ≡ Some n
    → IsWrite now new (t + count) b → IsNoted old places (key_of b) false count → HasCopied c now size s t n count old
    → HasCopied c new size s t (n + 1) (count + 1) places
copy_more c now new size s t n count old places b other fits within at newest wrote noted h =
    let R = records_from c size s in
    let T = blocks_from now t count in
    let r = record_at c now size s n b h.kept fits within at in
    let newest_there : place_of (take n R ++ b ∷ drop (n + 1) R) (key_of b)
    ≡ Some n = ap (λ rs. place_of rs (key_of b)) r.whole ∙ newest in
    let step : live (drop n R) ≡ b ∷ live (drop (n + 1) R) = ap live r.rest
    ∙ live-at (take n R) (drop (n + 1) R) b n r.long newest_there in
    let stands : is_gone b ≡ false = stands-at (take n R) (drop (n + 1) R) b n r.long newest_there in
    let front = copied_more now new t count b wrote in
    let sides = apart size s t (omega arith) other in
    let below = h.below in
    let behind = sides.behind_t in
    let beside : (t + count < s) ⊎ (s + half_size size ≤ t + count) = elim sides.apart [
      | inl a ↦ inr
          (omega arith)
      | inr a ↦ inl (omega arith)
    ] in
    record {
      first = wrote.others 0 (λ e. omega arith) ∙ h.first;
      kept = blocks_from-beside now new s (half_size size) (t + count) b beside wrote ∙ h.kept;
      copied = ap (λ xs. xs ++ live (drop (n + 1) R)) front ∙ (append_assoc T (b ∷ []) (live (drop (n + 1) R))
          ∙ (ap (λ xs. T ++ xs) (sym step) ∙ h.copied));
      below = omega arith;
      placed = λ k. noted.at k ∙ (ap (λ o. cond (bytes_eq (key_of b) k) (Some count) o) (h.placed k)
          ∙ (sym (rw (stands, length-blocks_from now t count) at (place-append T b k))
          ∙ ap (λ rs. place_of rs k) (sym front)));
    }

-- THE END OF THE COPY

-- all live records are copied
all_copied : (c now : Content) (size s t n count : ℕ) (places : FinMap (slice_cmp nat_cmp) ℕ) → s ≡ start_of c size
    → n ≡ length (records c size)
    → HasCopied c now size s t n count places → blocks_from now t count ≡ live_records c size
all_copied c now size s t n count places begins whole h =
    let R = records_from c size s in
    let R_is = records_are_from c size s begins in
    let n_is : n ≡ length R = whole ∙ ap length R_is in
    sym (append-nil (blocks_from now t count))
    ∙ (ap (λ xs. blocks_from now t count ++ live xs) (sym (drop_all n R (omega arith))) ∙ (h.copied
    ∙ ap live (sym R_is)))

-- there is room for the end mark
pub count_fits : (c now : Content) (size s t n count : ℕ) (places : FinMap (slice_cmp nat_cmp) ℕ)
    → s ≡ start_of c size → n ≡ length (records c size)
    → length (live_records c size) < half_size size → HasCopied c now size s t n count places → count < half_size size
count_fits c now size s t n count places begins whole room h =
    omega (arith, ap length (all_copied c now size s t n count places begins whole h), length-blocks_from now t count)

starts : (t h : ℕ) → 1 ≤ h → (t ≡ 1) ⊎ (t ≡ 1 + h) → cond (t == 1) 1 (1 + h) ≡ t
starts t h some either = elim either [
  | inl e ↦ rw e refl
  | inr e ↦ let no : (t == 1) ≡ false = grind (arith, common_steps) in rw no (sym e)
]

pub is_either : (size s t : ℕ) → IsOther size s t → (t ≡ 1) ⊎ (t ≡ 1 + half_size size)
is_either size s t other = elim other.halves [ inl p ↦ inr p.1 | inr p ↦ inl p.1 ]

-- the end mark is written, and any block 0: the other half has the live records, and this one all of them
record HasBoth (c new : Content) (size s t : ℕ) : Type 0 where
  here : records_from new size s ≡ records c size
  there : records_from new size t ≡ live_records c size

both : (c now c1 new : Content) (size s t n count : ℕ) (places : FinMap (slice_cmp nat_cmp) ℕ) (mark head : List ℕ)
    → s ≡ start_of c size
    → IsOther size s t → n ≡ length (records c size) → length (live_records c size) < half_size size
    → HasCopied c now size s t n count places
    → is_end mark ≡ true → IsWrite now c1 (t + count) mark → IsWrite c1 new 0 head → HasBoth c new size s t
both c now c1 new size s t n count places mark head begins other whole room h ends first second =
    let half = half_size size in
    let H = blocks_from now t half in
    let fits = count_fits c now size s t n count places begins whole room h in
    let all = all_copied c now size s t n count places begins whole h in
    let sides = apart size s t (omega arith) other in
    let behind_s = sides.behind_s in
    let behind_t = sides.behind_t in
    let beside : (t + count < s) ⊎ (s + half ≤ t + count) = elim sides.apart [
      | inl a ↦ inr
          (omega arith)
      | inr a ↦ inl (omega arith)
    ] in
    let long = length-blocks_from now t half in
    let front : take count H ≡ live_records c size = take-blocks_from now t half count (omega arith) ∙ all in
    let R_is = records_are_from c size s begins in
    let lives : live_records c size ≡ live (records_from c size s) = ap live R_is in
    let stand : records_in (take count H) ≡ take count H =
    ap records_in (front ∙ lives) ∙ (records_in-live (records_from c size s) (records_in-records_in
    (blocks_from c s half)) ∙ sym (front ∙ lives)) in
    let cut : blocks_from new t half ≡ set H count mark = blocks_from-beside c1 new t half 0 head
    (inl behind_t) second ∙ blocks_from-write now c1 t half count mark fits first in
    record {
      here = ap records_in (blocks_from-beside c1 new s half 0 head (inl behind_s) second
          ∙ (blocks_from-beside now c1 s half (t + count) mark beside first ∙ h.kept)) ∙ sym R_is;
      there = ap records_in cut ∙ (records_in-cut H count mark (omega arith) stand ends ∙ front);
    }

-- what `compact` leaves
pub record HasCompacted (c new : Content) (size t count : ℕ) (places : FinMap (slice_cmp nat_cmp) ℕ) : Type 0 where
  pub log : IsOpen new size t count places
  pub records_are : records new size ≡ live_records c size

pub compacted : (c now c1 new : Content) (size s t e n count : ℕ) (kept places : FinMap (slice_cmp nat_cmp) ℕ)
    (mark head : List ℕ)
    → IsOpen c size s e kept → IsOther size s t → n ≡ e → length (live_records c size) < half_size size
    → HasCopied c now size s t n count places → is_end mark ≡ true → is_end head ≡ (t == 1)
    → IsWrite now c1 (t + count) mark → IsWrite c1 new 0 head
    → HasCompacted c new size t count places
compacted c now c1 new size s t e n count kept places mark head log other at_end room h ends named first second =
    let whole = at_end ∙ log.ends in
    let b = both c now c1 new size s t n count places mark head log.begins other whole room h ends first second in
    let all = all_copied c now size s t n count places log.begins whole h in
    let start : start_of new size ≡ t =
    ap (λ b. cond (is_end b) 1 (1 + half_size size)) second.at ∙ (ap (λ b. cond b 1 (1 + half_size size)) named
    ∙ starts t (half_size size) (omega arith) (is_either size s t other)) in
    let is : records new size ≡ live_records c size = records_are_from new size t (sym start) ∙ b.there in
    record {
      records_are = is;
      log = record {
        few = log.few;
        begins = sym start;
        ends = sym (length-blocks_from now t count) ∙ ap length (all ∙ sym is);
        places_are = λ k. h.placed k ∙ ap (λ rs. place_of rs k) (all ∙ sym is);
      };
    }

-- a torn block 0 names one half or the other
pub torn_head : (c now c1 new : Content) (size s t e n count : ℕ) (kept places : FinMap (slice_cmp nat_cmp) ℕ)
    (mark head : List ℕ)
    → IsOpen c size s e kept → IsOther size s t → n ≡ e → length (live_records c size) < half_size size
    → HasCopied c now size s t n count places → is_end mark ≡ true → IsWrite now c1 (t + count) mark
    → IsWrite c1 new 0 head
    → MayShrink (records c size) (records new size)
torn_head c now c1 new size s t e n count kept places mark head log other at_end room h ends first second =
    let whole = at_end ∙ log.ends in
    let b = both c now c1 new size s t n count places mark head log.begins other whole room h ends first second in
    let at_s : s ≡ start_of new size → MayShrink (records c size) (records new size) = λ q. inl
    (records_are_from new size s q ∙ b.here) in
    let at_t : t ≡ start_of new size → MayShrink (records c size) (records new size) = λ q. inr
    (records_are_from new size t q ∙ b.there) in
    elim other.halves [
      | inl p ↦ elim (start_cases new size) [ inl q ↦ at_s (p.0 ∙ sym q) | inr q ↦ at_t (p.1 ∙ sym q) ]
      | inr p ↦ elim (start_cases new size) [ inl q ↦ at_t (p.1 ∙ sym q) | inr q ↦ at_s (p.0 ∙ sym q) ]
    ]

-- a write in the other half, torn or not, changes no record
pub torn_copy : (c now new : Content) (size s t n count : ℕ) (places : FinMap (slice_cmp nat_cmp) ℕ) (x : List ℕ)
    → s ≡ start_of c size
    → IsOther size s t → count < half_size size → HasCopied c now size s t n count places
    → IsWrite now new (t + count) x
    → records new size ≡ records c size
torn_copy c now new size s t n count places x begins other fits h w =
    let half = half_size size in
    let sides = apart size s t (omega arith) other in
    let behind = sides.behind_t in
    let beside : (t + count < s) ⊎ (s + half ≤ t + count) = elim sides.apart [
      | inl a ↦ inr
          (omega arith)
      | inr a ↦ inl (omega arith)
    ] in
    let first : new 0 ≡ c 0 = w.others 0 (λ e. omega arith) ∙ h.first in
    let start : start_of new size ≡ start_of c size = ap (λ b. cond (is_end b) 1 (1 + half_size size)) first in
    records_are_from new size s (begins ∙ sym start)
    ∙ (ap records_in (blocks_from-beside now new s half (t + count) x beside w ∙ h.kept)
    ∙ sym (records_are_from c size s begins))

-- FROM AN OPEN LOG

newest_at : (c : Content) (size s e n : ℕ) (places : FinMap (slice_cmp nat_cmp) ℕ) (b key : List ℕ)
    → IsOpen c size s e places → key ≡ key_of b
    → map.get places key ≡ place_of (records_from c size s) (key_of b)
newest_at c size s e n places b key log is =
    ap (map.get places) is ∙ (log.places_are (key_of b)
    ∙ ap (λ rs. place_of rs (key_of b)) (records_are_from c size s log.begins))

pub skip_turn : (c now : Content) (size s t e n count : ℕ) (places kept : FinMap (slice_cmp nat_cmp) ℕ)
    (b key : List ℕ) → IsOpen c size s e places
    → n < e → b ≡ now (s + n) → key ≡ key_of b → (map.get places key ≡ Some n → ⊥)
    → HasCopied c now size s t n count kept
    → HasCopied c now size s t (n + 1) count kept
skip_turn c now size s t e n count places kept b key log fits at is other h =
    let most = end_fits c size s e log.begins log.ends in
    let e_is : e ≡ length (records_from c size s) = log.ends ∙ ap length (records_are_from c size s log.begins) in
    copy_skip c now size s t n count kept b (omega arith) (omega arith) at (λ q. other
    (newest_at c size s e n places b key log is ∙ q)) h

pub copy_turn : (c now new : Content) (size s t e n count : ℕ) (places old kept : FinMap (slice_cmp nat_cmp) ℕ)
    (b key : List ℕ)
    → IsOpen c size s e places → IsOther size s t → n < e → b ≡ now (s + n) → key ≡ key_of b
    → map.get places key ≡ Some n
    → IsWrite now new (t + count) b → IsNoted old kept key false count → HasCopied c now size s t n count old
    → HasCopied c new size s t (n + 1) (count + 1) kept
copy_turn c now new size s t e n count places old kept b key log other fits at is newest wrote noted h =
    let most = end_fits c size s e log.begins log.ends in
    let e_is : e ≡ length (records_from c size s) = log.ends ∙ ap length (records_are_from c size s log.begins) in
    copy_more c now new size s t n count old kept b other (omega arith) (omega arith) at (sym
    (newest_at c size s e n places b key log is) ∙ newest) wrote
    (subst (λ k. IsNoted old kept k false count) is noted) h

-- AN EMPTY LOG

pub record HasCleared (new : Content) (size : ℕ) (places : FinMap (slice_cmp nat_cmp) ℕ) : Type 0 where
  pub log : IsOpen new size 1 0 places
  pub live_are : live_records new size ≡ []

pub cleared : (c c1 new : Content) (size : ℕ) (places : FinMap (slice_cmp nat_cmp) ℕ) (mark : List ℕ)
    → size < 2 ^ 32 → 1 ≤ half_size size
    → places ≡ map.empty → is_end mark ≡ true → IsWrite c c1 1 mark → IsWrite c1 new 0 mark → HasCleared new size places
cleared c c1 new size places mark few some none ends first second =
    let half = half_size size in
    let start : start_of new size ≡ 1 = ap (λ b. cond (is_end b) 1 (1 + half_size size)) second.at ∙ rw ends refl in
    let long = length-blocks_from c 1 half in
    let cut : blocks_from new 1 half ≡ set (blocks_from c 1 half) 0 mark =
    blocks_from-beside c1 new 1 half 0 mark (inl (omega arith)) second
    ∙ blocks_from-write c c1 1 half 0 mark (omega arith) first in
    let is : records new size ≡ [] = records_are_from new size 1 (sym start) ∙ (ap records_in cut
    ∙ records_in-cut (blocks_from c 1 half) 0 mark (omega arith) refl ends) in
    record {
      live_are = ap live is;
      log = record {
        few = few;
        begins = sym start;
        ends = ap length (sym is);
        places_are = λ k. ap (λ m. map.get m k) none ∙ (map.get-empty (slice_cmp nat_cmp) k
            ∙ ap (λ rs. place_of rs k) (sym is));
      };
    }
