-- The halves of a medium, and what a record more leaves of them.
use Rattle.std.proofs.Common.{◌≡◌, ◌∙◌, ◌+◌, ◌++◌, ◌<◌, ◌≤◌, ◌⊎◌, inl, inr, ℕ, List, [], ◌∷◌, Bool, true, false, Some, None, cond, length, set, bytes_eq, refl, sym, ap, subst, arith}
use Rattle.std.proofs.lemmas.List.{length-append}
use Rattle.std.specs.FinMap.{FinMap}
use Rattle.std.specs.Ordering.{nat_cmp}
use Rattle.std.specs.Cmp.Lexicographic.{slice_cmp}
use Rattle.log_segments.specs.Failures.{MayGrow}
use Rattle.log_segments.specs.Newest.{place_of}
use Rattle.log_segments.specs.Record.{is_end, is_gone, key_of}
use Rattle.log_segments.specs.Segments.{half_size, start_of, blocks_from, records_in, records_from, records, IsOpen, IsNoted}
use Rattle.log_segments.proofs.Blocks.{Content, IsWrite, length-blocks_from, blocks_from-write}
use Rattle.log_segments.proofs.Ends.{length-records_in, records_in-append, records_in-behind, records_in-over}
use Rattle.log_segments.proofs.LiveLaws.{place-append}

pub start_cases : (c : Content) (size : ℕ) → (start_of c size ≡ 1) ⊎ (start_of c size ≡ 1 + half_size size)
start_cases c size = elim (is_end (c 0)) as (λ b. (cond b 1 (1 + half_size size)
    ≡ 1) ⊎ (cond b 1 (1 + half_size size) ≡ 1 + half_size size))
    [ true ↦ inl refl | false ↦ inr refl ]

-- a half lies behind block 0 and inside the medium
pub record IsHalf (size s : ℕ) : Type 0 where
  pub behind : 0 < s
  pub within : s + half_size size ≤ size

pub start_is_half : (c : Content) (size : ℕ) → 1 ≤ half_size size → IsHalf size (start_of c size)
start_is_half c size some = elim (start_cases c size) [
  | inl e ↦ record { behind = omega arith; within = omega arith }
  | inr e ↦ record { behind = omega arith; within = omega arith }
]

pub records_are_from : (c : Content) (size s : ℕ) → s ≡ start_of c size → records c size ≡ records_from c size s
unfolding records
records_are_from c size s begins = ap (records_from c size) (sym begins)

pub end_fits : (c : Content) (size s n : ℕ) → s ≡ start_of c size → n ≡ length (records c size) → n ≤ half_size size
end_fits c size s n begins whole =
    omega (
      arith,
      ap length (records_are_from c size s begins),
      length-records_in (blocks_from c s
          (half_size size)),
      length-blocks_from c s (half_size size),
    )

-- a write behind block 0 leaves the current half where it is
pub start_of-write : (c new : Content) (size i : ℕ) (b : List ℕ) → 0 < i → IsWrite c new i b
    → start_of new size ≡ start_of c size
start_of-write c new size i b behind w =
    let same : new 0 ≡ c 0 = w.others 0 (λ e. omega arith) in
    ap (λ x. cond (is_end x) 1 (1 + half_size size)) same

-- APPENDING

-- a log's medium, before one more record is written at s + e
record IsReady (c : Content) (size s e : ℕ) : Type 0 where
  start : s ≡ start_of c size
  behind : 0 < s
  end : e ≡ length (records_in (blocks_from c s (half_size size)))

ready : (c : Content) (size s e : ℕ) (places : FinMap (slice_cmp nat_cmp) ℕ) → IsOpen c size s e places
    → e + 1 < half_size size → IsReady c size s e
ready c size s e places log fits =
    let half = start_is_half c size (omega arith) in
    let begins = log.begins in
    record {
      start = begins;
      behind = omega (arith, half.behind);
      end = log.ends
          ∙ ap length (records_are_from c size s begins);
    }

-- what `append` leaves
pub record HasAppended (c new : Content) (size s e : ℕ) (places : FinMap (slice_cmp nat_cmp) ℕ)
    (r : List ℕ) : Type 0 where
  pub log : IsOpen new size s (e + 1) places
  pub records_are : records new size ≡ records c size ++ r ∷ []

-- both writes of a record that stands
written : (c c1 new : Content) (size s e : ℕ) (r mark : List ℕ) → IsReady c size s e → e + 1 < half_size size
    → is_end r ≡ false → is_end mark ≡ true
    → IsWrite c c1 (s + e + 1) mark → IsWrite c1 new (s + e) r
    → (records new size ≡ records c size ++ r ∷ []) × (s ≡ start_of new size)
written c c1 new size s e r mark h fits stands ends first second =
    let half = half_size size in
    let place : s + e + 1 ≡ s + (e + 1) = omega arith in
    let moved = subst (λ i. IsWrite c c1 i mark) place first in
    let bs : blocks_from new s half ≡ set (set (blocks_from c s half) (e + 1) mark) e r =
    blocks_from-write c1 new s half e r (omega arith) second
    ∙ ap (λ xs. set xs e r) (blocks_from-write c c1 s half (e + 1) mark fits moved) in
    let behind = h.behind in
    let start : start_of new size ≡ start_of c size = start_of-write c1 new size (s + e) r (omega arith) second
    ∙ start_of-write c c1 size (s + e + 1) mark (omega arith) first in
    let begins : s ≡ start_of new size = h.start ∙ sym start in
    let long : e + 1 < length (blocks_from c s half) = omega (arith, length-blocks_from c s half) in (
      records_are_from new size s begins ∙ (ap records_in bs
          ∙ (records_in-append (blocks_from c s half) e (e + 1) r mark h.end refl long stands ends
          ∙ ap (λ xs. xs ++ r ∷ []) (sym (records_are_from c size s h.start)))),
      begins,
    )

pub appended : (c c1 new : Content) (size s e : ℕ) (old places : FinMap (slice_cmp nat_cmp) ℕ) (r mark : List ℕ)
    → IsOpen c size s e old
    → e + 1 < half_size size → is_end r ≡ false → is_end mark ≡ true → IsWrite c c1 (s + e + 1) mark
    → IsWrite c1 new (s + e) r
    → IsNoted old places (key_of r) (is_gone r) e → HasAppended c new size s e places r
appended c c1 new size s e old places r mark log fits stands ends first second noted =
    let w = written c c1 new size s e r mark (ready c size s e old log fits) fits stands ends first second in
    let is = w.0 in
    record {
      records_are = is;
      log = record {
        few = log.few;
        begins = w.1;
        ends = omega (arith, log.ends, ap length is, length-append (records c size) (r ∷ []));
        places_are = λ k. noted.at k ∙ (ap (λ o. cond (bytes_eq (key_of r) k) (cond (is_gone r) None (Some e)) o)
            (log.places_are k)
            ∙ (ap (λ n. cond (bytes_eq (key_of r) k) (cond (is_gone r) None (Some n)) (place_of
            (records c size) k)) log.ends
            ∙ (sym (place-append (records c size) r k) ∙ ap (λ rs. place_of rs k) (sym is))));
      };
    }

-- a torn end mark changes nothing
pub torn_mark : (c c1 : Content) (size s e : ℕ) (places : FinMap (slice_cmp nat_cmp) ℕ) (x : List ℕ)
    → IsOpen c size s e places
    → e + 1 < half_size size → IsWrite c c1 (s + e + 1) x → records c1 size ≡ records c size
torn_mark c c1 size s e places x log fits first =
    let h = ready c size s e places log fits in
    let half = half_size size in
    let place : s + e + 1 ≡ s + (e + 1) = omega arith in
    let begins : s ≡ start_of c1 size = h.start
    ∙ sym (start_of-write c c1 size (s + e + 1) x (omega (arith, h.behind)) first) in
    let bs = blocks_from-write c c1 s half (e + 1) x fits (subst (λ i. IsWrite c c1 i x) place first) in
    records_are_from c1 size s begins ∙ (ap records_in bs
    ∙ (records_in-behind (blocks_from c s half) (e + 1) x (omega (arith, h.end))
    ∙ sym (records_are_from c size s h.start)))

-- a torn record is a record or no record
pub torn_record : (c c1 new : Content) (size s e : ℕ) (places : FinMap (slice_cmp nat_cmp) ℕ) (x mark : List ℕ)
    → IsOpen c size s e places
    → e + 1 < half_size size → is_end mark ≡ true → length x ≡ 512 → IsWrite c c1 (s + e + 1) mark
    → IsWrite c1 new (s + e) x
    → MayGrow (records c size) (records new size)
torn_record c c1 new size s e places x mark log fits ends long first second =
    let h = ready c size s e places log fits in
    let half = half_size size in
    let before = torn_mark c c1 size s e places mark log fits first in
    let begins : s ≡ start_of c1 size = h.start
    ∙ sym (start_of-write c c1 size (s + e + 1) mark (omega (arith, h.behind)) first) in
    let begins_new : s ≡ start_of new size = begins
    ∙ sym (start_of-write c1 new size (s + e) x (omega (arith, h.behind)) second) in
    elim (is_end x) as (λ b. is_end x ≡ b → MayGrow (records c size) (records new size)) [
      | true ↦ (λ q.
          let here : e ≡ length (records_in (blocks_from c1 s half)) = log.ends ∙ ap length (sym before
          ∙ records_are_from c1 size s begins) in
          inl (records_are_from new size s begins_new
          ∙ (ap records_in (blocks_from-write c1 new s half e x (omega arith) second)
          ∙ (records_in-over (blocks_from c1 s half) e x here q ∙ (sym (records_are_from c1 size s begins) ∙ before)))))
      | false ↦ (λ q. inr (x, long, (written c c1 new size s e x mark h fits q ends first second).0))
    ] refl

pub noted_as : (old new : FinMap (slice_cmp nat_cmp) ℕ) (key key' : List ℕ) (gone gone' : Bool) (place : ℕ)
    → IsNoted old new key gone place → key ≡ key' → gone ≡ gone' → IsNoted old new key' gone' place
noted_as old new key key' gone gone' place h p q =
    subst (λ b. IsNoted old new key' b place) q (subst (λ k. IsNoted old new k gone place) p h)
