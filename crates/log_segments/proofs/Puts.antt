-- What the calls on a log say of its live records.
use Rattle.std.proofs.Common.{◌≡◌, ◌∙◌, ◌+◌, ◌++◌, ◌<◌, ◌≤◌, inl, inr, ℕ, suc, List, [], ◌∷◌, true, false, cond, Some, None, get_or, length, sym, ap, subst, arith}
use Rattle.std.specs.FinMap as map
use Rattle.std.specs.FinMap.{FinMap}
use Rattle.std.specs.Ordering.{nat_cmp}
use Rattle.std.specs.Cmp.Lexicographic.{slice_cmp}
use Rattle.std.proofs.lemmas.Option.{slice_get-get_or}
use Rattle.std.specs.Prelude.{option_map, slice_get}
use Rattle.log_segments.specs.Failures.{MayGrow, MayShrink, MayPut}
use Rattle.log_segments.specs.Newest.{has_key, standing, live, after, find}
use Rattle.log_segments.specs.Record.{is_gone, key_of}
use Rattle.log_segments.specs.Segments.{half_size, blocks_from, records, live_records, IsOpen}
use Rattle.log_segments.proofs.Blocks.{Blocks, Content, get_or-blocks_from}
use Rattle.log_segments.proofs.Ends.{get_or-records_in}
use Rattle.log_segments.proofs.Finds.{places_tell}
use Rattle.log_segments.proofs.Halves.{start_is_half, records_are_from, end_fits}
use Rattle.log_segments.proofs.LiveLaws.{live-append, live-live}

pub compact_live : (c new : Content) (size : ℕ) → records new size ≡ live_records c size
    → live_records new size ≡ live_records c size
compact_live c new size h = ap live h ∙ live-live (records c size)

pub shrink_live : (c new : Content) (size : ℕ) → MayShrink (records c size) (records new size)
    → live_records new size ≡ live_records c size
shrink_live c new size h = elim h [ inl same ↦ ap live same | inr shrunk ↦ compact_live c new size shrunk ]

pub append_live : (c mid new : Content) (size : ℕ) (r : List ℕ) → records new size ≡ records mid size ++ r ∷ []
    → live_records mid size ≡ live_records c size
    → live_records new size ≡ after (live_records c size) r
append_live c mid new size r h same = ap live h ∙ (live-append (records mid size) r ∙ ap (λ ls. after ls r) same)

pub torn_live : (c mid new : Content) (size : ℕ) → MayGrow (records mid size) (records new size)
    → live_records mid size ≡ live_records c size
    → MayPut (live_records c size) (live_records new size)
torn_live c mid new size h same = elim h [
  | inl kept ↦ inl (ap live kept ∙ same)
  | inr more ↦ inr (more.0, more.1, append_live c mid new size more.0 more.2 same)
]

-- there are no more live records than records
pub length_live : (rs : Blocks) → length (live rs) ≤ length rs
length_live [] = search arith
length_live (r ∷ rs) =
    let rest = length_live rs in
    elim (has_key (key_of r) rs) as (λ b. length (cond b (live rs) (standing r ++ live rs)) ≤ suc (length rs)) [
      | true ↦ omega arith
      | false ↦ elim (is_gone r) as (λ g. length (cond g [] (r ∷ []) ++ live rs) ≤ suc
          (length rs)) [ true ↦ omega arith | false ↦ omega arith ]
    ]

-- a noted place is inside the medium
pub record IsPlace (c : Content) (size s p : ℕ) : Type 0 where
  pub inside : s + p < size
  pub in_half : p < half_size size
  pub among : p < length (records c size)

pub place_inside : (c : Content) (size s e p : ℕ) (places : FinMap (slice_cmp nat_cmp) ℕ) (k : List ℕ)
    → IsOpen c size s e places
    → map.get places k ≡ Some p → IsPlace c size s p
place_inside c size s e p places k log at =
    let among : p < length (records c size) = (places_tell (records c size) k).below p (sym (log.places_are k) ∙ at) in
    let most = end_fits c size s e log.begins log.ends in
    let half = start_is_half c size (omega (arith, log.ends)) in
    record {
      inside = omega (arith, half.within, log.begins, log.ends);
      in_half = omega
          (arith, log.ends);
      among = among;
    }

pub found_some : (c : Content) (size s e p : ℕ) (places : FinMap (slice_cmp nat_cmp) ℕ) (k b : List ℕ)
    → IsOpen c size s e places
    → map.get places k ≡ Some p → b ≡ c (s + p) → Some b ≡ find k (live_records c size)
found_some c size s e p places k b log at read =
    let there = place_inside c size s e p places k log at in
    let is_from = records_are_from c size s log.begins in
    let among = subst (λ rs. p < length rs) is_from there.among in
    let is : get_or (records c size) p [] ≡ b = ap (λ rs. get_or rs p []) is_from
    ∙ (get_or-records_in (blocks_from c s (half_size size)) p among
    ∙ (get_or-blocks_from c s (half_size size) p there.in_half ∙ sym read)) in
    sym ((places_tell (records c size) k).found
    ∙ (ap (option_map (λ q. get_or (records c size) q [])) (sym (log.places_are k) ∙ at) ∙ ap Some is))

pub found_none : (c : Content) (size s e : ℕ) (places : FinMap (slice_cmp nat_cmp) ℕ) (k : List ℕ)
    → IsOpen c size s e places
    → map.get places k ≡ None → None ≡ find k (live_records c size)
found_none c size s e places k log at =
    sym ((places_tell (records c size) k).found
    ∙ ap (option_map (λ q. get_or (records c size) q [])) (sym (log.places_are k) ∙ at))

-- the record at a place
pub is_at : (c : Content) (size s e p : ℕ) (places : FinMap (slice_cmp nat_cmp) ℕ) (b : List ℕ)
    → IsOpen c size s e places
    → p < length (records c size) → b ≡ c (s + p) → slice_get (records c size) p ≡ Some b
is_at c size s e p places b log among read =
    let is_from = records_are_from c size s log.begins in
    let most = end_fits c size s e log.begins log.ends in
    let within : p < half_size size = omega (arith, log.ends) in
    let here = subst (λ rs. p < length rs) is_from among in
    let is : get_or (records c size) p [] ≡ b = ap (λ rs. get_or rs p []) is_from
    ∙ (get_or-records_in (blocks_from c s (half_size size)) p here
    ∙ (get_or-blocks_from c s (half_size size) p within ∙ sym read)) in
    slice_get-get_or (records c size) p [] among ∙ ap Some is

-- a place of the current half is inside the medium
pub inside : (c : Content) (size s e p : ℕ) (places : FinMap (slice_cmp nat_cmp) ℕ) → IsOpen c size s e places
    → p < length (records c size) → s + p < size
inside c size s e p places log among =
    let most = end_fits c size s e log.begins log.ends in
    let half = start_is_half c size (omega (arith, log.ends)) in
    omega (arith, half.within, log.begins, log.ends)
