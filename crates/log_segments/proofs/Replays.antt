-- Reading a half from its start.
use Rattle.std.proofs.Common.{◌≡◌, ◌∙◌, ◌+◌, ◌++◌, ◌<◌, ◌≤◌, ◌^◌, ℕ, List, [], ◌∷◌, true, false, Some, None, cond, get_or, length, take, drop, bytes_eq, refl, sym, ap, subst, arith}
use Rattle.std.proofs.lemmas.List.{length-take-le, append_assoc, append-nil, drop_more, take_more, drop_all}
use Rattle.std.specs.FinMap as map
use Rattle.std.specs.FinMap.{FinMap}
use Rattle.std.specs.Ordering.{nat_cmp}
use Rattle.std.specs.Cmp.Lexicographic.{slice_cmp}
use Rattle.log_segments.specs.Newest.{place_of}
use Rattle.log_segments.specs.Record.{is_end, is_gone, key_of}
use Rattle.log_segments.specs.Segments.{half_size, start_of, blocks_from, records_in, records, IsOpen, IsNoted}
use Rattle.log_segments.proofs.Blocks.{Content, length-blocks_from, get_or-blocks_from}
use Rattle.log_segments.proofs.LiveLaws.{place-append}

-- the first n blocks of the half are records, and are noted
pub record HasRead (c : Content) (size s n : ℕ) (places : FinMap (slice_cmp nat_cmp) ℕ) : Type 0 where
  pub read : records_in (blocks_from c s (half_size size))
      ≡ take n (blocks_from c s (half_size size)) ++ records_in (drop n (blocks_from c s (half_size size)))
  pub noted : (k : List ℕ) → map.get places k ≡ place_of (take n (blocks_from c s (half_size size))) k

pub read_none : (c : Content) (size s : ℕ) → HasRead c size s 0 map.empty
read_none c size s = record { read = refl; noted = λ k. map.get-empty (slice_cmp nat_cmp) k }

pub read_more : (c : Content) (size s n : ℕ) (old new : FinMap (slice_cmp nat_cmp) ℕ) (b : List ℕ)
    → n < half_size size → b ≡ c (s + n)
    → is_end b ≡ false → HasRead c size s n old → IsNoted old new (key_of b) (is_gone b) n
    → HasRead c size s (n + 1) new
read_more c size s n old new b within at stands h noted =
    let H = blocks_from c s (half_size size) in
    let is : get_or H n [] ≡ b = get_or-blocks_from c s (half_size size) n within ∙ sym at in
    let long = length-blocks_from c s (half_size size) in
    let fits : n < length H = omega arith in
    let front : take (n + 1) H ≡ take n H ++ b ∷ [] = take_more H n [] fits ∙ ap (λ x. take n H ++ x ∷ []) is in
    let rest : drop n H ≡ b ∷ drop (n + 1) H = drop_more H n [] fits ∙ ap (λ x. x ∷ drop (n + 1) H) is in
    let here : records_in (drop n H) ≡ b ∷ records_in (drop (n + 1) H) = ap records_in rest ∙ rw stands refl in
    record {
      read = h.read ∙ (ap (λ xs. take n H ++ xs) here
          ∙ (sym (append_assoc (take n H) (b ∷ []) (records_in (drop (n + 1) H)))
          ∙ ap (λ xs. xs ++ records_in (drop (n + 1) H)) (sym front)));
      noted = λ k. noted.at k ∙ (ap (λ o. cond (bytes_eq (key_of b) k) (cond (is_gone b) None (Some n)) o) (h.noted k)
          ∙ (ap (λ m. cond (bytes_eq (key_of b) k) (cond (is_gone b) None (Some m)) (place_of (take n H) k)) (sym
          (length-take-le n H (omega arith)))
          ∙ (sym (place-append (take n H) b k) ∙ ap (λ rs. place_of rs k) (sym front))));
    }

open_at : (c : Content) (size n : ℕ) (places : FinMap (slice_cmp nat_cmp) ℕ) → size < 2 ^ 32 → n ≤ half_size size
    → HasRead c size (start_of c size) n places
    → records_in (drop n (blocks_from c (start_of c size) (half_size size))) ≡ []
    → IsOpen c size (start_of c size) n places
unfolding records
open_at c size n places few within h none =
    let H = blocks_from c (start_of c size) (half_size size) in
    let is : records_in H ≡ take n H = h.read ∙ (ap (λ xs. take n H ++ xs) none ∙ append-nil (take n H)) in
    let long = length-blocks_from c (start_of c size) (half_size size) in
    record {
      few = few;
      begins = refl;
      ends = sym (ap length is ∙ length-take-le n H (omega arith));
      places_are = λ k. h.noted k ∙ ap (λ rs. place_of rs k) (sym is);
    }

-- up to the end mark
pub open_at_end : (c : Content) (size s n : ℕ) (places : FinMap (slice_cmp nat_cmp) ℕ) (b : List ℕ) → size < 2 ^ 32
    → s ≡ start_of c size
    → n < half_size size → HasRead c size s n places → b ≡ c (s + n) → is_end b ≡ true → IsOpen c size s n places
open_at_end c size s n places b few begins within h at ends =
    let H = blocks_from c s (half_size size) in
    let long = length-blocks_from c s (half_size size) in
    let is : get_or H n [] ≡ b = get_or-blocks_from c s (half_size size) n within ∙ sym at in
    let rest : drop n H ≡ b ∷ drop (n + 1) H = drop_more H n [] (omega arith) ∙ ap (λ x. x ∷ drop (n + 1) H) is in
    let none : records_in (drop n H) ≡ [] = ap records_in rest ∙ rw ends refl in
    let there = subst (λ i. records_in (drop n (blocks_from c i (half_size size))) ≡ []) begins none in
    subst (λ i. IsOpen c size i n places) (sym begins) (open_at c size n places few (omega arith) (subst
    (λ i. HasRead c size i n places) begins h) there)

-- up to the end of the half
pub open_whole : (c : Content) (size s n : ℕ) (places : FinMap (slice_cmp nat_cmp) ℕ) → size < 2 ^ 32
    → s ≡ start_of c size
    → n ≡ half_size size → HasRead c size s n places → IsOpen c size s n places
open_whole c size s n places few begins whole h =
    let H = blocks_from c (start_of c size) (half_size size) in
    let long = length-blocks_from c (start_of c size) (half_size size) in
    let none : records_in (drop n H) ≡ [] = ap records_in (drop_all n H (omega arith)) in
    subst (λ i. IsOpen c size i n places) (sym begins) (open_at c size n places few (omega arith) (subst
    (λ i. HasRead c size i n places) begins h) none)
