-- What chunks that are read in a row are of the bytes of a file.
use Rattle.std.proofs.Common.{◌≡◌, ◌∙◌, inl, inr, ◌+◌, ◌-◌, ◌*◌, ◌++◌, ◌<◌, ◌≤◌, ℕ, suc, zero, List, [], Option, Some, None, IsSome, IsSomeAnd, length, take, drop, refl, sym, ap, subst, arith, add-one}
use Rattle.std.specs.Prelude.{min}
use Rattle.std.proofs.lemmas.List.{append_assoc, append-nil, length-append, length-drop, take_all, drop_all, drop-append-le, take-append-le}
use Rattle.log_segments.specs.Newest.{find}
use Rattle.log_records.specs.Layout.{chunk_key, value_of, chunk_in}
use Rattle.log_tree.specs.Held.{Records, chunk_and, bytes_from, bytes_of}
use Rattle.log_files.specs.Chunked.{AreThere, IsChunked, bytes_in}
use Rattle.log_files.proofs.ChunkLaws.{below_or_not, drop_behind, none_behind}

-- one chunk more
more : (live : Records) (id : List ℕ) (n p q : ℕ) → q ≡ p + n → ((j : ℕ) → p ≤ j → j < q
    → IsSome (find (chunk_key id j) live))
    → bytes_from (suc n) live id p ≡ bytes_from n live id p ++ bytes_in (find (chunk_key id q) live)
unfolding bytes_from
more live id zero p q at there =
    let e : p ≡ q = omega arith in
    ap (λ i. chunk_and (find (chunk_key id i) live) []) e
    ∙ elim (find (chunk_key id q) live) as (λ o. chunk_and o []
    ≡ bytes_in o) [ None ↦ refl | Some r ↦ append-nil (chunk_in (value_of r)) ]
more live id (suc n) p q at there =
    let rest = more live id n (p + 1) q (omega arith) (λ j low high. there j (omega arith) high) in
    let last = bytes_in (find (chunk_key id q) live) in
    elim (find (chunk_key id p) live) as (λ (o : Option (List ℕ)). IsSome o
    → chunk_and o (bytes_from (suc n) live id (p + 1)) ≡ chunk_and o (bytes_from n live id (p + 1)) ++ last) [
      | None ↦ (λ s. cc)
      | Some r ↦ (λ s. ap (λ xs. chunk_in (value_of r) ++ xs) rest
          ∙ sym (append_assoc (chunk_in (value_of r)) (bytes_from n live id (p + 1)) last))
    ] (there p (omega arith) (omega arith))

pub bytes_more : (live : Records) (id : List ℕ) (n p count : ℕ) → n < count → AreThere live id p count
    → bytes_from (n + 1) live id p ≡ bytes_from n live id p ++ bytes_in (find (chunk_key id (p + n)) live)
bytes_more live id n p count below there = rw add-one (more live id n p (p + n) refl (λ j low high.
    let e : j ≡ p + (j - p) = omega arith in subst (λ i. IsSome (find (chunk_key id i) live)) (sym e) (there (j - p)
    (omega arith))))

-- chunks that are there, and those behind them
pub parted : (live : Records) (id : List ℕ) (i k m p q : ℕ) → m ≡ i + k → q ≡ p + i → ((j : ℕ) → p ≤ j → j < q
    → IsSome (find (chunk_key id j) live))
    → bytes_from m live id p ≡ bytes_from i live id p ++ bytes_from k live id q
unfolding bytes_from
parted live id zero k m p q whole at there = let e : m ≡ k = omega arith in let f : p
    ≡ q = omega arith in ap (λ n. bytes_from n live id p) e ∙ ap (bytes_from k live id) f
parted live id (suc i) k zero p q whole at there = absurd (omega arith)
parted live id (suc i) k (suc m) p q whole at there =
    let rest : bytes_from m live id (p + 1) ≡ bytes_from i live id (p + 1) ++ bytes_from k live id q =
    parted live id i k m (p + 1) q (omega arith) (omega arith) (λ j low high. there j (omega arith) high) in
    elim (find (chunk_key id p) live) as (λ (o : Option (List ℕ)). IsSome o
    → chunk_and o (bytes_from m live id (p + 1))
    ≡ chunk_and o (bytes_from i live id (p + 1)) ++ bytes_from k live id q) [
      | None ↦ (λ s. cc)
      | Some b ↦ (λ s. ap (λ xs. chunk_in (value_of b) ++ xs) rest
          ∙ sym (append_assoc (chunk_in (value_of b)) (bytes_from i live id (p + 1)) (bytes_from k live id q)))
    ] (there p (omega arith) (omega arith))

-- how many bytes stand in so many chunks
pub length-part : (live : Records) (id : List ℕ) (size : ℕ) → IsChunked live id size → (n p : ℕ) → p + n ≤ 17477
    → length (bytes_from n live id p) ≡ min (480 * n) (size - 480 * p)
unfolding bytes_from
length-part live id size h zero p few = omega arith
length-part live id size h (suc n) p few =
    let rest = length-part live id size h n (p + 1) (omega arith) in
    elim (below_or_not (480 * p) size) [
      | inl l ↦ elim (find (chunk_key id p) live) as (λ (o : Option (List ℕ)). IsSomeAnd o (λ r. length (chunk_in
          (value_of r)) ≡ min 480 (size - 480 * p))
          → length (chunk_and o (bytes_from n live id (p + 1))) ≡ min (480 * suc n) (size - 480 * p)) [
            | None ↦ (λ w. absurd w)
            | Some r ↦ (λ w. omega (arith, length-append (chunk_in (value_of r)) (bytes_from n live id (p + 1))))
          ] (h.there p l)
      | inr g ↦ ap (λ o. length (chunk_and o (bytes_from n live id (p + 1)))) (h.absent p g (omega arith)) ∙ omega arith
    ]

pub length-bytes : (live : Records) (id : List ℕ) (size : ℕ) → IsChunked live id size → length (bytes_of live id) ≡ size
unfolding bytes_of
length-bytes live id size h = let few = h.few in length-part live id size h 17477 0 (omega arith) ∙ omega arith

-- nothing is read past the end, or where nothing is asked for
pub read_none : (live : Records) (id : List ℕ) (size offset count end : ℕ) → IsChunked live id size
    → end ≡ min size (offset + count) → end ≤ offset
    → [] ≡ take count (drop offset (bytes_of live id))
read_none live id size offset count end h is past = elim (below_or_not offset size) [
  | inl l ↦ (let none : count ≡ 0 = omega arith in sym (ap (λ n. take n (drop offset (bytes_of live id))) none))
  | inr g ↦ sym (ap (take count) (drop_all offset (bytes_of live id) (omega (arith, length-bytes live id size h)))
      ∙ take_all count [] (omega arith))
]

pub there_is : (live : Records) (id : List ℕ) (size : ℕ) → IsChunked live id size → (j : ℕ) → 480 * j < size
    → IsSome (find (chunk_key id j) live)
there_is live id size h j below =
    elim (find (chunk_key id j) live) as (λ (o : Option (List ℕ)). IsSomeAnd o (λ r. length (chunk_in (value_of r))
    ≡ min 480 (size - 480 * j)) → IsSome o)
    [ None ↦ (λ w. absurd w) | Some r ↦ (λ w. refl) ] (h.there j below)

pub are_there : (live : Records) (id : List ℕ) (size first chunks : ℕ) → IsChunked live id size
    → 480 * (first + chunks) < size + 480 → AreThere live id first chunks
are_there live id size first chunks h tight k below = there_is live id size h (first + k) (omega arith)

-- what is cut out of the chunks that are read
pub read_is : (live : Records) (id : List ℕ) (size offset count end first chunks start : ℕ)
    → IsChunked live id size → end ≡ min size (offset + count) → offset < end
    → offset ≡ 480 * first + start → start < 480 → end ≤ 480 * (first + chunks) → 480 * (first + chunks) < end + 480
    → take (end - offset) (drop start (bytes_from chunks live id first)) ≡ take count (drop offset (bytes_of live id))
unfolding bytes_of
read_is live id size offset count end first chunks start h is some at low reach tight =
    let few = h.few in
    let B = bytes_from chunks live id first in
    let R = bytes_from (17477 - (first + chunks)) live id (first + chunks) in
    let F = bytes_from first live id 0 in
    let whole : bytes_from 17477 live id 0 ≡ F ++ (B ++ R) =
    parted live id first (17477 - first) 17477 0 first (omega arith) (omega arith)
    (λ j a b. there_is live id size h j (omega arith))
    ∙ ap (λ xs. F ++ xs) (parted live id chunks (17477 - (first + chunks)) (17477 - first) first (first + chunks)
    (omega arith) refl (λ j a b. there_is live id size h j (omega arith))) in
    let front = length-part live id size h first 0 (omega arith) in
    let part = length-part live id size h chunks first (omega arith) in
    let D = drop start B in
    let long = length-drop start B in
    let cut : drop offset (bytes_from 17477 live id 0) ≡ D ++ R =
    ap (drop offset) whole ∙ (drop_behind F (B ++ R) offset start (omega arith)
    ∙ drop-append-le start B R (omega arith)) in
    elim (below_or_not size (offset + count)) [
      | inl l ↦ (
          let none : R ≡ [] = none_behind live id (17477 - (first + chunks)) (first + chunks) (h.absent
          (first + chunks) (omega arith) (omega arith)) in
          take_all (end - offset) D (omega arith)
          ∙ (sym (take_all count D (omega arith)) ∙ (ap (take count) (sym (append-nil D)
          ∙ ap (λ xs. D ++ xs) (sym none)) ∙ ap (take count) (sym cut))))
      | inr g ↦ (
          let same : end - offset ≡ count = omega arith in
          ap (λ n. take n D) same ∙ (sym (take-append-le count D R (omega arith)) ∙ ap (take count) (sym cut)))
    ]

pub no_chunks : (live : Records) (id : List ℕ) (p : ℕ) → bytes_from 0 live id p ≡ []
unfolding bytes_from
no_chunks live id p = refl
