-- What a chunk that is put does to the bytes of a file.
use Rattle.std.proofs.Common.{◌≡◌, ◌≢◌, ◌∙◌, ◌⊎◌, inl, inr, ◌+◌, ◌-◌, ◌*◌, ◌++◌, ◌<◌, ◌≤◌, ◌^◌, ℕ, suc, zero, List, [], ◌∷◌, Option, Some, None, IsSome, IsSomeAnd, length, take, drop, replicate, refl, sym, ap, subst, arith}
use Rattle.std.specs.Prelude.{min, max, option_map}
use Rattle.std.proofs.lemmas.List.{append_assoc, append-nil, length-append, length-take, length-drop, drop-append-le, take-append-le, drop_at}
use Rattle.std.proofs.lemmas.Nat.{from_be_bytes-to_be_bytes_4}
use Rattle.std.specs.Int.{to_be_bytes, from_be_bytes, w32}
use Rattle.nfs2_types.specs.Bytes.{resized, overwritten}
use Rattle.log_segments.specs.Newest.{find}
use Rattle.log_records.specs.Layout.{chunk_key, value_of, chunk_in}
use Rattle.log_tree.specs.Held.{Records, chunk_and, bytes_from, bytes_of}
use Rattle.log_store.specs.Store.{HasBefore, Puts, PutsChunk, KeepsOthers}
use Rattle.server_trait.proofs.TreeLaws.{one_or_not}
use Rattle.log_files.specs.Chunked.{IsChunked, bytes_in, chunks_of}

-- PIECES

-- a piece among bytes, or at their end
pub overwritten_is : (at : ℕ) (piece bytes : List ℕ) → at ≤ length bytes
    → overwritten at piece bytes ≡ take at bytes ++ (piece ++ drop (at + length piece) bytes)
overwritten_is at piece bytes within =
    let none : at - length bytes ≡ 0 = omega arith in
    append_assoc (resized at bytes) piece (drop (at + length piece) bytes)
    ∙ ap (λ xs. xs ++ (piece ++ drop (at + length piece) bytes)) (ap (λ n. take at bytes ++ replicate n 0) none
    ∙ append-nil (take at bytes))

pub take_behind : (front rest : List ℕ) (n k : ℕ) → n ≡ length front + k → take n (front ++ rest) ≡ front ++ take k rest
take_behind [] rest n k is = let e : n ≡ k = omega arith in ap (λ m. take m rest) e
take_behind (x ∷ front) rest zero k is = absurd (omega arith)
take_behind (x ∷ front) rest (suc n) k is = ap (λ xs. x ∷ xs) (take_behind front rest n k (omega arith))

pub drop_behind : (front rest : List ℕ) (n k : ℕ) → n ≡ length front + k → drop n (front ++ rest) ≡ drop k rest
drop_behind [] rest n k is = let e : n ≡ k = omega arith in ap (λ m. drop m rest) e
drop_behind (x ∷ front) rest zero k is = absurd (omega arith)
drop_behind (x ∷ front) rest (suc n) k is = drop_behind front rest n k (omega arith)

-- a piece inside the middle part, or at its end with nothing behind
pub patched_middle : (front middle back piece : List ℕ) (at offset : ℕ) → offset ≡ length front + at
    → at ≤ length middle
    → (at + length piece ≤ length middle) ⊎ (back ≡ [])
    → front ++ (overwritten at piece middle ++ back) ≡ overwritten offset piece (front ++ (middle ++ back))
patched_middle front middle back piece at offset is within fits =
    let whole = front ++ (middle ++ back) in
    let far : offset ≤ length whole = omega (arith, length-append front (middle ++ back), length-append middle back) in
    let head : take offset whole ≡ front ++ take at middle =
    take_behind front (middle ++ back) offset at is ∙ ap (λ xs. front ++ xs) (take-append-le at middle back within) in
    let tail : drop (offset + length piece) whole ≡ drop (at + length piece) middle ++ back =
    drop_behind front (middle ++ back) (offset + length piece) (at + length piece) (omega arith)
    ∙ elim fits [
      | inl small ↦ drop-append-le (at + length piece) middle back small
      | inr none ↦ ap (λ xs. drop (at + length piece) (middle ++ xs)) none
          ∙ (ap (drop (at + length piece)) (append-nil middle)
          ∙ (sym (append-nil (drop (at + length piece) middle))
          ∙ ap (λ xs. drop (at + length piece) middle ++ xs) (sym none)))
    ] in
    let rest = drop (at + length piece) middle in
    ap (λ xs. front ++ (xs ++ back)) (overwritten_is at piece middle within)
    ∙ (ap (λ xs. front ++ xs) (append_assoc (take at middle) (piece ++ rest) back
    ∙ ap (λ xs. take at middle ++ xs) (append_assoc piece rest back))
    ∙ (sym (append_assoc front (take at middle) (piece ++ (rest ++ back)))
    ∙ (ap (λ xs. xs ++ (piece ++ (rest ++ back))) (sym head) ∙ (ap (λ xs. take offset whole ++ (piece ++ xs)) (sym tail)
    ∙ sym (overwritten_is offset piece whole far)))))

pub length-overwritten : (at : ℕ) (piece bytes : List ℕ) → at ≤ length bytes
    → length (overwritten at piece bytes) ≡ max (length bytes) (at + length piece)
length-overwritten at piece bytes within =
    ap length (overwritten_is at piece bytes within)
    ∙ omega (
      arith,
      length-append (take at bytes) (piece ++ drop (at + length piece) bytes),
      length-append piece (drop (at + length piece) bytes),
      length-take at bytes,
      length-drop (at + length piece) bytes,
    )

-- CHUNKS

-- the chunks before a place are full
pub length-front : (live : Records) (id : List ℕ) (size : ℕ) → IsChunked live id size → (i p : ℕ)
    → 480 * (p + i) ≤ size → length (bytes_from i live id p) ≡ 480 * i
unfolding bytes_from
length-front live id size h zero p within = refl
length-front live id size h (suc i) p within =
    let rest = length-front live id size h i (p + 1) (omega arith) in
    elim (find (chunk_key id p) live) as (λ (o : Option (List ℕ)). IsSomeAnd o (λ r. length (chunk_in (value_of r))
    ≡ min 480 (size - 480 * p))
    → length (chunk_and o (bytes_from i live id (p + 1))) ≡ 480 * suc i) [
      | None ↦ (λ w. absurd w)
      | Some r ↦ (λ w. omega (arith, length-append (chunk_in (value_of r)) (bytes_from i live id (p + 1))))
    ] (h.there p (omega arith))

-- nothing stands behind the last chunk
pub none_behind : (live : Records) (id : List ℕ) (most p : ℕ) → find (chunk_key id p) live ≡ None
    → bytes_from most live id p ≡ []
unfolding bytes_from
none_behind live id zero p none = refl
none_behind live id (suc most) p none = ap (λ o. chunk_and o (bytes_from most live id (p + 1))) none

pub has_before : (live : Records) (id : List ℕ) (size place : ℕ) → IsChunked live id size → 480 * place ≤ size
    → HasBefore live id place
has_before live id size place h within p below =
    elim (find (chunk_key id p) live) as (λ (o : Option (List ℕ)). IsSomeAnd o (λ r. length (chunk_in (value_of r))
    ≡ min 480 (size - 480 * p)) → IsSome o)
    [ None ↦ (λ w. absurd w) | Some r ↦ (λ w. refl) ] (h.there p (omega arith))

-- a number is below another or not
pub below_or_not : (a b : ℕ) → (a < b) ⊎ (b ≤ a)
below_or_not a zero = inr (omega arith)
below_or_not zero (suc b) = inl (omega arith)
below_or_not (suc a) (suc b) = elim (below_or_not a b) as (λ _. (suc a < suc b) ⊎ (suc b ≤ suc a)) [
  | inl l ↦ inl
      (omega arith)
  | inr g ↦ inr (omega arith)
]

some_long : (o : Option (List ℕ)) (n : ℕ) → IsSomeAnd o (λ r. length (chunk_in (value_of r)) ≡ n)
    → length (bytes_in o) ≡ n
some_long None n h = absurd h
some_long (Some r) n h = h

pub length-chunk : (live : Records) (id : List ℕ) (size place : ℕ) → IsChunked live id size → 480 * place ≤ size
    → place < 2 ^ 32
    → length (bytes_in (find (chunk_key id place) live)) ≡ min 480 (size - 480 * place)
length-chunk live id size place h within few = elim (below_or_not (480 * place) size) [
  | inl l ↦ some_long (find (chunk_key id place) live) (min 480 (size - 480 * place)) (h.there place l)
  | inr g ↦ ap (λ o. length (bytes_in o)) (h.absent place g few) ∙ omega arith
]

-- what stands at a place and behind it
pub chunk_and_is : (live : Records) (id : List ℕ) (size place most : ℕ) → IsChunked live id size
    → 480 * place ≤ size → place < 2 ^ 31
    → chunk_and (find (chunk_key id place) live) (bytes_from most live id (place + 1))
    ≡ bytes_in (find (chunk_key id place) live) ++ bytes_from most live id (place + 1)
chunk_and_is live id size place most h within few =
    elim (find (chunk_key id place) live) as (λ o. find (chunk_key id place) live ≡ o
    → chunk_and o (bytes_from most live id (place + 1)) ≡ bytes_in o ++ bytes_from most live id (place + 1)) [
      | None ↦ (λ w.
          let none : bytes_from most live id (place + 1)
          ≡ [] = none_behind live id most (place + 1) (h.absent (place + 1) (elim (below_or_not
          (480 * place) size) [
            | inl l ↦ absurd (let some : IsSomeAnd {T = List ℕ} None (λ r. length (chunk_in (value_of r))
                ≡ min 480 (size - 480 * place)) = subst (λ o. IsSomeAnd o (λ r. length (chunk_in (value_of r))
                ≡ min 480 (size - 480 * place))) w (h.there place l) in some)
            | inr g ↦ omega arith
          ]) (omega arith)) in sym none)
      | Some r ↦ (λ w. refl)
    ] refl

-- a chunk that has room is the last
pub last_or_full : (live : Records) (id : List ℕ) (size place most at count : ℕ) → IsChunked live id size
    → 480 * place ≤ size → place < 2 ^ 31
    → at + count ≤ 480 → (at + count ≤ length (bytes_in (find (chunk_key id place) live))) ⊎
    (bytes_from most live id (place + 1) ≡ [])
last_or_full live id size place most at count h within few fits =
    let long = length-chunk live id size place h within (omega arith) in
    elim (below_or_not (480 * (place + 1)) size) [
      | inl l ↦ inl (omega arith)
      | inr g ↦ inr (none_behind live id most (place + 1) (h.absent (place + 1) g (omega arith)))
    ]

pub chunk_apart : (id : List ℕ) (p q : ℕ) → length id ≡ 8 → p < 2 ^ 32 → q < 2 ^ 32 → p ≢ q
    → chunk_key id p ≢ chunk_key id q
chunk_apart id p q eight few_p few_q ne e =
    let tails : id ++ to_be_bytes w32 p ≡ id ++ to_be_bytes w32 q = cc e in
    let words : to_be_bytes w32 p ≡ to_be_bytes w32 q =
    sym (drop_at id (to_be_bytes w32 p) 8 eight) ∙ (ap (drop 8) tails ∙ drop_at id (to_be_bytes w32 q) 8 eight) in
    ne (sym (from_be_bytes-to_be_bytes_4 p few_p) ∙ (ap (from_be_bytes w32) words
    ∙ from_be_bytes-to_be_bytes_4 q few_q))

-- A WRITE

module _ (live new : Records) (id : List ℕ) (size offset place at : ℕ) (piece : List ℕ) (h : IsChunked live id size)
    (among : offset ≤ size)
    (is : offset ≡ 480 * place + at) (inside : at + length piece ≤ 480) (some : 1 ≤ length piece)
    (end : offset + length piece ≤ 8388608)
    (before : bytes_of live id ≡ bytes_from place live id 0 ++ chunk_and (find (chunk_key id place) live)
    (bytes_from (17476 - place) live id (place + 1)))
    (put : PutsChunk live id place (overwritten at piece (bytes_in (find (chunk_key id place) live))) new)
    (others : KeepsOthers live (chunk_key id place) new) (eight : length id ≡ 8) where
  abbrev old : List ℕ
  old = bytes_in (find (chunk_key id place) live)

  old_long : length old ≡ min 480 (size - 480 * place)
  old_long = length-chunk live id size place h (omega arith) (omega (arith, h.few))

  pub wrote : bytes_of new id ≡ overwritten offset piece (bytes_of live id)
  wrote =
      let few = h.few in
      let front = length-front live id size h place 0 (omega arith) in
      put.bytes_are
      ∙ (patched_middle (bytes_from place live id 0) old (bytes_from (17476 - place) live id
      (place + 1)) piece at offset (omega arith) (omega (arith, old_long))
      (last_or_full live id size place (17476 - place) at (length piece) h (omega arith) (omega arith) inside)
      ∙ ap (overwritten offset piece) (ap (λ xs. bytes_from place live id 0 ++ xs) (sym
      (chunk_and_is live id size place (17476 - place) h (omega arith) (omega arith))) ∙ sym before))

  other : (p : ℕ) → p < 2 ^ 32 → p ≢ place → find (chunk_key id p) new ≡ find (chunk_key id p) live
  other p few ne = others (chunk_key id p) (λ e. chunk_apart id p place eight few (omega (arith, h.few)) ne e)

  chunk_long : IsSomeAnd (find (chunk_key id place) new) (λ r. length (chunk_in (value_of r))
      ≡ max (length old) (at + length piece))
  chunk_long = elim (find (chunk_key id place) new) as (λ (o : Option (List ℕ)). option_map (λ r. chunk_in
      (value_of r)) o ≡ Some (overwritten at piece old)
      → IsSomeAnd o (λ r. length (chunk_in (value_of r)) ≡ max (length old) (at + length piece))) [
        | None ↦ (λ e. cc)
        | Some r ↦ (λ e. let bytes : chunk_in (value_of r) ≡ overwritten at piece old = cc in ap length bytes
            ∙ length-overwritten at piece old (omega (arith, old_long)))
      ] put.here

  longer : (o : Option (List ℕ)) (m n : ℕ) → m ≡ n → IsSomeAnd o (λ r. length (chunk_in (value_of r)) ≡ m)
      → IsSomeAnd o (λ r. length (chunk_in (value_of r)) ≡ n)
  longer o m n e w = subst (λ k. IsSomeAnd o (λ r. length (chunk_in (value_of r)) ≡ k)) e w

  pub chunked : IsChunked new id (max size (offset + length piece))
  chunked = record {
    few = omega (arith, h.few);
    there = λ p below. elim (one_or_not p place) [
      | inl e ↦ subst (λ q. IsSomeAnd (find (chunk_key id q) new) (λ r. length (chunk_in (value_of r))
          ≡ min 480 (max size (offset + length piece) - 480 * q))) (sym e)
          (longer (find (chunk_key id place) new) (max (length old) (at + length piece)) (min 480 (max size
          (offset + length piece) - 480 * place)) (omega (arith, old_long)) chunk_long)
      | inr ne ↦
          let near : 480 * p < size = omega (arith, h.few) in
          subst (λ o. IsSomeAnd o (λ r. length (chunk_in (value_of r))
          ≡ min 480 (max size (offset + length piece) - 480 * p))) (sym (other p (omega (arith, h.few)) ne))
          (longer (find (chunk_key id p) live) (min 480 (size - 480 * p)) (min 480 (max size
          (offset + length piece) - 480 * p)) (omega arith) (h.there p near))
    ];
    absent = λ p past few. other p few (λ e. omega arith) ∙ h.absent p (omega arith) few;
  }

-- there is one chunk more only where the bytes ended in front of it
pub chunks_more : {X : Type 0} {read : List ℕ → X} {value : X} (live new : Records) (id : List ℕ)
    (size offset place at count : ℕ) → IsChunked live id size → offset ≤ size → offset ≡ 480 * place + at
    → at + count ≤ 480 → 1 ≤ count → Puts read live (chunk_key id place) value new
    → length new + chunks_of size ≤ length live + chunks_of (max size (offset + count))
chunks_more live new id size offset place at count h among is inside some put = elim (below_or_not (480 * place) size) [
  | inl l ↦
      let over = put.over (chunk_there (find (chunk_key id place) live) (min 480 (size - 480 * place)) (h.there place l)) in
      omega arith
  | inr g ↦ let more = put.more in omega arith
]
  where
    chunk_there : (o : Option (List ℕ)) (n : ℕ) → IsSomeAnd o (λ r. length (chunk_in (value_of r)) ≡ n) → IsSome o
    chunk_there None n h = absurd h
    chunk_there (Some r) n h = refl

-- NOTHING

-- no bytes stand in no chunks
pub chunked_none : (live : Records) (id : List ℕ) → live ≡ [] → IsChunked live id 0
chunked_none live id none = record {
  few = omega arith;
  there = λ p below. absurd (omega arith);
  absent = λ p past few. ap (find (chunk_key id p)) none;
}
