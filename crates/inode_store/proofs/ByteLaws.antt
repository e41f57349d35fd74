-- The bytes of blocks: a part of them, and a part written over.
use Rattle.std.proofs.Common.{◌≡◌, ◌≢◌, ℕ, ◌+◌, ◌-◌, ◌*◌, ◌/◌, ◌%◌, ◌<◌, ◌≤◌, List, ◌++◌, length, get_or, take, drop, replicate, min, max, ◌⊎◌, refl, sym, ap, ◌∙◌, inl, inr, arith}
use Rattle.std.proofs.lemmas.Bool.{cases_eq, cases_lt}
use Rattle.std.proofs.lemmas.List.{same_lists, get_or_default, length-take, length-drop, get_or-take, get_or-drop, get_or_append_left, get_or-append_right, length-append, length-take-le, append-nil, length-replicate, get_or-replicate, get_or_past}
use Rattle.std.proofs.lemmas.List.FromFn.{length-map-range_with_len, get_or-map-range_with_len}
use Rattle.nfs2_types.specs.Bytes.{resized, overwritten}
use Rattle.pointer_tree.specs.Bytes.{byte_at, bytes_from}

pub length-bytes_from : (f : ℕ → List ℕ) (a n : ℕ) → length (bytes_from f a n) ≡ n
unfolding bytes_from
length-bytes_from f a n = length-map-range_with_len (byte_at f) a n

pub get_or-bytes_from : (f : ℕ → List ℕ) (a n k p : ℕ) → k < n → a + k ≡ p → get_or (bytes_from f a n) k 0 ≡ byte_at f p
unfolding bytes_from
get_or-bytes_from f a n k p l e = get_or-map-range_with_len (byte_at f) a n k p 0 l e

-- lists of bytes are the same where their lengths and bytes are
pub same_bytes : (xs ys : List ℕ) (n : ℕ) → length xs ≡ n → length ys ≡ n →
    ((k : ℕ) → k < n → get_or xs k 0 ≡ get_or ys k 0) → xs ≡ ys
same_bytes xs ys n ex ey h = same_lists xs ys (ex ∙ sym ey) (λ k d l.
    let lx : k < length xs = l in
    let ly : k < length ys = omega (arith, lx, ex, ey) in
    get_or_default xs k d 0 lx ∙ h k (omega (arith, lx, ex)) ∙ sym (get_or_default ys k d 0 ly))

-- a part of the bytes
pub part_of_bytes : (f : ℕ → List ℕ) (size from count first last : ℕ) → first ≡ min from size →
    last ≡ first + min count (size - first) →
    take count (drop from (bytes_from f 0 size)) ≡ bytes_from f first (last - first)
part_of_bytes f size from count first last ef el =
    let whole = length-bytes_from f 0 size in
    let rest = length-drop from (bytes_from f 0 size) in
    let part = length-take count (drop from (bytes_from f 0 size)) in
    same_bytes _ _ (last - first) (omega (arith, whole, rest, part, ef, el)) (length-bytes_from f first (last - first))
    (λ k l.
    let lc : k < count = omega (arith, ef, el, l) in
    let ls : from + k < size = omega (arith, ef, el, l) in
    get_or-take count (drop from (bytes_from f 0 size)) k 0 lc ∙ get_or-drop from (bytes_from f 0 size) k 0
    ∙ get_or-bytes_from f 0 size (from + k) (first + k) ls (omega (arith, ef, ls))
    ∙ sym (get_or-bytes_from f first (last - first) k (first + k) l refl))

-- A PART WRITTEN OVER

-- a list in three parts
get_or-first : (xs ys zs : List ℕ) (k : ℕ) → k < length xs → get_or (xs ++ ys ++ zs) k 0 ≡ get_or xs k 0
get_or-first xs ys zs k l = get_or_append_left (xs ++ ys) zs 0 k (omega (arith, l, length-append xs ys))
    ∙ get_or_append_left xs ys 0 k l

get_or-second : (xs ys zs : List ℕ) (n k : ℕ) → length xs ≡ n → n ≤ k → k < n + length ys →
    get_or (xs ++ ys ++ zs) k 0 ≡ get_or ys (k - n) 0
get_or-second xs ys zs n k e l h = get_or_append_left (xs ++ ys) zs 0 k (omega (arith, e, h, length-append xs ys))
    ∙ get_or-append_right xs ys n k 0 e l

get_or-third : (xs ys zs : List ℕ) (n k : ℕ) → length (xs ++ ys) ≡ n → n ≤ k →
    get_or (xs ++ ys ++ zs) k 0 ≡ get_or zs (k - n) 0
get_or-third xs ys zs n k e l = get_or-append_right (xs ++ ys) zs n k 0 e l

module _ (offset : ℕ) (part bytes : List ℕ) (inside : offset ≤ length bytes) where
  front : resized offset bytes ≡ take offset bytes
  front =
      let none : offset - length bytes ≡ 0 = omega arith in
      ap (λ (n : ℕ). take offset bytes ++ replicate n 0) none ∙ append-nil (take offset bytes)

  length-front : length (resized offset bytes) ≡ offset
  length-front = ap length front ∙ length-take-le offset bytes inside

  length-both : length (resized offset bytes ++ part) ≡ offset + length part
  length-both = length-append (resized offset bytes) part ∙ ap (λ (n : ℕ). n + length part) length-front

  pub length-overwritten : length (overwritten offset part bytes) ≡ max (length bytes) (offset + length part)
  length-overwritten =
      let all = length-append (resized offset bytes ++ part) (drop (offset + length part) bytes) in
      let both = length-both in
      let rest = length-drop (offset + length part) bytes in
      omega (arith, all, both, rest)

  pub overwritten_here : (k : ℕ) → offset ≤ k → k < offset + length part →
      get_or (overwritten offset part bytes) k 0 ≡ get_or part (k - offset) 0
  overwritten_here k l h = get_or-second (resized offset bytes) part (drop (offset + length part) bytes) offset k
      length-front l h

  pub overwritten_there : (k : ℕ) → (k < offset) ⊎ (offset + length part ≤ k) →
      get_or (overwritten offset part bytes) k 0 ≡ get_or bytes k 0
  overwritten_there k (inl l) =
      get_or-first (resized offset bytes) part (drop (offset + length part) bytes) k
      (let f = length-front in omega (arith, f, l))
      ∙ ap (λ (xs : List ℕ). get_or xs k 0) front ∙ get_or-take offset bytes k 0 l
  overwritten_there k (inr h) =
      let at : (offset + length part) + (k - (offset + length part)) ≡ k = omega arith in
      get_or-third (resized offset bytes) part (drop (offset + length part) bytes) (offset + length part) k
      length-both h
      ∙ get_or-drop (offset + length part) bytes (k - (offset + length part)) 0
      ∙ ap (λ (n : ℕ). get_or bytes n 0) at

-- One block of a file is written over in part: block `index` from the offset's place in it on.
module _ (f h : ℕ → List ℕ) (size offset : ℕ) (part : List ℕ) (inside : offset ≤ size)
    (within : offset % 512 + length part ≤ 512)
    (other : (k : ℕ) → 512 * k < size → k ≢ offset / 512 → h k ≡ f k)
    (here : (r : ℕ) → offset % 512 ≤ r → r < offset % 512 + length part →
    get_or (h (offset / 512)) r 0 ≡ get_or part (r - offset % 512) 0)
    (there : (r : ℕ) → 512 * (offset / 512) + r < size → (r < offset % 512) ⊎ (offset % 512 + length part ≤ r) →
    get_or (h (offset / 512)) r 0 ≡ get_or (f (offset / 512)) r 0) where
  byte_here : (p : ℕ) → offset ≤ p → p < offset + length part → byte_at h p ≡ get_or part (p - offset) 0
  byte_here p l u =
      let block : p / 512 ≡ offset / 512 = omega arith in
      let place : p % 512 ≡ offset % 512 + (p - offset) = omega arith in
      let from : (offset % 512 + (p - offset)) - offset % 512 ≡ p - offset = omega arith in
      ap (λ (k : ℕ). get_or (h k) (p % 512) 0) block ∙ ap (λ (r : ℕ). get_or (h (offset / 512)) r 0) place
      ∙ here (offset % 512 + (p - offset)) (omega arith) (omega arith) ∙ ap (λ (r : ℕ). get_or part r 0) from

  byte_there : (p : ℕ) → p < size → (p < offset) ⊎ (offset + length part ≤ p) → byte_at h p ≡ byte_at f p
  byte_there p l apart = elim (cases_eq (p / 512) (offset / 512)) [
    | inr ne ↦ ap (λ (b : List ℕ). get_or b (p % 512) 0) (other (p / 512) (omega arith) ne)
    | inl e ↦
        ap (λ (k : ℕ). get_or (h k) (p % 512) 0) e
        ∙ there (p % 512) (omega arith) (elim apart [
          | inl u ↦ inl (omega arith)
          | inr u ↦ inr (omega arith)
        ])
        ∙ ap (λ (k : ℕ). get_or (f k) (p % 512) 0) (sym e)
  ]

  pub bytes_from-written : bytes_from h 0 (max size (offset + length part)) ≡ overwritten offset part
      (bytes_from f 0 size)
  bytes_from-written =
      let old = length-bytes_from f 0 size in
      let inside' : offset ≤ length (bytes_from f 0 size) = omega (arith, old) in
      let size' = max size (offset + length part) in
      let long = length-overwritten offset part (bytes_from f 0 size) inside' in
      same_bytes _ _ size' (length-bytes_from h 0 size') (omega (arith, long, old)) (λ p l.
      get_or-bytes_from h 0 size' p p l (omega arith) ∙ elim (cases_lt p offset) [
        | inl u ↦ byte_there p (omega arith) (inl u)
            ∙ sym (overwritten_there offset part (bytes_from f 0 size) inside' p (inl u)
            ∙ get_or-bytes_from f 0 size p p (omega arith) (omega arith))
        | inr u ↦ elim (cases_lt p (offset + length part)) [
          | inl v ↦ byte_here p u v ∙ sym (overwritten_here offset part (bytes_from f 0 size) inside' p u v)
          | inr v ↦
              let old_in : p < size = omega (arith, l, v) in
              byte_there p old_in (inr v)
              ∙ sym (overwritten_there offset part (bytes_from f 0 size) inside' p (inr v)
              ∙ get_or-bytes_from f 0 size p p old_in (omega arith))
        ]
      ])

-- BYTES CUT, OR FILLED WITH ZEROS

pub length-resized : (n : ℕ) (b : List ℕ) → length (resized n b) ≡ n
length-resized n b =
    let cut = length-take n b in
    let filled = length-replicate {A = ℕ} (n - length b) 0 in
    let all = length-append (take n b) (replicate (n - length b) 0) in
    omega (arith, cut, filled, all)

-- a byte past the end of a list reads as 0, as one that was filled
pub get_or-resized : (n : ℕ) (b : List ℕ) (k : ℕ) → k < n → get_or (resized n b) k 0 ≡ get_or b k 0
get_or-resized n b k l = elim (cases_lt k (length b)) [
  | inl u ↦
      get_or_append_left (take n b) (replicate (n - length b) 0) 0 k (let cut = length-take n b in
      omega (arith, cut, l, u))
      ∙ get_or-take n b k 0 l
  | inr u ↦
      let cut = length-take n b in
      let short : length (take n b) ≡ length b = omega (arith, cut, l, u) in
      get_or-append_right (take n b) (replicate (n - length b) 0) (length b) k 0 short u
      ∙ get_or-replicate (n - length b) (k - length b) 0 0 (omega arith) ∙ sym (get_or_past b k 0 u)
]

-- the bytes of blocks are those of others up to a size, and zeros from there on
pub bytes_from-resized : (f h : ℕ → List ℕ) (old size : ℕ) →
    ((p : ℕ) → p < size → p < old → byte_at h p ≡ byte_at f p) → ((p : ℕ) → p < size → old ≤ p → byte_at h p ≡ 0) →
    bytes_from h 0 size ≡ resized size (bytes_from f 0 old)
bytes_from-resized f h old size same zero_from =
    same_bytes _ _ size (length-bytes_from h 0 size) (length-resized size (bytes_from f 0 old)) (λ p l.
    get_or-bytes_from h 0 size p p l (omega arith) ∙ elim (cases_lt p old) [
      | inl u ↦ same p l u ∙ sym (get_or-resized size (bytes_from f 0 old) p l
          ∙ get_or-bytes_from f 0 old p p u (omega arith))
      | inr u ↦ zero_from p l u ∙ sym (get_or-resized size (bytes_from f 0 old) p l
          ∙ get_or_past (bytes_from f 0 old) p 0 (let n = length-bytes_from f 0 old in omega (arith, n, u)))
    ])

-- zeros written behind bytes, and then more of them
pub resized-filled : (n k size : ℕ) (b : List ℕ) → length b ≡ n → n + k ≤ size →
    resized size (overwritten n (replicate k 0) b) ≡ resized size b
resized-filled n k size b e l =
    same_bytes _ _ size (length-resized size _) (length-resized size b) (λ p h.
    get_or-resized size (overwritten n (replicate k 0) b) p h ∙ filled p (cases_lt p n)
    ∙ sym (get_or-resized size b p h))
  where
    some : length (replicate {A = ℕ} k 0) ≡ k
    some = length-replicate k 0

    filled : (p : ℕ) → (p < n) ⊎ (n ≤ p) → get_or (overwritten n (replicate k 0) b) p 0 ≡ get_or b p 0
    filled p (inl u) = overwritten_there n (replicate k 0) b (omega arith) p (inl u)
    filled p (inr u) = elim (cases_lt p (n + k)) [
      | inl v ↦ overwritten_here n (replicate k 0) b (omega arith) p u (let s = some in omega (arith, s, v))
          ∙ get_or-replicate k (p - n) 0 0 (omega arith) ∙ sym (get_or_past b p 0 (omega arith))
      | inr v ↦ overwritten_there n (replicate k 0) b (omega arith) p (inr (let s = some in omega (arith, s, v)))
    ]

-- zeros written behind bytes, and no more
pub overwritten-filled : (n k size : ℕ) (b : List ℕ) → length b ≡ n → n + k ≡ size →
    overwritten n (replicate k 0) b ≡ resized size b
overwritten-filled n k size b e l =
    let some = length-replicate {A = ℕ} k 0 in
    let long = length-overwritten n (replicate k 0) b (omega (arith, e)) in
    same_bytes _ _ size (omega (arith, long, some, e, l)) (length-resized size b) (λ p h.
    sym (get_or-resized size (overwritten n (replicate k 0) b) p h)
    ∙ ap (λ (xs : List ℕ). get_or xs p 0) (resized-filled n k size b e (omega (arith, l))))
