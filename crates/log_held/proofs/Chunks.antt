-- Chunks that stand behind full ones, up to the first that is absent.
use Rattle.std.proofs.Common.{inl, inr, ◌≡◌, ◌∙◌, ◌⊎◌, ◌+◌, ◌-◌, ◌*◌, ◌<◌, ◌≤◌, ◌^◌, ℕ, suc, zero, List, length, Option, Some, None, IsSome, IsSomeAnd, refl, sym, ap, subst, arith}
use Rattle.std.specs.Prelude.{min}
use Rattle.server_trait.proofs.TreeLaws.{one_or_not}
use Rattle.log_segments.specs.Newest.{find}
use Rattle.log_records.specs.Layout.{chunk_key, value_of, chunk_in}
use Rattle.log_tree.specs.Held.{Records, bytes_of}
use Rattle.log_files.specs.Chunked.{IsChunked}
use Rattle.log_files.proofs.ChunkLaws.{below_or_not}
use Rattle.log_files.proofs.ReadLaws.{length-bytes}

-- a chunk of so many bytes stands at a place
abbrev pub HasLong : Records → List ℕ → ℕ → (ℕ → Type 0) → Type 0
HasLong live id p P = IsSomeAnd (find (chunk_key id p) live) (λ r. P (length (chunk_in (value_of r))))

-- each chunk of a node has bytes, and is the first or stands behind a full one
pub record AreBehind (live : Records) (id : List ℕ) : Type 0 where
  pub below : (p : ℕ) (r : List ℕ) → p < 2 ^ 32 → find (chunk_key id p) live ≡ Some r → p < 17477
  pub some : (p : ℕ) (r : List ℕ) → p < 17477 → find (chunk_key id p) live ≡ Some r →
      (1 ≤ length (chunk_in (value_of r))) × (length (chunk_in (value_of r)) ≤ 480)
  pub behind : (p : ℕ) (r : List ℕ) → p < 17476 → find (chunk_key id (p + 1)) live ≡ Some r →
      HasLong live id p (λ n. n ≡ 480)

none_or_some : {A : Type 0} (o : Option A) → (o ≡ None) ⊎ ((x : A) × (o ≡ Some x))
none_or_some None = inl refl
none_or_some (Some x) = inr (x, refl)

none_long : (P : List ℕ → Type 0) (o : Option (List ℕ)) → o ≡ None → IsSomeAnd o P → ⊥
none_long P None e w = w
none_long P (Some x) e w = absurd (let bad : Some x ≡ None = e in cc)

pub none_some : (A : Type 0) (o : Option A) → o ≡ None → IsSome o → ⊥
none_some A None e s = cc
none_some A (Some x) e s = cc

module _ (live : Records) (id : List ℕ) (h : AreBehind live id) where
  abbrev at : ℕ → Option (List ℕ)
  at p = find (chunk_key id p) live

  -- the first place that has no chunk
  pub record FirstAbsent (p : ℕ) : Type 0 where
    pub end : ℕ
    pub reach : end ≤ 17477
    pub absent : at end ≡ None
    pub there : (q : ℕ) → p ≤ q → q < end → IsSome (at q)

  from : (m p : ℕ) → p + m ≡ 17477 → FirstAbsent p
  from zero p is = elim (none_or_some (at p)) [
    | inl none ↦ record { end = p; reach = omega arith; absent = none; there = λ q low high. absurd (omega arith) }
    | inr some ↦ absurd (let low = h.below p some.0 (omega arith) some.1 in omega arith)
  ]
  from (suc m) p is = elim (none_or_some (at p)) [
    | inl none ↦ record { end = p; reach = omega arith; absent = none; there = λ q low high. absurd (omega arith) }
    | inr some ↦
        let rest = from m (p + 1) (omega arith) in
        record {
          end = rest.end;
          reach = rest.reach;
          absent = rest.absent;
          there = λ q low high. elim (one_or_not p q) [
            | inl e ↦ subst (λ i. IsSome (at i)) e (subst (λ o. IsSome o) (sym some.1) refl)
            | inr ne ↦ rest.there q (omega arith) high
          ];
        }
  ]

  -- no chunk stands behind it
  behind_none : (k end : ℕ) → at end ≡ None → end + k < 2 ^ 32 → at (end + k) ≡ None
  behind_none zero end none fits = let e : end + 0 ≡ end = omega arith in ap at e ∙ none
  behind_none (suc k) end none fits = elim (none_or_some (at (end + suc k))) [
    | inl nothing ↦ nothing
    | inr some ↦
        let e : end + suc k ≡ end + k + 1 = omega arith in
        let low = h.below (end + suc k) some.0 fits some.1 in
        let before = h.behind (end + k) some.0 (omega arith) (ap at (sym e) ∙ some.1) in
        let none_there = behind_none k end none (omega arith) in
        absurd (none_long (λ r. length (chunk_in (value_of r)) ≡ 480) (at (end + k)) none_there before)
  ]

  long : (p n : ℕ) (r : List ℕ) → at p ≡ Some r → length (chunk_in (value_of r)) ≡ n → HasLong live id p (λ m. m ≡ n)
  long p n r is size = subst (λ o. IsSomeAnd o (λ r. length (chunk_in (value_of r)) ≡ n)) (sym is) size

  stands : (p : ℕ) → IsSome (at p) → (r : List ℕ) × (at p ≡ Some r)
  stands p some = elim (none_or_some (at p)) [
    | inl none ↦ absurd (none_some (List ℕ) (at p) none some)
    | inr found ↦ found
  ]

  -- a chunk in front of the last is full
  full : (f : FirstAbsent 0) (q : ℕ) → q + 1 < f.end → HasLong live id q (λ m. m ≡ 480)
  full f q below =
      let next = stands (q + 1) (f.there (q + 1) (omega arith) below) in
      h.behind q next.0 (omega (arith, f.reach)) next.1

  none_at : (f : FirstAbsent 0) (q : ℕ) → f.end ≤ q → q < 2 ^ 32 → at q ≡ None
  none_at f q past fits =
      let e : f.end + (q - f.end) ≡ q = omega arith in
      ap at (sym e) ∙ behind_none (q - f.end) f.end f.absent (omega arith)

  pub some_chunked : (size : ℕ) × IsChunked live id size
  some_chunked =
      let f = from 17477 0 (omega arith) in
      elim (below_or_not 0 f.end) [
        | inl some ↦
            let p = f.end - 1 in
            let last = stands p (f.there p (omega arith) (omega arith)) in
            let n = length (chunk_in (value_of last.0)) in
            let fits = h.some p last.0 (omega (arith, f.reach)) last.1 in (
              480 * p + n,
              record {
                few = omega (arith, f.reach);
                there = λ q below. elim (one_or_not q p) [
                  | inl e ↦ long q (min 480 (480 * p + n - 480 * q)) last.0 (ap at e ∙ last.1) (omega arith)
                  | inr ne ↦ longer q 480 (min 480 (480 * p + n - 480 * q)) (omega arith) (full f q (omega arith))
                ];
                absent = λ q past few. none_at f q (omega arith) few;
              },
            )
        | inr none ↦ (
          0,
          record {
            few = omega arith;
            there = λ q below. absurd (omega arith);
            absent = λ q past few. none_at f q (omega arith) few;
          },
        )
      ]
    where
      longer : (q m n : ℕ) → m ≡ n → HasLong live id q (λ k. k ≡ m) → HasLong live id q (λ k. k ≡ n)
      longer q m n e w = subst (λ k. HasLong live id q (λ i. i ≡ k)) e w

  -- the bytes of the node stand in chunks
  pub are_chunked : IsChunked live id (length (bytes_of live id))
  are_chunked =
      let c = some_chunked in
      subst (IsChunked live id) (sym (length-bytes live id c.0 c.1)) c.1
