-- Records of which only the chunks of one node change.
use Rattle.std.proofs.Common.{inl, inr, ◌≡◌, ◌≢◌, ◌∙◌, ◌⊎◌, ◌*◌, ◌^◌, ◌<◌, ℕ, suc, zero, List, ◌∷◌, ◌++◌, length, take, drop, get_or, Some, refl, sym, ap, subst, arith}
use Rattle.std.specs.Prelude.{option_map}
use Rattle.std.specs.Int.{to_be_bytes, from_be_bytes, w32}
use Rattle.std.proofs.lemmas.List.{take_at, drop_at}
use Rattle.std.proofs.lemmas.Nat.{be_bytes_4}
use Rattle.server_trait.proofs.TreeLaws.{bytes_or_not, some_none}
use Rattle.log_segments.specs.Newest.{find}
use Rattle.log_records.specs.Layout.{node_key, name_key, chunk_key, value_of, node_in}
use Rattle.log_tree.specs.Held.{Records, bytes_of}
use Rattle.log_tree.proofs.TreeLaws.{bytes_of-same}
use Rattle.log_files.specs.Chunked.{IsChunked, KeepsButChunks}
use Rattle.log_files.proofs.ChunkLaws.{below_or_not}
use Rattle.log_files.proofs.ReadLaws.{length-bytes}
use Rattle.log_held.specs.Sound.{kind_at, IsNodeKey, IsNameKey, IsChunkKey, ArePlaced}
use Rattle.log_changes.proofs.PlainLaws.{chunked_same}

-- THE KEY OF A CHUNK

bytes_fit : (n i : ℕ) → get_or (to_be_bytes w32 n) i 0 < 256
bytes_fit n zero = omega arith
bytes_fit n (suc zero) = omega arith
bytes_fit n (suc (suc zero)) = omega arith
bytes_fit n (suc (suc (suc zero))) = omega arith
bytes_fit n (suc (suc (suc (suc i)))) = omega arith

abbrev again : ℕ → ℕ
again n = from_be_bytes w32 (to_be_bytes w32 n)

again_small : (n : ℕ) → again n < 2 ^ 32
again_small n = omega arith

again_same : (n : ℕ) → to_be_bytes w32 (again n) ≡ to_be_bytes w32 n
again_same n = be_bytes_4 (to_be_bytes w32 n) (again n) refl (bytes_fit n) refl

-- a key is one of a chunk of this node, or is not
pub chunk_key_or_not : (id k : List ℕ) → length id ≡ 8
    → ((p : ℕ) × (k ≡ chunk_key id p) × (p < 2 ^ 32)) ⊎ ((p : ℕ) → k ≢ chunk_key id p)
chunk_key_or_not id k eight =
    let n = from_be_bytes w32 (drop 9 k) in
    elim (bytes_or_not k (chunk_key id n)) [
      | inl e ↦ inl (again n, e ∙ ap (λ w. 3 ∷ (id ++ w)) (sym (again_same n)), again_small n)
      | inr ne ↦ inr (λ p e.
          let tail : drop 9 k ≡ to_be_bytes w32 p =
          ap (drop 9) e ∙ drop_at (3 ∷ id) (to_be_bytes w32 p) 9 (omega arith) in
          ne (e ∙ ap (λ w. 3 ∷ (id ++ w))
          (sym (ap (λ b. to_be_bytes w32 (from_be_bytes w32 b)) tail ∙ again_same p))))
    ]

pub same_id : (a b : List ℕ) (p q : ℕ) → length a ≡ 8 → length b ≡ 8 → chunk_key a p ≡ chunk_key b q → a ≡ b
same_id a b p q ea eb e =
    let tails : a ++ to_be_bytes w32 p ≡ b ++ to_be_bytes w32 q = cc in
    sym (take_at a (to_be_bytes w32 p) 8 ea) ∙ (ap (take 8) tails ∙ take_at b (to_be_bytes w32 q) 8 eb)

-- WHAT STAYS

module _ (live new : Records) (id : List ℕ) (to : ℕ) (placed : ArePlaced live) (eight : length id ≡ 8)
    (others : KeepsButChunks live id new) (chunked : IsChunked new id to) where
  pub node_stays : (q : List ℕ) → find (node_key q) new ≡ find (node_key q) live
  node_stays q = others (node_key q) (λ p e. cc)

  pub name_stays : (dir name : List ℕ) → find (name_key dir name) new ≡ find (name_key dir name) live
  name_stays dir name = others (name_key dir name) (λ p e. cc)

  pub chunk_stays : (q : List ℕ) → length q ≡ 8 → q ≢ id → (p : ℕ)
      → find (chunk_key q p) new ≡ find (chunk_key q p) live
  chunk_stays q long ne p = others (chunk_key q p) (λ j e. ne (same_id q id p j long eight e))

  pub kind_stays : (q : List ℕ) → kind_at new q ≡ kind_at live q
  kind_stays q = ap (option_map (λ r. (node_in (value_of r)).kind)) (node_stays q)

  pub form_stays : (k r : List ℕ) → find k new ≡ Some r → IsNodeKey k ⊎ (IsNameKey k ⊎ IsChunkKey k)
  form_stays k r is = elim (chunk_key_or_not id k eight) [
    | inl c ↦ inr (inr (id, c.0, c.1, eight, few c.0 c.2 (ap (λ q. find q new) (sym c.1) ∙ is)))
    | inr ne ↦ placed.form k r (sym (others k ne) ∙ is)
  ]
    where
      few : (p : ℕ) → p < 2 ^ 32 → find (chunk_key id p) new ≡ Some r → p < 17477
      few p small there = elim (below_or_not (480 * p) to) [
        | inl l ↦ let most = chunked.few in omega arith
        | inr g ↦ absurd (some_none there (chunked.absent p g small))
      ]

  pub chunks_stay : (q : List ℕ) → length q ≡ 8 → IsChunked new q (length (bytes_of new q))
  chunks_stay q long = elim (bytes_or_not q id) [
    | inl e ↦ subst (λ i. IsChunked new i (length (bytes_of new i))) (sym e)
        (subst (IsChunked new id) (sym (length-bytes new id to chunked)) chunked)
    | inr ne ↦
        let same = chunk_stays q long ne in
        subst (IsChunked new q) (ap length (sym (bytes_of-same live new q same)))
        (chunked_same live new q (length (bytes_of live q)) same (placed.chunks q long))
  ]
