-- Records that are placed pass the tests of what is held.
use Rattle.std.proofs.Common.{inl, inr, ◌≡◌, ◌∙◌, ◌+◌, ◌-◌, ◌*◌, ◌<◌, ◌≤◌, ℕ, suc, zero, true, false, ◌&&◌, ◌||◌, List, ◌∷◌, length, take, drop, get_or, Option, Some, None, IsSomeAnd, refl, sym, ap, subst, bytes_eq, arith}
use Rattle.std.specs.Prelude.{◌==◌, min, nat_le, nat_lt}
use Rattle.std.specs.Int.{to_be_bytes, from_be_bytes, w32}
use Rattle.std.proofs.lemmas.Bool.Decides.{nat_tests}
use Rattle.std.proofs.lemmas.List.{take_at, drop_at, length-append}
use Rattle.std.proofs.lemmas.Nat.{from_be_bytes-to_be_bytes_4}
use Rattle.std.proofs.lemmas.Slice.Eq.{bytes_eq-Decides}
use Rattle.nfs2_types.specs.declared.fattr.Kind.TheVariants.{Dir}
use Rattle.log_segments.specs.Newest.{find}
use Rattle.log_segments.specs.Record.{key_of}
use Rattle.log_records.specs.Layout.{node_key, name_key, chunk_key, value_of, chunk_in}
use Rattle.log_tree.specs.Held.{Records, bytes_of, id_of, is_node, is_name, is_chunk, is_dir, is_leaf, place_of, has_bytes, is_behind_full, has_place}
use Rattle.log_tree.proofs.Views.{find-key}
use Rattle.log_files.specs.Chunked.{IsChunked}
use Rattle.log_files.proofs.ChunkLaws.{below_or_not}
use Rattle.log_held.specs.Sound.{kind_at, ArePlaced, AreOnce}
use Rattle.log_held.proofs.Lists.{Each, each_found}
use Rattle.log_held.proofs.Forms.{and_is, first_of_three, second_of_three, third_of_three, number_is, at_most_is, less_than_is, there_dir, is_leaf_is, kind_leaf}

module _ (live : Records) (h : ArePlaced live) where
  of_node : (id r : List ℕ) → length id ≡ 8 → key_of r ≡ node_key id → has_place live r ≡ true
  of_node id r eight key =
      first_of_three (is_node r) (is_name r) (length (key_of r) == 9)
      (is_dir live (id_of r) && nat_le 9 (length (key_of r)) && nat_le (length (key_of r)) 264)
      (is_chunk r && bytes_eq (key_of r) (chunk_key (id_of r) (place_of r)) && is_leaf live (id_of r)
      && nat_lt (place_of r) 17477 && has_bytes r && is_behind_full live r)
      (ap (λ k. get_or k 0 0 == 1) key) (number_is (length (key_of r)) 9 (ap length key ∙ omega arith))

  of_name : (dir name r : List ℕ) → length dir ≡ 8 → length name ≤ 255 → key_of r ≡ name_key dir name
      → kind_at live dir ≡ Some Dir → has_place live r ≡ true
  of_name dir name r eight few key kind =
      let n = length (key_of r) in
      let long : n ≡ length dir + length name + 1 = ap length key ∙ omega (arith, length-append dir name) in
      let id_is : dir ≡ id_of r = sym (ap (λ k. take 8 (drop 1 k)) key ∙ take_at dir name 8 eight) in
      second_of_three (is_node r) (is_name r) (length (key_of r) == 9)
      (is_dir live (id_of r) && nat_le 9 (length (key_of r)) && nat_le (length (key_of r)) 264)
      (is_chunk r && bytes_eq (key_of r) (chunk_key (id_of r) (place_of r)) && is_leaf live (id_of r)
      && nat_lt (place_of r) 17477 && has_bytes r && is_behind_full live r)
      (ap (λ k. get_or k 0 0 == 1) key) (ap (λ k. get_or k 0 0 == 2) key)
      (and_is (is_dir live (id_of r) && nat_le 9 n) (nat_le n 264)
      (and_is (is_dir live (id_of r)) (nat_le 9 n) (ap (is_dir live) (sym id_is) ∙ there_dir live dir eight kind)
      (at_most_is 9 n (omega arith))) (at_most_is n 264 (omega arith)))

  -- the chunk before a place is full
  before_full : (id : List ℕ) (size p : ℕ) → IsChunked live id size → 480 * p < size
      → ((p == 0) || elim (find (chunk_key id (p - 1)) live) [
        | None ↦ false
        | Some before ↦ length (chunk_in (value_of before)) == 480
      ]) ≡ true
  before_full id size zero c below = refl
  before_full id size (suc p) c below =
      let no : (suc p == 0) ≡ false = grind (arith, nat_tests) in
      let at : suc p - 1 ≡ p = omega arith in
      let full : min 480 (size - 480 * p) ≡ 480 = omega arith in
      ap (λ b. b || elim (find (chunk_key id (suc p - 1)) live) [
        | None ↦ false
        | Some before ↦ length (chunk_in (value_of before)) == 480
      ]) no
      ∙ (ap (λ i. elim (find (chunk_key id i) live) [
        | None ↦ false
        | Some before ↦ length (chunk_in (value_of before)) == 480
      ]) at
      ∙ elim (find (chunk_key id p) live) as (λ (o : Option (List ℕ)).
      IsSomeAnd o (λ r. length (chunk_in (value_of r)) ≡ min 480 (size - 480 * p)) → elim o [
        | None ↦ false
        | Some before ↦ length (chunk_in (value_of before)) == 480
      ] ≡ true) [
        | None ↦ (λ w. absurd w)
        | Some r ↦ (λ w. number_is (length (chunk_in (value_of r))) 480 (w ∙ full))
      ] (c.there p (omega arith)))

  -- how long a chunk is that is found
  long_at : (id : List ℕ) (size p : ℕ) (r : List ℕ) → IsChunked live id size → p < 17477
      → find (chunk_key id p) live ≡ Some r
      → (480 * p < size) × (length (chunk_in (value_of r)) ≡ min 480 (size - 480 * p))
  long_at id size p r c few is = elim (below_or_not (480 * p) size) [
    | inl l ↦ (
      l,
      subst (λ o. IsSomeAnd o (λ r. length (chunk_in (value_of r)) ≡ min 480 (size - 480 * p))) is
          (c.there p l),
    )
    | inr g ↦ absurd (let bad : Some r ≡ None = sym is ∙ c.absent p g (omega arith) in cc)
  ]

  of_chunk : (id : List ℕ) (p : ℕ) (r : List ℕ) → length id ≡ 8 → p < 17477 → find (chunk_key id p) live ≡ Some r
      → key_of r ≡ chunk_key id p → has_place live r ≡ true
  of_chunk id p r eight few is key =
      let size = length (bytes_of live id) in
      let c = h.chunks id eight in
      let n = length (chunk_in (value_of r)) in
      let long = long_at id size p r c few is in
      let tail : drop 9 (chunk_key id p) ≡ to_be_bytes w32 p = drop_at (3 ∷ id) (to_be_bytes w32 p) 9 (omega arith) in
      let id_is : id_of r ≡ id = ap (λ k. take 8 (drop 1 k)) key ∙ take_at id (to_be_bytes w32 p) 8 eight in
      let place_is : place_of r ≡ p = ap (λ k. from_be_bytes w32 (drop 9 k)) key ∙ (ap (from_be_bytes w32) tail
      ∙ from_be_bytes-to_be_bytes_4 p (omega arith)) in
      let key_is : key_of r ≡ chunk_key (id_of r) (place_of r) =
      key ∙ (ap (λ i. chunk_key i p) (sym id_is) ∙ ap (chunk_key (id_of r)) (sym place_is)) in
      let leaf : is_leaf live (id_of r) ≡ true = ap (is_leaf live) id_is
      ∙ (is_leaf_is live id eight ∙ kind_leaf (kind_at live id) (h.of_leaf id p r eight few is)) in
      let behind : is_behind_full live r ≡ true =
      ap (λ i. (place_of r == 0) || elim (find (chunk_key i (place_of r - 1)) live) [
        | None ↦ false
        | Some before ↦ length (chunk_in (value_of before)) == 480
      ]) id_is
      ∙ (ap (λ m. (m == 0) || elim (find (chunk_key id (m - 1)) live) [
        | None ↦ false
        | Some before ↦ length (chunk_in (value_of before)) == 480
      ]) place_is ∙ before_full id size p c long.0) in
      let a = is_chunk r in
      let b = bytes_eq (key_of r) (chunk_key (id_of r) (place_of r)) in
      let l = is_leaf live (id_of r) in
      let d = nat_lt (place_of r) 17477 in
      let e = has_bytes r in
      third_of_three (is_node r) (is_name r) (length (key_of r) == 9)
      (is_dir live (id_of r) && nat_le 9 (length (key_of r)) && nat_le (length (key_of r)) 264)
      (a && b && l && d && e && is_behind_full live r)
      (ap (λ k. get_or k 0 0 == 1) key) (ap (λ k. get_or k 0 0 == 2) key)
      (and_is (a && b && l && d && e) (is_behind_full live r)
      (and_is (a && b && l && d) e
      (and_is (a && b && l) d
      (and_is (a && b) l
      (and_is a b (ap (λ k. get_or k 0 0 == 3) key) ((bytes_eq-Decides (key_of r) (chunk_key (id_of r) (place_of r))).1
      key_is)) leaf)
      (less_than_is (place_of r) 17477 (omega arith)))
      (and_is (nat_lt 0 n) (nat_le n 480) (less_than_is 0 n (omega (arith, long.0, long.1)))
      (at_most_is n 480 (omega (arith, long.1))))) behind)

  has_place_found : (k r : List ℕ) → find k live ≡ Some r → has_place live r ≡ true
  has_place_found k r is =
      let key = find-key k live r is in
      elim (h.form k r is) [
        | inl n ↦ of_node n.0 r n.2 (key ∙ n.1)
        | inr rest ↦ elim rest [
          | inl n ↦ of_name n.0 n.1 r n.3 n.4 (key ∙ n.2)
              (h.of_dir n.0 n.1 r n.3 (ap (λ q. find q live) (sym n.2) ∙ is))
          | inr c ↦ of_chunk c.0 c.1 r c.3 c.4 (ap (λ q. find q live) (sym c.2) ∙ is) (key ∙ c.2)
        ]
      ]

  pub each_placed : AreOnce live → Each (λ r. has_place live r ≡ true) live
  each_placed once = each_found (λ r. has_place live r ≡ true) live once has_place_found
