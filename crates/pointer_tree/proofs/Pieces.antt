-- Bytes read block by block.
use Rattle.std.proofs.Common.{◌≡◌, ℕ, zero, suc, ◌+◌, ◌-◌, ◌*◌, ◌/◌, ◌%◌, ◌^◌, ◌<◌, ◌≤◌, List, [], ◌∷◌, ◌++◌, length, get_or, map, refl, sym, ap, subst, ◌∙◌, arith}
use Rattle.std.specs.List.{range_with_len, between}
use Rattle.std.proofs.lemmas.List.{same_lists, get_or_default}
use Rattle.std.proofs.lemmas.List.Edits.{length-between, get_or-between}
use Rattle.std.proofs.lemmas.List.FromFn.{length-map-range_with_len, get_or-map-range_with_len}
use Rattle.std.proofs.lemmas.Nat.{div_below}
use Rattle.pointer_tree.specs.Bytes.{byte_at, bytes_from}

range_more : (f : ℕ → ℕ) (a n k : ℕ) → map f (range_with_len a (n + k)) ≡ map f (range_with_len a n) ++ map f
    (range_with_len (a + n) k)
range_more f a zero k =
    let e : zero + k ≡ k = omega arith in
    let g : a + zero ≡ a = omega arith in
    rw (e, g) refl
range_more f a (suc n) k =
    let e : suc n + k ≡ suc (n + k) = omega arith in
    let g : a + suc n ≡ (a + 1) + n = omega arith in
    rw (e, g) (ap (λ (xs : List ℕ). f a ∷ xs) (range_more f (a + 1) n k))

pub nothing_read : (blocks : ℕ → List ℕ) (from : ℕ) → [] ≡ bytes_from blocks from 0
unfolding bytes_from
nothing_read blocks from = refl

-- the place of a byte in its block
place_in : (at i : ℕ) → at % 512 + i < 512 → ((at + i) / 512 ≡ at / 512) × ((at + i) % 512 ≡ at % 512 + i)
place_in at i l = (omega arith, omega arith)

-- a part of one block is so many bytes from a place on
pub piece : (blocks : ℕ → List ℕ) (node : List ℕ) (at to : ℕ) → node ≡ blocks (at / 512) → length node ≡ 512 →
    at % 512 ≤ to → to ≤ 512 → between (at % 512) to node ≡ bytes_from blocks at (to - at % 512)
unfolding bytes_from
piece blocks node at to e len low high =
    let n = to - at % 512 in
    let left = length-between node (at % 512) to (omega arith) in
    let right = length-map-range_with_len (byte_at blocks) at n in
    same_lists _ _ (left ∙ sym right) (λ k d h.
    let l : k < n = subst (λ (x : ℕ). k < x) left h in
    let p = place_in at k (omega arith) in
    let x : get_or (between (at % 512) to node) k 0 ≡ get_or node (at % 512 + k) 0 = get_or-between node (at % 512) to
    k 0 (omega arith) in
    let y : get_or (map (byte_at blocks) (range_with_len at n)) k 0 ≡ byte_at blocks (at + k) =
    get_or-map-range_with_len (byte_at blocks) at n k (at + k) 0 l refl in
    let z : byte_at blocks (at + k) ≡ get_or node (at % 512 + k) 0 =
    ap (λ (q : ℕ). get_or (blocks q) ((at + k) % 512) 0) p.0 ∙ ap (λ (xs : List ℕ). get_or xs ((at + k) % 512) 0)
    (sym e) ∙ ap (λ (q : ℕ). get_or node q 0) p.1 in
    get_or_default _ k d 0 h ∙ x ∙ sym z ∙ sym y ∙ sym (get_or_default _ k d 0 (subst (λ (q : ℕ). k < q) (sym right)
    l)))

-- one piece more
pub read_more : (blocks : ℕ → List ℕ) (from at next : ℕ) (out part now : List ℕ) → from ≤ at → at ≤ next →
    out ≡ bytes_from blocks from (at - from) → part ≡ bytes_from blocks at (next - at) → now ≡ out ++ part →
    now ≡ bytes_from blocks from (next - from)
unfolding bytes_from
read_more blocks from at next out part now l k o p e =
    let n : (at - from) + (next - at) ≡ next - from = omega arith in
    let m : from + (at - from) ≡ at = omega arith in
    e ∙ ap (λ (xs : List ℕ). xs ++ part) o ∙ ap (λ (xs : List ℕ). bytes_from blocks from (at - from) ++ xs) p
    ∙ ap (λ (q : ℕ). map (byte_at blocks) (range_with_len from (at - from)) ++ map (byte_at blocks)
    (range_with_len q (next - at))) (sym m)
    ∙ sym (range_more (byte_at blocks) from (at - from) (next - at))
    ∙ ap (λ (q : ℕ). map (byte_at blocks) (range_with_len from q)) n

pub block_in : (at to depth : ℕ) → at < to → to ≤ 512 * 128 ^ depth → at / 512 < 128 ^ depth
block_in at to depth l h = div_below at 512 (128 ^ depth) (omega arith) (omega arith)
