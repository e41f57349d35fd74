-- handles and the object ids that they spell
use Rattle.std.proofs.Common.{◌≡◌, ℕ, ◌^◌, ◌<◌, List, Bool, true, false}
use Rattle.std.proofs.Common.{Some, None, refl, sym, ◌∙◌, ap}
use Rattle.std.specs.Prelude.{bytes_eq, if◌then◌else◌}
use Rattle.std.specs.Int.{to_be_bytes, from_be_bytes, w32}
use Rattle.std.proofs.lemmas.Nat.{from_be_bytes-to_be_bytes_4}
use Rattle.std.proofs.lemmas.Slice.Eq.{bytes_eq-Decides}
use Rattle.nfs2_types.specs.declared.handle.Oid.{Oid}
use Rattle.nfs2_types.specs.Handle.{handle_bytes, oid_in, words_of}

-- a handle that spells an object id is its handle
pub spelled : (h : List ℕ) (o : Oid) → oid_in h ≡ Some o → h ≡ handle_bytes o
unfolding oid_in
spelled h o e = go (bytes_eq h (handle_bytes (words_of h))) refl e
  where
    go : (b : Bool) → bytes_eq h (handle_bytes (words_of h)) ≡ b
        → (if b then Some (words_of h) else None) ≡ Some o → h ≡ handle_bytes o
    go true same k =
        let it : words_of h ≡ o = cc in
        (bytes_eq-Decides h (handle_bytes (words_of h))).0 same ∙ ap handle_bytes it
    go false same k = cc

abbrev oid : ℕ → ℕ → Oid
oid i g = record { index = i; generation = g }

words_of-handle_bytes : (o : Oid) → o.index < 2 ^ 32 → o.generation < 2 ^ 32
    → words_of (handle_bytes o) ≡ o
unfolding handle_bytes
words_of-handle_bytes o index generation =
    ap (λ (i : ℕ). oid i (from_be_bytes w32 (to_be_bytes w32 o.generation)))
    (from_be_bytes-to_be_bytes_4 o.index index) ∙
    ap (oid o.index) (from_be_bytes-to_be_bytes_4 o.generation generation)

-- and the handle of an object id spells it
pub oid_in-handle_bytes : (o : Oid) → o.index < 2 ^ 32 → o.generation < 2 ^ 32
    → oid_in (handle_bytes o) ≡ Some o
unfolding oid_in
oid_in-handle_bytes o index generation =
    let same = words_of-handle_bytes o index generation in
    let again = handle_bytes (words_of (handle_bytes o)) in
    let here = (bytes_eq-Decides (handle_bytes o) again).1 (ap handle_bytes (sym same)) in
    ap (λ (b : Bool). if b then Some (words_of (handle_bytes o)) else None) here ∙ ap Some same
