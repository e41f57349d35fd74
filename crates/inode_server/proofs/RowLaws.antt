-- The rows of a list, slot by slot.
use Rattle.std.proofs.Common.{◌≡◌, ℕ, zero, suc, ◌+◌, ◌*◌, ◌/◌, ◌<◌, arith, List, [], ◌∷◌, ◌++◌, length, take, drop, map, slice_get, Some, None, refl, sym, ap, ◌∙◌}
use Rattle.std.proofs.lemmas.List.{map-append}
use Rattle.nfs2_types.specs.declared.fattr.Kind.TheVariants.{Dir}
use Rattle.server_trait.proofs.TreeLaws.{some_same}
use Rattle.inode_dirs.specs.Files.{File}
use Rattle.inode_dirs.specs.SlotBytes.{slot_in, slots_in}
use Rattle.inode_dirs.proofs.DirectoryLaws.{length-slots_of, slots_of-get}

-- the slot at a place, by its own bytes
pub slot_at : (b : List ℕ) (k : ℕ) → k < length b / 288 →
    slice_get (slots_in (length b / 288) b) k ≡ Some (slot_in (take 288 (drop (288 * k) b)))
slot_at b k l =
    let f : File = record { kind = Dir; mode = 0; uid = 0; gid = 0; bytes = b } in
    slots_of-get f k (let n = length-slots_of f in omega (arith, n, l))

take_next : {X : Type 0} (xs : List X) (k : ℕ) (x : X) → slice_get xs k ≡ Some x → take (suc k) xs ≡ take k xs ++ x ∷ []
take_next [] k x bad = absurd (let no : None ≡ Some x = bad in cc)
take_next (y ∷ xs) zero x is = ap (λ y. y ∷ []) (some_same refl is)
take_next (y ∷ xs) (suc k) x is = ap (λ l. y ∷ l) (take_next xs k x is)

pub rows_next : {X Y : Type 0} (f : X → Y) (xs : List X) (k : ℕ) (x : X) (rows : List Y) (r : Y) →
    slice_get xs k ≡ Some x → rows ≡ map f (take k xs) → r ≡ f x → rows ++ r ∷ [] ≡ map f (take (k + 1) xs)
rows_next f xs k x rows r at are is =
    let next : suc k ≡ k + 1 = omega arith in
    ap (λ l. l ++ r ∷ []) are ∙ ap (λ r. map f (take k xs) ++ r ∷ []) is ∙ sym (map-append f (take k xs) (x ∷ []))
    ∙ ap (map f) (sym (take_next xs k x at)) ∙ ap (λ k. map f (take k xs)) next
