-- The array of a beginning, its texts and their digests.
use Rattle.std.proofs.Common.{◌≡◌, ℕ, zero, suc, ◌+◌, ◌-◌, ◌<◌, ◌≤◌, List, [], ◌∷◌, ◌++◌, map, length, take, refl, sym, ◌∙◌, ap, arith, ⊎_elim}
use Rattle.std.specs.Prelude.{replicate}
use Rattle.std.proofs.lemmas.Bool.{cases_lt}
use Rattle.std.proofs.lemmas.List.{take_more, length-replicate, get_or-replicate, get_or_past, length-take-le}
use Rattle.std.proofs.Math.Nat.{one-le-pow}
use Rattle.sha2.specs.Sha256.{sha256}
use Rattle.nfs2_types.specs.declared.Limits.{Limits}
use Rattle.abs_model.specs.declared.Entry.{Entry}
use Rattle.abs_model.specs.Array.{entry_at, empty_array, null_entry}
use Rattle.abs_model.proofs.EmptyFacts.{empty_valid}
use Rattle.abs_text.specs.Text.{entry_text}
use Rattle.server_trait.specs.Tree.{Tree}
use Rattle.server_trait.specs.declared.ConfTable.{ConfTable}
use Rattle.std.specs.Prelude.{Option}
use Rattle.conf_map.specs.Stands.{Stands, StandsValid}
use Rattle.conf_map.specs.Tallied.{Tallied}
use Rattle.partition_tree.specs.Digests.{IsTreeSize}
use Rattle.replica.specs.Replicas.{digests_from, digests_of}

-- a tree stands over some text
pub some_texts : (n : ℕ) → IsTreeSize n → 0 < n
some_texts n h = (let some = one-le-pow h.levels 16 (omega arith) in let size = h.size in omega (arith, some, size))

-- all entries but the first were never taken
pub behind_root : (n j : ℕ) → entry_at (empty_array n) (suc j) ≡ null_entry
behind_root n j = ⊎_elim
    (λ low. get_or-replicate (n - 1) j null_entry null_entry low)
    (λ high. get_or_past (replicate (n - 1) null_entry) j null_entry
    (let e = length-replicate (n - 1) null_entry in omega arith))
    (cases_lt j (n - 1))

pub first_is : (n index : ℕ) (e : Entry) → 0 < index → e ≡ null_entry → e ≡ entry_at (empty_array n) index
first_is n zero e some is = absurd (omega arith)
first_is n (suc j) e some is = is ∙ sym (behind_root n j)

pub length-empty : (n : ℕ) → 1 ≤ n → length (empty_array n) ≡ n
length-empty n some = (let e = length-replicate (n - 1) null_entry in omega arith)

pub digests_from-append : (i : ℕ) (xs ys : List Entry) →
    digests_from i (xs ++ ys) ≡ digests_from i xs ++ digests_from (i + length xs) ys
digests_from-append i [] ys = (let e : i ≡ i + 0 = omega arith in ap (λ k. digests_from k ys) e)
digests_from-append i (x ∷ xs) ys =
    let e : suc i + length xs ≡ i + suc (length xs) = omega arith in
    ap (λ ds. sha256 (entry_text i x) ∷ ds) (digests_from-append (suc i) xs ys
    ∙ ap (λ k. digests_from (suc i) xs ++ digests_from k ys) e)

pub length-digests_from : (i : ℕ) (xs : List Entry) → length (digests_from i xs) ≡ length xs
length-digests_from i [] = refl
length-digests_from i (x ∷ xs) = ap suc (length-digests_from (suc i) xs)

map-append : (xs ys : List (List ℕ)) → map sha256 (xs ++ ys) ≡ map sha256 xs ++ map sha256 ys
map-append [] ys = refl
map-append (x ∷ xs) ys = ap (λ zs. sha256 x ∷ zs) (map-append xs ys)

-- the digests of one text more
pub digests_more : (A : List Entry) (i : ℕ) (ts us : List (List ℕ)) (t : List ℕ) → i < length A →
    map sha256 ts ≡ digests_of (take i A) → us ≡ ts ++ t ∷ [] → t ≡ entry_text i (entry_at A i) →
    map sha256 us ≡ digests_of (take (i + 1) A)
digests_more A i ts us t within so_far more is =
    let size : length (take i A) ≡ i = length-take-le i A (omega arith) in
    let at : 0 + length (take i A) ≡ i = omega arith in
    ap (map sha256) more ∙ map-append ts (t ∷ [])
    ∙ ap (λ ds. ds ++ sha256 t ∷ []) so_far
    ∙ ap (λ u. digests_of (take i A) ++ sha256 u ∷ []) is
    ∙ ap (λ k. digests_of (take i A) ++ digests_from k (entry_at A i ∷ [])) (sym at)
    ∙ sym (digests_from-append 0 (take i A) (entry_at A i ∷ []))
    ∙ ap digests_of (sym (take_more A i null_entry within))

pub empty_stands : (limits : Limits) (tree : Option Tree) (table : ConfTable) → 1 ≤ limits.n →
    Stands tree table (empty_array limits.n) → Tallied table (empty_array limits.n) →
    StandsValid limits tree table (empty_array limits.n)
empty_stands limits tree table some stands tallied =
    record { valid = empty_valid limits some; stands = stands; tallied = tallied }
