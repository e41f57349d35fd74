-- Digests that are read anew: in whatever order, and however often.
use Rattle.std.proofs.Common.{◌≡◌, ℕ, ◌+◌, ◌<◌, Bool, true, false, cond, List, [], ◌∷◌, ◌++◌, length, set, take, get_or, refl, sym, ◌∙◌, ap, arith}
use Rattle.std.specs.Prelude.{◌==◌, ◌||◌}
use Rattle.std.specs.List.{list_any}
use Rattle.std.proofs.lemmas.Bool.{eqb-true, eq-eqb}
use Rattle.std.proofs.lemmas.List.{length-set, get_or-set_same, get_or-set_other, ext_get_or, take_more}
use Rattle.sha2.specs.Sha256.{sha256}
use Rattle.abs_model.specs.declared.Entry.{Entry}
use Rattle.abs_model.specs.Array.{entry_at}
use Rattle.abs_text.specs.Text.{entry_text}
use Rattle.replica.specs.Replicas.{refreshed}

-- the digest of the text of an entry
abbrev now : List Entry → ℕ → List ℕ
now A i = sha256 (entry_text i (entry_at A i))

-- an index is among these
abbrev is_among : ℕ → List ℕ → Bool
is_among i is = list_any (λ k. k == i) is

pub refreshed-append : (A : List Entry) (xs ys : List ℕ) (ds : List (List ℕ)) →
    refreshed A (xs ++ ys) ds ≡ refreshed A ys (refreshed A xs ds)
refreshed-append A [] ys ds = refl
refreshed-append A (x ∷ xs) ys ds = refreshed-append A xs ys (set ds x (now A x))

pub length-refreshed : (A : List Entry) (is : List ℕ) (ds : List (List ℕ)) → length (refreshed A is ds) ≡ length ds
length-refreshed A [] ds = refl
length-refreshed A (i ∷ is) ds = length-refreshed A is (set ds i (now A i)) ∙ length-set ds i (now A i)

-- one index more
pub refreshed_more : (A : List Entry) (is : List ℕ) (k i : ℕ) (ds es fs : List (List ℕ)) → k < length is →
    i ≡ get_or is k i → es ≡ refreshed A (take k is) ds → fs ≡ set es i (now A i) →
    fs ≡ refreshed A (take (k + 1) is) ds
refreshed_more A is k i ds es fs within at so_far one =
    one ∙ ap (λ xs. set xs i (now A i)) so_far
    ∙ sym (ap (λ xs. refreshed A xs ds) (take_more is k i within ∙ ap (λ j. take k is ++ j ∷ []) (sym at))
    ∙ refreshed-append A (take k is) (i ∷ []) ds)

refreshed_at : (A : List Entry) (is : List ℕ) (ds : List (List ℕ)) (i : ℕ) → i < length ds →
    get_or (refreshed A is ds) i [] ≡ cond (is_among i is) (now A i) (get_or ds i [])
refreshed_at A [] ds i within = refl
refreshed_at A (j ∷ is) ds i within =
    refreshed_at A is (set ds j (now A j)) i (let e = length-set ds j (now A j) in omega arith)
    ∙ by (j == i) refl (is_among i is)
  where
    by : (b : Bool) → (j == i) ≡ b → (c : Bool) →
        cond c (now A i) (get_or (set ds j (now A j)) i []) ≡ cond (b || c) (now A i) (get_or ds i [])
    by true e true = refl
    by true e false =
        let same : j ≡ i = eqb-true j i e in
        ap (λ k. get_or (set ds k (now A k)) i []) same ∙ get_or-set_same ds i (now A i) [] within
    by false e true = refl
    by false e false = get_or-set_other ds j i (now A j) []
        (λ same. let t : (j == i) ≡ true = eq-eqb j i (sym same) in absurd (cc))

-- the same indexes give the same digests
pub refreshed_same : (A : List Entry) (is js : List ℕ) (ds : List (List ℕ)) →
    ((i : ℕ) → list_any (λ k. k == i) is ≡ list_any (λ k. k == i) js) → refreshed A is ds ≡ refreshed A js ds
refreshed_same A is js ds same =
    ext_get_or [] (refreshed A is ds) (refreshed A js ds) (length-refreshed A is ds ∙ sym (length-refreshed A js ds))
    (λ i low. let within : i < length ds = (let e = length-refreshed A is ds in omega arith) in
    refreshed_at A is ds i within ∙ ap (λ b. cond b (now A i) (get_or ds i [])) (same i)
    ∙ sym (refreshed_at A js ds i within))
