-- How many records there are of each id, and of all ids of a map's entries.
use Rattle.std.proofs.Common.{inl, inr, ◌≡◌, ◌≢◌, ◌∙◌, ◌⊎◌, ◌+◌, ◌≤◌, ℕ, suc, true, false, cond, List, [], ◌∷◌, length, take, Some, None, IsSome, refl, sym, ap, bytes_eq, arith}
use Rattle.std.specs.Prelude.{replicate}
use Rattle.std.proofs.lemmas.Slice.Eq.{bytes_eq-Decides}
use Rattle.std.proofs.lemmas.List.{take_at}
use Rattle.std.specs.declared.cmp.Ordering.{Ordering}
use Rattle.std.specs.Ordering.{nat_cmp, eq_by_cmp}
use Rattle.std.specs.Cmp.Lexicographic.{slice_cmp}
use Rattle.std.specs.FinMap.{find as find_entry}
use Rattle.server_trait.specs.Tree.{Node}
use Rattle.server_trait.proofs.TreeLaws.{same-keys}
use Rattle.log_segments.specs.Newest.{has_key, without}
use Rattle.log_segments.specs.Record.{key_of}
use Rattle.log_tree.specs.Held.{Records, handle_of, id_of}
use Rattle.log_held.specs.Sound.{AreOnce}
use Rattle.log_held.proofs.Lists.{Each, each_weaker, once-without, each-without}
use Rattle.log_held.proofs.Chunks.{none_some}

-- THE RECORDS OF ONE ID

abbrev pub count_of : List ℕ → Records → ℕ
count_of id [] = 0
count_of id (r ∷ rs) = cond (bytes_eq (id_of r) id) (suc (count_of id rs)) (count_of id rs)

-- a key is one of a list
abbrev pub IsAmong : List ℕ → List (List ℕ) → Type 0
IsAmong k [] = ⊥
IsAmong k (x ∷ xs) = (k ≡ x) ⊎ IsAmong k xs

count-without : (id key : List ℕ) (rs : Records) → AreOnce rs → count_of id rs ≤ suc (count_of id (without key rs))
count-without id key [] once = omega arith
count-without id key (r ∷ rs) once =
    let rest = count-without id key rs once.1 in
    elim (bytes_eq (key_of r) key) as (λ b. bytes_eq (key_of r) key ≡ b
    → cond (bytes_eq (id_of r) id) (suc (count_of id rs)) (count_of id rs)
    ≤ suc (count_of id (cond b (without key rs) (r ∷ without key rs)))) [
      | true ↦ (λ e.
          let same : key_of r ≡ key = (bytes_eq-Decides (key_of r) key).0 e in
          let whole : without key rs ≡ rs = stays key rs (ap (λ k. has_key k rs) (sym same) ∙ once.0) in
          let size : count_of id (without key rs) ≡ count_of id rs = ap (count_of id) whole in
          elim (bytes_eq (id_of r) id) as (λ b. cond b (suc (count_of id rs)) (count_of id rs)
          ≤ suc (count_of id (without key rs))) [ true ↦ omega arith | false ↦ omega arith ])
      | false ↦ (λ e. elim (bytes_eq (id_of r) id) as (λ b. cond b (suc (count_of id rs)) (count_of id rs)
          ≤ suc (cond b (suc (count_of id (without key rs))) (count_of id (without key rs))))
          [ true ↦ omega arith | false ↦ omega arith ])
    ] refl
  where
    stays : (key : List ℕ) (rs : Records) → has_key key rs ≡ false → without key rs ≡ rs
    stays key [] h = refl
    stays key (x ∷ xs) h =
        elim (bytes_eq (key_of x) key) as (λ b. cond b true (has_key key xs) ≡ false
        → cond b (without key xs) (x ∷ without key xs) ≡ x ∷ xs) [
          | true ↦ (λ e. cc)
          | false ↦ (λ e. ap (λ l. x ∷ l) (stays key xs e))
        ] h

count_none : (id : List ℕ) (rs : Records) → Each (λ r. id_of r ≡ id → ⊥) rs → count_of id rs ≡ 0
count_none id [] h = refl
count_none id (r ∷ rs) h =
    elim (bytes_eq (id_of r) id) as (λ b. bytes_eq (id_of r) id ≡ b
    → cond b (suc (count_of id rs)) (count_of id rs) ≡ 0) [
      | true ↦ (λ e. absurd (h.0 ((bytes_eq-Decides (id_of r) id).0 e)))
      | false ↦ (λ e. count_none id rs h.1)
    ] refl

-- records of one id whose keys are among some are no more than these
pub count_most : (id : List ℕ) (keys : List (List ℕ)) (rs : Records) → AreOnce rs
    → Each (λ r. id_of r ≡ id → IsAmong (key_of r) keys) rs → count_of id rs ≤ length keys
count_most id [] rs once h = omega (arith, count_none id rs h)
count_most id (k ∷ keys) rs once h =
    let rest = count_most id keys (without k rs) (once-without k rs once)
    (each_weaker (λ r. (id_of r ≡ id → IsAmong (key_of r) (k ∷ keys)) × (key_of r ≢ k))
    (λ r. id_of r ≡ id → IsAmong (key_of r) keys) (without k rs)
    (λ r p same. elim (p.0 same) [ inl e ↦ absurd (p.1 e) | inr among ↦ among ])
    (each-without (λ r. id_of r ≡ id → IsAmong (key_of r) (k ∷ keys)) k rs h)) in
    omega (arith, count-without id k rs once)

-- THE RECORDS OF ALL IDS

abbrev pub order : List ℕ → List ℕ → Ordering
order = slice_cmp nat_cmp

-- the records of the ids of these entries
abbrev pub counts : List (List ℕ × Node) → Records → ℕ
counts [] rs = 0
counts (e ∷ es) rs = count_of (take 8 e.0) rs + counts es rs

-- a record's id is that of one of the entries
pub record HasOwner (es : List (List ℕ × Node)) (r : List ℕ) : Type 0 where
  pub eight : length (id_of r) ≡ 8
  pub owner : IsSome (find_entry order (handle_of (id_of r)) es)

counts_more : (es : List (List ℕ × Node)) (r : List ℕ) (rs : Records) → counts es rs ≤ counts es (r ∷ rs)
counts_more [] r rs = omega arith
counts_more (e ∷ es) r rs =
    let rest = counts_more es r rs in
    elim (bytes_eq (id_of r) (take 8 e.0)) as (λ b. count_of (take 8 e.0) rs + counts es rs
    ≤ cond b (suc (count_of (take 8 e.0) rs)) (count_of (take 8 e.0) rs) + counts es (r ∷ rs))
    [ true ↦ omega arith | false ↦ omega arith ]

counts_owned : (es : List (List ℕ × Node)) (r : List ℕ) (rs : Records) → HasOwner es r
    → suc (counts es rs) ≤ counts es (r ∷ rs)
counts_owned [] r rs h = absurd (none_some Node None refl h.owner)
counts_owned (e ∷ es) r rs h =
    let more = counts_more es r rs in
    elim (eq_by_cmp order (handle_of (id_of r)) e.0) as (λ b. eq_by_cmp order (handle_of (id_of r)) e.0 ≡ b
    → IsSome (cond b (Some e.1) (find_entry order (handle_of (id_of r)) es))
    → suc (count_of (take 8 e.0) rs + counts es rs) ≤ counts (e ∷ es) (r ∷ rs)) [
      | true ↦ (λ t w.
          let key : handle_of (id_of r) ≡ e.0 = same-keys (handle_of (id_of r)) e.0 t in
          let id_is : id_of r ≡ take 8 e.0 = sym (ap (take 8) (sym key) ∙ take_at (id_of r) (replicate 24 0) 8 h.eight) in
          let yes : bytes_eq (id_of r) (take 8 e.0) ≡ true = (bytes_eq-Decides (id_of r) (take 8 e.0)).1 id_is in
          let here : count_of (take 8 e.0) (r ∷ rs) ≡ suc (count_of (take 8 e.0) rs) =
          ap (λ b. cond b (suc (count_of (take 8 e.0) rs)) (count_of (take 8 e.0) rs)) yes in
          omega arith)
      | false ↦ (λ t w.
          let rest = counts_owned es r rs (record { eight = h.eight; owner = w }) in
          elim (bytes_eq (id_of r) (take 8 e.0)) as (λ b. suc (count_of (take 8 e.0) rs + counts es rs)
          ≤ cond b (suc (count_of (take 8 e.0) rs)) (count_of (take 8 e.0) rs) + counts es (r ∷ rs))
          [ true ↦ omega arith | false ↦ omega arith ])
    ] refl h.owner

pub counts_all : (es : List (List ℕ × Node)) (rs : Records) → Each (HasOwner es) rs → length rs ≤ counts es rs
counts_all es [] h = omega arith
counts_all es (r ∷ rs) h =
    let rest = counts_all es rs h.1 in
    let one = counts_owned es r rs h.0 in
    omega arith
