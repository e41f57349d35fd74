-- the parent of a directory, by the names that lead to it
use Rattle.std.proofs.Common.{◌≡◌, ◌≢◌, ℕ, zero, suc, ◌<◌, List, [], ◌∷◌, Bool, true, false, cond, sym, ap, subst, inl, inr, Some, length}
use Rattle.std.specs.Prelude.{◌==◌, bytes_eq}
use Rattle.std.specs.List.{list_any}
use Rattle.std.proofs.lemmas.Bool.{cases_eq, eq-eqb, or_left, or_right}
use Rattle.nfs2_types.specs.declared.Limits.{Limits}
use Rattle.abs_model.specs.declared.entry.NameRow.{NameRow}
use Rattle.abs_model.specs.declared.entry.Entry.{Entry}
use Rattle.abs_model.specs.Objects.{is_dir, row_of}
use Rattle.abs_model.specs.Array.{entry_at, has_row_to, parent}
use Rattle.abs_model.specs.Valid.{Walk, Valid}
use Rattle.abs_model.proofs.Shapes.{live_below}
use Rattle.abs_model.proofs.Facts.{dir_is}
use Rattle.abs_model.proofs.Climbs.{parent_is, on_is_dir}

-- a walk that goes anywhere ends with a step
last_step : (A : List Entry) (k a i : ℕ) → Walk A k a i → a ≢ i → (here : ℕ) × (has_row_to i (entry_at A here) ≡ true)
last_step A zero a i w apart = absurd (apart w)
last_step A (suc k) a i w apart = elim (cases_eq w.0 i) [
  | inl same ↦ (a, subst (λ (x : ℕ). has_row_to x (entry_at A a) ≡ true) same w.1)
  | inr other ↦ last_step A k w.0 i w.2 other
]

-- the parent's names lead to a directory
pub parent_leads : (limits : Limits) (A : List Entry) (i : ℕ) → Valid limits A → is_dir (entry_at A i) ≡ true → i ≢ 0 → has_row_to i (entry_at A (parent A i)) ≡ true
parent_leads limits A i valid dir not_root =
    let way = valid.reached i (dir_is (entry_at A i) dir).null in
    let step = last_step A way.0 0 i way.2 (λ e. not_root (sym e)) in
    let up = parent_is limits A step.0 i valid dir not_root step.1 in
    subst (λ (x : ℕ). has_row_to i (entry_at A x) ≡ true) (sym up) step.1

-- and it is a directory itself
pub parent_is_dir : (limits : Limits) (A : List Entry) (i : ℕ) → Valid limits A → is_dir (entry_at A i) ≡ true → is_dir (entry_at A (parent A i)) ≡ true
parent_is_dir limits A i valid dir = elim (cases_eq i 0) [
  | inl same ↦ subst (λ (x : ℕ). is_dir (entry_at A (parent A x)) ≡ true) (sym same) valid.root
  | inr other ↦ on_is_dir A (parent A i) i (parent_leads limits A i valid dir other)
]

pub parent_below : (limits : Limits) (A : List Entry) (i : ℕ) → Valid limits A → is_dir (entry_at A i) ≡ true → parent A i < length A
parent_below limits A i valid dir = live_below A (parent A i) (dir_is (entry_at A (parent A i)) (parent_is_dir limits A i valid dir)).null

-- a name that is found leads to its row's index
pub found_leads : (name : List ℕ) (rows : List NameRow) (r : NameRow) → row_of name rows ≡ Some r → list_any (λ s. s.index == r.index) rows ≡ true
found_leads name [] r e = cc
found_leads name (x ∷ xs) r e = go (bytes_eq x.name name) e (λ k. found_leads name xs r k)
  where
    go : (b : Bool) → cond b (Some x) (row_of name xs) ≡ Some r → (row_of name xs ≡ Some r → list_any (λ s. s.index == r.index) xs ≡ true) →
        list_any (λ s. s.index == r.index) (x ∷ xs) ≡ true
    go true k rest = let same : x ≡ r = cc in or_left (x.index == r.index) (list_any (λ s. s.index == r.index) xs) (eq-eqb x.index r.index (ap (λ (s : NameRow). s.index) same))
    go false k rest = or_right (x.index == r.index) (list_any (λ s. s.index == r.index) xs) (rest k)
