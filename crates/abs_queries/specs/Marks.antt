-- Marks on the entries that are known to be reached from the root,
-- and the other rules of a valid array.
use Rattle.std.specs.Prelude.{ℕ, ◌<◌, ◌≤◌, ◌≡◌, ◌≢◌, nat_le, List, Bool, true, false, length, get_or}
use Rattle.std.specs.List.{list_all}
use Rattle.nfs2_types.specs.declared.Limits.{Limits}
use Rattle.abs_model.specs.Objects.{is_dir, names_of}
use Rattle.abs_model.specs.declared.Entry.{Entry}
use Rattle.abs_model.specs.Array.{entry_at, links, used}
use Rattle.abs_model.specs.Valid.{Walk, IsReached, entry_fits, leads}

-- an index is marked; none past the end is
abbrev pub is_marked : List Bool → ℕ → Bool
is_marked marks i = get_or marks i false

-- what is marked is reached
abbrev pub IsSound : List Entry → List Bool → Type 0
IsSound A marks = (i : ℕ) → is_marked marks i ≡ true → (k : ℕ) × Walk A k 0 i

-- what is reached in at most k steps is marked
abbrev pub IsComplete : List Entry → List Bool → ℕ → Type 0
IsComplete A marks k = (m i : ℕ) → m ≤ k → i < length A → Walk A m 0 i → is_marked marks i ≡ true

-- the marks are those of what is reached
abbrev pub Shows : List Entry → List Bool → Type 0
Shows A marks = (i : ℕ) → i < length A →
    (is_marked marks i ≡ true → IsReached A i) × (IsReached A i → is_marked marks i ≡ true)

-- all rules of a valid array but that on what is reached
pub record IsOrderly (limits : Limits) (A : List Entry) : Type 0 where
  pub size : length A ≡ limits.n
  pub root : is_dir (entry_at A 0) ≡ true
  pub fits : list_all entry_fits A ≡ true
  pub lead : list_all (λ e. list_all (leads A) (names_of e)) A ≡ true
  pub one_name : (i : ℕ) → i < length A → is_dir (entry_at A i) ≡ true → i ≢ 0 → links A i ≡ 1
  pub room : nat_le (used A) limits.t ≡ true
