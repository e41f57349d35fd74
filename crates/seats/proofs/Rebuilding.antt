-- What a rebuilding says of server and table, said of their position.
use Rattle.std.proofs.Common.{◌≡◌, ℕ, List, Result, Ok, Err, IfOk, get_or, slice_get, slice_set, sym, subst}
use Rattle.std.specs.Prelude.{OnOk}
use Rattle.nfs2_types.specs.declared.Limits.{Limits}
use Rattle.abs_model.specs.declared.Entry.{Entry}
use Rattle.server_trait.specs.Tree.{Server}
use Rattle.server_trait.specs.declared.ConfTable.{ConfTable}
use Rattle.conf_map.specs.Stands.{StandValid, StandsValid, AreWithin}
use Rattle.recovery.specs.declared.FinishErr.{FinishErr}
use Rattle.recovery.specs.declared.FinishErr.TheVariants.{Invalid, Down, NoMemory}
use Rattle.recovery.specs.Ends.{IfInvalid, FinishWatched}
use Rattle.recovery.proofs.Standing.{valid_for}
use Rattle.seats.specs.Positions.{StandsAt, FinishWatchedAt}
use Rattle.seats.proofs.Positions.{here_x, there_x, stands_read, stands_written}

module _ {X : Type 0} (state : X → Server) (xs : List X) (tables : List ConfTable) (r : ℕ) (limits : Limits)
    {A₀ : List Entry} (h₀ : StandsAt state limits (slice_get xs r) (slice_get tables r) A₀) (x v : X)
    (t w : ConfTable) (is_x : x ≡ get_or xs r x) (is_t : t ≡ get_or tables r t) where
  abbrev Old : List Entry → Type 0
  Old A = StandsAt state limits (slice_get xs r) (slice_get tables r) A

  abbrev New : List Entry → Type 0
  New A = StandsAt state limits (slice_get (slice_set xs r v) r) (slice_get (slice_set tables r w) r) A

  read : (A : List Entry) → Old A → StandsValid limits (state x).tree t A
  read = stands_read state xs tables r limits h₀ x v t w is_x is_t

  written : (A : List Entry) → StandsValid limits (state v).tree w A → New A
  written = stands_written state xs tables r limits h₀ x v t w is_x is_t

  -- what was read stands for some limits
  pub valid_here : AreWithin limits → (A : List Entry) × StandValid (state x).tree t A
  valid_here within = (A₀, valid_for limits (state x).tree t A₀ within (read A₀ h₀))

  -- what holds of each array that server and table stand for, and of each of these
  pub if_ok_at : {R E Y : Type 0} (result : Result R E) (P : List Entry → Y → R → Type 0) →
      IfOk result (λ k. (A : List Entry) (y : Y) → StandsValid limits (state x).tree t A → P A y k) →
      IfOk result (λ k. (A : List Entry) (y : Y) → Old A → P A y k)
  if_ok_at (Ok k) P h = λ A y s. h A y (read A s)
  if_ok_at (Err e) P h = tt

  pub if_valid_at : {R E : Type 0} (result : Result R E) (P : List Entry → R → Type 0) → AreWithin limits →
      IfOk result (λ k. (A : List Entry) → StandValid (state x).tree t A → P A k) →
      IfOk result (λ k. (A : List Entry) → Old A → P A k)
  if_valid_at (Ok k) P within h = λ A s. h A (valid_for limits (state x).tree t A within (read A s))
  if_valid_at (Err e) P within h = tt

  -- what they stand for afterwards
  pub stands_for : {R E : Type 0} (result : Result R E) (f : List Entry → List Entry) →
      OnOk result ((A : List Entry) → StandsValid limits (state x).tree t A →
      StandsValid limits (state v).tree w (f A)) → OnOk result ((A : List Entry) → Old A → New (f A))
  stands_for (Ok k) f h = λ A s. written (f A) (h A (read A s))
  stands_for (Err e) f h = tt

  pub stands_again : {R E : Type 0} (result : Result R E) →
      OnOk result ((some : Limits) (A : List Entry) → StandsValid some (state x).tree t A →
      StandsValid some (state v).tree w A) → OnOk result ((A : List Entry) → Old A → New A)
  stands_again (Ok k) h = λ A s. written A (h limits A (read A s))
  stands_again (Err e) h = tt

  -- what holds where they make no valid array
  pub if_invalid_at : {R : Type 0} (result : Result R FinishErr) (P : List Entry → Type 0) →
      IfInvalid result (λ _. (A : List Entry) → StandsValid limits (state x).tree t A → P A) →
      IfInvalid result (λ _. (A : List Entry) → Old A → P A)
  if_invalid_at (Ok k) P h = tt
  if_invalid_at (Err (Invalid b)) P h = λ A s. h A (read A s)
  if_invalid_at (Err Down) P h = tt
  if_invalid_at (Err NoMemory) P h = tt

  pub unchanged_at : {R : Type 0} (result : Result R FinishErr) →
      IfInvalid result (λ _. ((state v).tree ≡ (state x).tree) × (w ≡ t)) →
      IfInvalid result (λ _. (A : List Entry) → Old A → New A)
  unchanged_at (Ok k) h = tt
  unchanged_at (Err (Invalid b)) h = λ A s. written A
      (subst (λ s'. StandsValid limits s' w A) (sym h.0) (subst (λ u. StandsValid limits (state x).tree u A) (sym h.1)
      (read A s)))
  unchanged_at (Err Down) h = tt
  unchanged_at (Err NoMemory) h = tt

  pub finish_watched : {R : Type 0} {result : Result R FinishErr} → FinishWatched (state x) (state v) result →
      FinishWatchedAt state (slice_get xs r) (slice_get (slice_set xs r v) r) result
  finish_watched h = record {
    before = x;
    after = v;
    is_before = here_x state xs tables r limits h₀ x v t w is_x is_t;
    is_after = there_x state xs tables r limits h₀ x v t w is_x is_t;
    watched = h;
  }
