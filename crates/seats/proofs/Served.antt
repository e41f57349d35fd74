-- What a replica gives, with a lie and with none.
use Rattle.std.proofs.Common.{◌≡◌, ℕ, List, Option, None, Some, Result, Ok, Err, IfOk, length, get_or, slice_get, slice_set, sym, subst, ◌∙◌}
use Rattle.std.specs.Prelude.{MatchOption, OnOk}
use Rattle.nfs2_types.specs.declared.Limits.{Limits}
use Rattle.abs_model.specs.declared.Entry.{Entry}
use Rattle.server_trait.specs.Tree.{Server, Tree}
use Rattle.server_trait.specs.declared.ConfTable.{ConfTable}
use Rattle.server_trait.specs.declared.WrapErr.{WrapErr}
use Rattle.conf_map.specs.Stands.{StandValid, StandsValid, AreWithin}
use Rattle.conf_map.specs.Notice.{Watched}
use Rattle.cluster_model.specs.State.{lookup_item}
use Rattle.cluster_model.specs.Tree.{item}
use Rattle.replica.specs.declared.Replica.{Replica}
use Rattle.recovery.specs.Served.{IsHeldItem}
use Rattle.recovery.proofs.Standing.{valid_for}
use Rattle.seats.specs.Positions.{StandsAt, WatchedAt}
use Rattle.seats.specs.Given.{IsGivenItem}
use Rattle.seats.proofs.Positions.{stands_read, there_x, here_t}

pub lie_given : (o : Option (List ℕ)) (lie : List ℕ) (P : Type 0) → Some lie ≡ o →
    MatchOption o P (λ l. Some lie ≡ Some l)
lie_given None lie P e = absurd (cc)
lie_given (Some l) lie P e = e

pub held_given : (o text : Option (List ℕ)) (P : Type 0) → None ≡ o → P → MatchOption o P (λ l. text ≡ Some l)
held_given None text P e h = h
held_given (Some l) text P e h = absurd (cc)

-- the table of a position where something stands has as many rows as the array has entries
pub rows_of : (limits : Limits) (n : ℕ) (s : Option Tree) (t : ConfTable) (A : List Entry) →
    StandsValid limits s t A → n ≡ limits.n → length t.rows.items ≡ n
rows_of limits n s t A st e = st.stands.size ∙ st.valid.size ∙ sym e

-- nothing was called
pub watched_none : {X T : Type 0} (state : X → Server) (limits : Limits) (s : Option X) (t : Option ConfTable)
    (A : List Entry) → StandsAt state limits s t A → (result : Result T WrapErr) →
    ((y : Server) → Watched y y result) → WatchedAt state s s result
watched_none state limits s t A h result w = record {
  before = h.server;
  after = h.server;
  is_before = h.is_server;
  is_after = h.is_server;
  watched = w (state h.server);
}

-- the server at a position was called, and its table only read
module _ {X : Type 0} (state : X → Server) (xs : List X) (tables : List ConfTable) (r : ℕ) (limits : Limits)
    {A₀ : List Entry} (h₀ : StandsAt state limits (slice_get xs r) (slice_get tables r) A₀) (x v : X)
    (t : ConfTable) (is_x : x ≡ get_or xs r x) (is_t : t ≡ get_or tables r t) where
  abbrev Old : List Entry → Type 0
  Old A = StandsAt state limits (slice_get xs r) (slice_get tables r) A

  read : (A : List Entry) → Old A → StandsValid limits (state x).tree t A
  read = stands_read state xs tables r limits h₀ x v t t is_x is_t

  pub tree_same : {R E : Type 0} (result : Result R E) → OnOk result ((state v).tree ≡ (state x).tree) →
      OnOk result ((A : List Entry) → Old A →
      StandsAt state limits (slice_get (slice_set xs r v) r) (slice_get tables r) A)
  tree_same (Ok k) h = λ A s. record {
    server = v;
    table = t;
    is_server = there_x state xs tables r limits h₀ x v t t is_x is_t;
    is_table = here_t state xs tables r limits h₀ x v t t is_x is_t;
    stands = subst (λ s'. StandsValid limits s' t A) (sym h) (read A s);
  }
  tree_same (Err e) h = tt

  pub given_at : {E : Type 0} (result : Result (Option (List ℕ)) E) (place level number : ℕ) (k : Replica) →
      AreWithin limits → None ≡ lookup_item (item level number) k.lies.items →
      IfOk result (λ text. (A : List Entry) → StandValid (state x).tree t A →
      IsHeldItem place level number A k.store text) →
      IfOk result (λ text. (A : List Entry) → Old A → IsGivenItem place level number A k text)
  given_at (Ok text) place level number k within none h = λ A s.
      held_given (lookup_item (item level number) k.lies.items) text (IsHeldItem place level number A k.store text) none
      (h A (valid_for limits (state x).tree t A within (read A s)))
  given_at (Err e) place level number k within none h = tt
