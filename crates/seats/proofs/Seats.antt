-- Taking a live replica out of its seat, and a text that is taken for one that is being rebuilt.
use Rattle.std.proofs.Common.{◌≡◌, ◌<◌, ℕ, [], ◌∷◌, List, length, slice_get, get_or, Option, None, Some, Bool, true, false, refl, sym, ap, subst, ◌∙◌, arith}
use Rattle.std.specs.Prelude.{IsSome, is_some, not, Result, Ok, Err, OnOk, IfOk}
use Rattle.std.proofs.lemmas.Option.{slice_get_within, slice_get-get_or}
use Rattle.nfs2_types.specs.declared.Limits.{Limits}
use Rattle.abs_model.specs.declared.Entry.{Entry}
use Rattle.cluster_model.specs.Tree as tree
use Rattle.server_trait.specs.Tree.{Server}
use Rattle.server_trait.specs.declared.ConfTable.{ConfTable}
use Rattle.server_trait.specs.declared.WrapErr.{WrapErr}
use Rattle.state_transfer.specs.declared.item.Item.{Item}
use Rattle.state_transfer.specs.Stand.{next_in}
use Rattle.replica.specs.declared.Replica.{Replica}
use Rattle.recovery.specs.Rebuilt.{Rebuilt, HasFetched, with_item, Begins}
use Rattle.seats.specs.declared.seat.Seat.{Seat}
use Rattle.seats.specs.declared.seat.Seat.TheVariants.{Live, Rebuilding, Down}
use Rattle.seats.specs.Positions.{StandsAt, ChangesAt, WatchedAt}
use Rattle.seats.specs.Seats.{live_in, left_in, HasArray, Restarted}
use Rattle.seats.specs.Given.{Answered}

pub live_is : (s : Seat) (k : Replica) → live_in s ≡ Some k → s ≡ Live k
live_is (Live j) k e = (let same : j ≡ k = cc in ap Live same)
live_is (Rebuilding b) k e = absurd (cc)
live_is Down k e = absurd (cc)

pub stays_unlive : (s : Seat) → live_in s ≡ None → left_in s ≡ s
stays_unlive (Live j) e = absurd (cc)
stays_unlive (Rebuilding b) e = refl
stays_unlive Down e = refl

pub left_of_live : (s : Seat) (k : Replica) → live_in s ≡ Some k → left_in s ≡ Down
left_of_live (Live j) k e = refl
left_of_live (Rebuilding b) k e = absurd (cc)
left_of_live Down k e = refl

pub left_unlive : (s : Seat) (k : Replica) → left_in s ≡ Live k → ⊥
left_unlive (Live j) k e = cc
left_unlive (Rebuilding b) k e = cc
left_unlive Down k e = cc

-- A TEXT THAT IS TAKEN

pub not_none : (seen next : Option Item) (none : Bool) → seen ≡ next → is_some seen ≡ not none → none ≡ false →
    IsSome next
not_none seen next none same is e = ap (λ (o : Option Item). is_some o) (sym same) ∙ is ∙ ap not e

pub was_taken : (text : List ℕ) (s : Seat) (b b' : Rebuilt) → s ≡ Rebuilding b →
    (b'.target ≡ b.target) × (b'.root ≡ b.root) → IsSome (next_in b.fetch.stand) →
    ((A : List Entry) (got : List (tree.Item × List ℕ)) → HasFetched A got b →
    HasFetched A (with_item got (next_in b.fetch.stand) text) b') → Answered text s (Rebuilding b') true
was_taken text s b b' is same some more = subst (λ (o : Seat). Answered text o (Rebuilding b') true) (sym is) (
  b',
  refl,
  record { target = same.0; root = same.1; missing = some; got = more },
)

-- SERVER AND TABLE OF A POSITION

some_is : {X : Type 0} (o : Option X) (x : X) → o ≡ Some x → IsSome o
some_is {X} o x e = ap (λ (p : Option X). is_some p) e

pub has_server : {X : Type 0} (state : X → Server) (limits : Limits) (o : Seat) (s : Option X) (t : Option ConfTable) →
    HasArray state limits o s t → IsSome s
has_server state limits (Live k) s t h = some_is s h.1.server h.1.is_server
has_server state limits (Rebuilding b) s t h = some_is s h.1.server h.1.is_server
has_server state limits Down s t h = h.0

pub has_table : {X : Type 0} (state : X → Server) (limits : Limits) (o : Seat) (s : Option X) (t : Option ConfTable) →
    HasArray state limits o s t → IsSome t
has_table state limits (Live k) s t h = some_is t h.1.table h.1.is_table
has_table state limits (Rebuilding b) s t h = some_is t h.1.table h.1.is_table
has_table state limits Down s t h = h.1

pub is_within : {X : Type 0} (xs : List X) (r : ℕ) → IsSome (slice_get xs r) → r < length xs
is_within {X} xs r some = by (slice_get xs r) refl some
  where
    by : (o : Option X) → slice_get xs r ≡ o → IsSome o → r < length xs
    by None e h = absurd (cc)
    by (Some x) e h = slice_get_within xs r x e

pub is_there : {X : Type 0} (xs : List X) (r : ℕ) → r < length xs → IsSome (slice_get xs r)
is_there [] r low = absurd (omega (arith, low))
is_there (x ∷ xs) r low = some_is (slice_get (x ∷ xs) r) (get_or (x ∷ xs) r x) (slice_get-get_or (x ∷ xs) r x low)

-- a position whose server failed has server and table
pub down_after : {X T : Type 0} (state : X → Server) (limits : Limits) (servers servers' : List X)
    (tables tables' : List ConfTable) (r : ℕ) (result : Result T WrapErr) →
    WatchedAt state (slice_get servers r) (slice_get servers' r) result → ChangesAt r tables tables' → (o : Seat) →
    HasArray state limits o (slice_get servers r) (slice_get tables r) →
    HasArray state limits Down (slice_get servers' r) (slice_get tables' r)
down_after state limits servers servers' tables tables' r result watched tb o h =
    let low : r < length tables = is_within tables r (has_table state limits o (slice_get servers r) (slice_get tables r) h) in
    let size = tb.size in
    (some_is (slice_get servers' r) watched.after watched.is_after, is_there tables' r (omega (arith, low, size)))

-- a server that was rebooted: its position stands for the array that it stood for
module _ {X : Type 0} (state : X → Server) (limits : Limits) (s s' : Option X) (t t' : Option ConfTable) where
  abbrev Stood : Type 0
  Stood = (A : List Entry) → StandsAt state limits s t A → StandsAt state limits s' t' A

  abbrev Began : Rebuilt → Type 0
  Began b = (A : List Entry) → StandsAt state limits s t A → Begins A b

  pub restarted_live : (result : Result Rebuilt WrapErr) (seat : Seat) (k : Replica) → seat ≡ Live k →
      OnOk result Stood → IfOk result Began → IfOk result (Restarted state limits seat s t s' t')
  restarted_live (Ok b) seat k is stood began =
      subst (λ x. Restarted state limits x s t s' t' b) (sym is) (λ A a. (stood A a, began A a))
  restarted_live (Err e) seat k is stood began = tt

  pub restarted_rebuilding : (result : Result Rebuilt WrapErr) (seat : Seat) (old : Rebuilt) → seat ≡ Rebuilding old →
      OnOk result Stood → IfOk result Began → IfOk result (Restarted state limits seat s t s' t')
  restarted_rebuilding (Ok b) seat old is stood began =
      subst (λ x. Restarted state limits x s t s' t' b) (sym is) (λ A a. (stood A a, began A a))
  restarted_rebuilding (Err e) seat old is stood began = tt
