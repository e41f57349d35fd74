-- What is known at the end of a fetch: of the seat, of what was got, of the last chance to fail, and of the call.
use Rattle.std.proofs.Common.{◌≡◌, ◌⊎◌, inl, inr, ℕ, zero, suc, ◌+◌, ◌<◌, ◌&&◌, Bool, true, false, cond, List, [], ◌∷◌, length, slice_get, get_or, Option, Some, None, Result, Ok, Err, refl, sym, ◌∙◌, ap, subst, arith}
use Rattle.std.specs.Prelude.{slice_set, slice_index_or, IsSome, is_some, ◌==◌, ◌||◌, nat_lt, ⊤, OnOk}
use Rattle.std.proofs.lemmas.Bool.{eq-eqb}
use Rattle.std.proofs.lemmas.Bool.Decides.{nat_tests}
use Rattle.std.proofs.lemmas.List.{get_or-set_same}
use Rattle.std.proofs.lemmas.Option.{slice_get_within}
use Rattle.nfs2_types.specs.declared.Limits.{Limits}
use Rattle.abs_model.specs.declared.Entry.{Entry}
use Rattle.abs_model.specs.Array.{changed}
use Rattle.abs_model.specs.Valid.{Valid}
use Rattle.server_trait.specs.Tree.{Server}
use Rattle.server_trait.specs.declared.ConfTable.{ConfTable}
use Rattle.server_trait.specs.declared.WrapErr.{WrapErr}
use Rattle.server_trait.specs.declared.WrapErr.TheVariants as errors
use Rattle.cluster_model.specs.Tree.{Item}
use Rattle.cluster_model.specs.State.{Fetching, Condition, Down}
use Rattle.cluster_model.specs.Moments.{Moment, Faults, gone, replica, fails}
use Rattle.cluster_model.specs.Step.{FetchEnd, Forgets, Whole, nodes_of, objects_of, if_rebuilding, ends_fetch, is_live}
use Rattle.cluster_model.proofs.Counting.{bit, count_by-cons}
use Rattle.service_laws.specs.Served.{service}
use Rattle.state_transfer.specs.declared.Item.{Item as NextItem}
use Rattle.state_transfer.specs.Stand.{next_in}
use Rattle.replica.specs.declared.Replica.{Replica as Runner}
use Rattle.replica.specs.Replicas.{IsOver, begun_at, digests_of}
use Rattle.replica.proofs.EmptyArray.{length-digests_from}
use Rattle.replica.proofs.Overs.{over_begun_at}
use Rattle.recovery.specs.declared.FinishErr.{FinishErr}
use Rattle.recovery.specs.declared.FinishErr.TheVariants as endings
use Rattle.recovery.specs.Ends.{IfInvalid}
use Rattle.recovery.specs.Rebuilt.{Rebuilt, HasFetched, from_start, retargeted}
use Rattle.recovery.proofs.Counted.{nodes_counted, objects_counted}
use Rattle.fetch_laws.specs.Made.{EndsSo}
use Rattle.fetch_laws.proofs.Decided.{valid_or_not}
use Rattle.seats.specs.declared.Seat.{Seat}
use Rattle.seats.specs.declared.Seat.TheVariants.{Live as LiveSeat, Rebuilding as RebuildingSeat, Down as DownSeat}
use Rattle.seats.specs.Seats.{rebuilding_in, cleared_in}
use Rattle.seats.specs.Positions.{StandsAt, ChangesAt, WatchedAt, FinishWatchedAt, AreLater}
use Rattle.cluster.specs.OverBench.{AreOver, IsAimedAt, IsSeat}
use Rattle.cluster.specs.Fetching.{slot_at, chance, EndsFor}
use Rattle.cluster.proofs.Asking.{chance_none}
use Rattle.cluster.proofs.ListFacts.{read_is}
use Rattle.cluster.proofs.Seated.{over_set}
use Rattle.cluster.proofs.Struck.{later_at}
use Rattle.cluster.proofs.TurnClauses.{at_index}

-- THE SEAT

rebuilding_is : (s : Seat) (b : Rebuilt) → rebuilding_in s ≡ Some b → s ≡ RebuildingSeat b
rebuilding_is (LiveSeat k) b e = absurd (cc)
rebuilding_is (RebuildingSeat a) b e = (let same : a ≡ b = cc in ap RebuildingSeat same)
rebuilding_is DownSeat b e = absurd (cc)

-- without what is being rebuilt
pub stays_cleared : (s : Seat) → rebuilding_in s ≡ None → cleared_in s ≡ s
stays_cleared (LiveSeat k) e = refl
stays_cleared (RebuildingSeat b) e = absurd (cc)
stays_cleared DownSeat e = refl

pub down_cleared : (s : Seat) (b : Rebuilt) → rebuilding_in s ≡ Some b → cleared_in s ≡ DownSeat
down_cleared (LiveSeat k) b e = absurd (cc)
down_cleared (RebuildingSeat a) b e = refl
down_cleared DownSeat b e = absurd (cc)

live_cleared : (s : Seat) (k : Runner) → cleared_in s ≡ LiveSeat k → s ≡ LiveSeat k
live_cleared (LiveSeat j) k e = e
live_cleared (RebuildingSeat b) k e = absurd (cc)
live_cleared DownSeat k e = absurd (cc)

-- what was taken out of a seat is being rebuilt there
pub seat_taken : (r : ℕ) (seats : List Seat) (o : Seat) (b : Rebuilt) (taken : Option Rebuilt) → r < length seats →
    o ≡ get_or seats r o → taken ≡ rebuilding_in o → taken ≡ Some b → slice_get seats r ≡ Some (RebuildingSeat b)
seat_taken r seats o b taken within read is some =
    at_index seats r o (RebuildingSeat b) within read (rebuilding_is o b (sym is ∙ some))

-- a seat that is cleared has no live replica that it had not
pub over_cleared : (n r : ℕ) (seats : List Seat) (o x : Seat) → r < length seats → o ≡ get_or seats r o →
    x ≡ cleared_in o → AreOver n seats → AreOver n (slice_set seats r x)
over_cleared n r seats o x within read is h = over_set n r seats x h
    (λ k e. h r k (at_index seats r o (LiveSeat k) within read (live_cleared o k (sym is ∙ e))))

-- nothing is being rebuilt there
pub unbuilding_is : {X Y : Type 0} (state : X → Server) (limits : Limits) (o : Seat) (s : Option X)
    (t : Option ConfTable) (c : Condition) → rebuilding_in o ≡ None → IsSeat state limits o s t c → (other : Y)
    (does : Fetching → Y) → if_rebuilding other c does ≡ other
unbuilding_is state limits (LiveSeat k) s t c e h other does = ap (λ d. if_rebuilding other d does) h.is_live
unbuilding_is state limits (RebuildingSeat b) s t c e h other does = absurd (cc)
unbuilding_is state limits DownSeat s t c e h other does = ap (λ d. if_rebuilding other d does) h

pub unbuilding_ends : (limits : Limits) (o : Seat) (c : Condition) (end : FetchEnd) → rebuilding_in o ≡ None →
    EndsFor limits o c end
unbuilding_ends limits (LiveSeat k) c end e = tt
unbuilding_ends limits (RebuildingSeat b) c end e = absurd (cc)
unbuilding_ends limits DownSeat c end e = tt

-- what is being rebuilt there is aimed so
pub aimed_is : (place r : ℕ) (seats : List Seat) (b : Rebuilt) → slice_get seats r ≡ Some (RebuildingSeat b) →
    IsAimedAt place (slice_index_or seats r DownSeat) → b.target ≡ Some place
aimed_is place r seats b at h = subst (IsAimedAt place) (read_is seats r (RebuildingSeat b) DownSeat at) h

-- what was seen to be next
pub is_missing : (next seen : Option NextItem) (some : Bool) → seen ≡ next → some ≡ is_some seen → some ≡ true →
    IsSome next
is_missing next seen some same is e = ap (λ (o : Option NextItem). is_some o) (sym same) ∙ sym is ∙ e

pub is_whole : (next seen : Option NextItem) (some : Bool) → seen ≡ next → some ≡ is_some seen → some ≡ false →
    next ≡ None
is_whole next None some same is e = sym same
is_whole next (Some x) some same is e = absurd (cc)

-- WHAT WAS GOT

-- an item is a node or an entry
one_counted : (l : ℕ) → bit (nat_lt 0 l) + bit (l == 0) ≡ 1
one_counted zero = refl
one_counted (suc l) =
    let node : nat_lt 0 (suc l) ≡ true = grind (arith, nat_tests) in
    let no_entry : (suc l == 0) ≡ false = grind (arith, nat_tests) in
    ap (λ b. bit b + bit (suc l == 0)) node ∙ ap (λ b. 1 + bit b) no_entry

items_counted : (got : List (Item × List ℕ)) → nodes_of got + objects_of got ≡ length got
items_counted [] = refl
items_counted (g ∷ got) =
    let one = one_counted g.0.level in
    let rest = items_counted got in
    rw (
      count_by-cons (λ (x : Item × List ℕ). nat_lt 0 x.0.level) g got,
      count_by-cons (λ (x : Item × List ℕ). x.0.level == 0) g got,
    ) (omega arith)

pub nodes_are : (A : List Entry) (got : List (Item × List ℕ)) (b : Rebuilt) → HasFetched A got b →
    b.fetch.nodes ≡ nodes_of got
nodes_are A got b h = nodes_counted (from_start b) got b.fetch h.leads ∙ omega arith

pub objects_are : (A : List Entry) (got : List (Item × List ℕ)) (b : Rebuilt) → HasFetched A got b →
    length b.fetch.changes ≡ objects_of got
objects_are A got b h = objects_counted (from_start b) got b.fetch refl h.leads

pub items_are : (A : List Entry) (got : List (Item × List ℕ)) (b : Rebuilt) → HasFetched A got b →
    length got ≡ b.fetch.nodes + length b.fetch.changes
items_are A got b h =
    let n = nodes_are A got b h in
    let o = objects_are A got b h in
    let all = items_counted got in
    omega arith

-- nothing is got of a place that is the target anew
pub fetched_anew : (A : List Entry) (got : List (Item × List ℕ)) (place : ℕ) (root : List ℕ) (b : Rebuilt) →
    HasFetched A got b → HasFetched A [] (retargeted place root b)
fetched_anew A got place root b h = record { own = h.own; size = h.size; leads = refl }

-- what was got makes a valid array, or none
pub some_end : (limits : Limits) (A : List Entry) (b : Rebuilt) → next_in b.fetch.stand ≡ None →
    (end : FetchEnd) × EndsSo limits A b end
some_end limits A b none = by (valid_or_not limits (changed b.fetch.changes A))
  where
    by : Valid limits (changed b.fetch.changes A) ⊎ (Valid limits (changed b.fetch.changes A) → ⊥) →
        (end : FetchEnd) × EndsSo limits A b end
    by (inl valid) = (Whole (changed b.fetch.changes A), (none, refl, valid))
    by (inr bad) = (Forgets, (none, bad))

-- THE LAST CHANCE TO FAIL

module _ (r stage : ℕ) (faults : Faults) (m : Moment) where
  falls : faults stage r ≡ true → chance r faults m (slot_at stage r) ≡ fails r m
  falls struck = ap (λ b. cond (b && ((r == r) || is_live (replica m.state r).condition)) (fails r m) m) struck
      ∙ ap (λ b. cond (true && (b || is_live (replica m.state r).condition)) (fails r m) m) (eq-eqb r r refl)

  down_now : r < length m.state.replicas → (replica (fails r m).state r).condition ≡ Down
  down_now within = ap (λ x. x.condition)
      (get_or-set_same m.state.replicas r (record (replica m.state r) { condition = Down }) gone within)

  module _ (limits : Limits) (end : FetchEnd) where
    -- the moment after a Fetch
    abbrev pub after_end : Moment
    after_end = (
        let then = chance r faults m (slot_at stage r) in
        if_rebuilding then (replica then.state r).condition (λ f. ends_fetch (service limits) r end then f))

    pub ends_sound : faults stage r ≡ false → (c : Condition) → (replica m.state r).condition ≡ c →
        after_end ≡ if_rebuilding m c (λ f. ends_fetch (service limits) r end m f)
    ends_sound sound c is =
        ap (λ (n : Moment). if_rebuilding n (replica n.state r).condition (λ f. ends_fetch (service limits) r end n f))
        (chance_none r faults m stage r sound)
        ∙ ap (λ d. if_rebuilding m d (λ f. ends_fetch (service limits) r end m f)) is

    pub ends_fallen : faults stage r ≡ true → r < length m.state.replicas → after_end ≡ fails r m
    ends_fallen struck within =
        ap (λ (n : Moment). if_rebuilding n (replica n.state r).condition (λ f. ends_fetch (service limits) r end n f))
        (falls struck)
        ∙ ap (λ d. if_rebuilding (fails r m) d (λ f. ends_fetch (service limits) r end (fails r m) f)) (down_now within)

-- THE CALL

-- the end of rebuilding, as a call of a wrapped server
abbrev pub as_wrap : {R : Type 0} → Result R FinishErr → Result ⊤ WrapErr
as_wrap (Ok k) = Ok tt
as_wrap (Err (endings.Invalid b)) = Ok tt
as_wrap (Err endings.Down) = Err errors.Down
as_wrap (Err endings.NoMemory) = Err errors.NoMemory

pub watched_as : {X R : Type 0} (state : X → Server) (old new : Option X) (result : Result R FinishErr) →
    FinishWatchedAt state old new result → WatchedAt state old new (as_wrap result)
watched_as state old new (Ok k) h = record {
  before = h.before;
  after = h.after;
  is_before = h.is_before;
  is_after = h.is_after;
  watched = record { limits = h.watched.limits; faults = h.watched.faults };
}
watched_as state old new (Err (endings.Invalid b)) h = record {
  before = h.before;
  after = h.after;
  is_before = h.is_before;
  is_after = h.is_after;
  watched = record { limits = h.watched.limits; faults = h.watched.faults };
}
watched_as state old new (Err endings.Down) h = record {
  before = h.before;
  after = h.after;
  is_before = h.is_before;
  is_after = h.is_after;
  watched = record { limits = h.watched.limits; faults = h.watched.faults };
}
watched_as state old new (Err endings.NoMemory) h = record {
  before = h.before;
  after = h.after;
  is_before = h.is_before;
  is_after = h.is_after;
  watched = record { limits = h.watched.limits; faults = h.watched.faults };
}

pub if_invalid : {R : Type 0} (result : Result R FinishErr) (P : Rebuilt → Type 0) (d : Rebuilt) →
    result ≡ Err (endings.Invalid d) → IfInvalid result P → P d
if_invalid result P d is h = subst (λ x. IfInvalid x P) is h

-- of a call that ensures two things
pub on_both : {T E P Q R : Type 0} (r : Result T E) → (P → Q → R) → OnOk r P → OnOk r Q → OnOk r R
on_both (Ok x) f h k = f h k
on_both (Err e) f h k = tt

-- whatever came of it, the servers are later ones
pub later_finished : {X R : Type 0} (state : X → Server) (servers servers' : List X) (r n : ℕ)
    (result : Result R FinishErr) → ChangesAt r servers servers' →
    FinishWatchedAt state (slice_get servers r) (slice_get servers' r) result → r < n → AreLater state n servers servers'
later_finished state servers servers' r n result sv h low =
    later_at state servers servers' r (slice_get_within servers r h.before h.is_before) sv (as_wrap result)
    (watched_as state (slice_get servers r) (slice_get servers' r) result h) n low

-- what was got makes a live replica over as many entries
pub over_whole : {X : Type 0} (state : X → Server) (limits : Limits) (s s' : Option X) (t t' : Option ConfTable)
    (b : Rebuilt) (k : Runner) (place : ℕ) → ((A : List Entry) × StandsAt state limits s t A) → b.target ≡ Some place →
    ((A : List Entry) → StandsAt state limits s t A → StandsAt state limits s' t' (changed b.fetch.changes A)) →
    ((A : List Entry) (p : ℕ) → StandsAt state limits s t A → b.target ≡ Some p →
    k ≡ begun_at p (digests_of (changed b.fetch.changes A))) →
    (j : Runner) → LiveSeat k ≡ LiveSeat j → IsOver limits.n j
over_whole state limits s s' t t' b k place has aimed stands live j e =
    let whole = changed b.fetch.changes has.0 in
    let same : k ≡ j = cc in
    let size : length (digests_of whole) ≡ limits.n =
    length-digests_from 0 whole ∙ (stands has.0 has.1).stands.valid.size in
    subst (IsOver limits.n) (sym (live has.0 place has.1 aimed) ∙ same)
    (over_begun_at limits.n place (digests_of whole) size)
