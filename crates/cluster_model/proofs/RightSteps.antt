-- Each record keeps a state right.
use Rattle.std.proofs.Common.{◌≡◌, ℕ, ◌+◌, ◌<◌, ◌≤◌, Bool, true, false, cond, ◌||◌, ◌&&◌, List, [], ◌∷◌, ◌++◌, length, refl, sym, ◌∙◌, subst}
use Rattle.std.specs.Prelude.{nat_le, ◌==◌}
use Rattle.abs_model.specs.declared.Entry.{Entry}
use Rattle.log_format.specs.declared.Event.{Event}
use Rattle.log_format.specs.declared.Event.TheVariants.{Request as Ask, Run, RunAll, Reboot, Fetch, Rogue, Skip, Scratch, LieReply, LieRoot, LieItem, Wipe, Swap, End}
use Rattle.log_format.specs.declared.Line.TheVariants as lines
use Rattle.log_format.specs.declared.IdleCause.TheVariants.{NotLive, NotRebuilding}
use Rattle.cluster_model.specs.Service.{Service, array_at, request}
use Rattle.cluster_model.specs.Tree.{Item, item}
use Rattle.cluster_model.specs.State.{Live, Rebuilding, Fetching}
use Rattle.cluster_model.specs.Moments.{Moment, Faults, replica, print, becomes}
use Rattle.cluster_model.specs.Turns.{fails_or, harm, turn, run_turn, rogue_turn, skip_turn, slot_turn, slots, moments, last}
use Rattle.cluster_model.specs.Step.{asks, wanted, FetchEnd, Missing, Whole, harms, if_live, wiped, scratches, swaps, lies_word, lies_root, lies_item, withdraws, rebooted, fetches, aims, aimed, prints_ends, step, fetch_towards, end_towards, items_towards}
use Rattle.cluster_model.specs.Fair.{IsFair}
use Rattle.cluster_model.specs.Right.{IsRight, IsOrderly}
use Rattle.cluster_model.specs.Good.{FitsEvent}
use Rattle.cluster_model.specs.Run.{Upto}
use Rattle.cluster_model.proofs.Asking.{asks_right}
use Rattle.cluster_model.proofs.Steps.{IsRightAt, Upto-append, Upto-moments, Upto-one, Upto-weaker, fetches_right, harmed_right, harms_right, if_live_cases, if_rebuilding_cases, or_right, prints_state, quiet_right, reboots_right, rebuilding_right, rebuilding_words, rogue_right, run_right, scratches_right, skip_turn_right, swaps_right, withdrawn, withdraws_right}

-- Step

abbrev pub RightAt : Service → Moment → Type 0
RightAt S m = IsRight S m.state

one_right : (S : Service) (m : Moment) → (IsFair S m → IsRight S m.state) → Upto (IsFair S) (RightAt S) (m ∷ [])
one_right S m h = Upto-one (IsFair S) (RightAt S) m h

pub aims_right : (S : Service) (r : ℕ) (m : Moment) (b : Fetching) → IsRight S m.state →
    (replica m.state r).condition ≡ Rebuilding b → IsRight S (aims r m b).state
aims_right S r m b h live =
    let none = rebuilding_words S r b m.state h live in
    rebuilding_right S r (aimed m.state.stable b) m h none.0 none.1

-- a Fetch that ends, if it ends with an array, with that of the stable place
pub fetch_right : (S : Service) (faults : Faults) (r : ℕ) (end : FetchEnd) (items : List (Item × List ℕ)) (m : Moment)
    (b : Fetching) → IsRight S m.state →
    (replica m.state r).condition ≡ Rebuilding b →
    ((a : List Entry) → end ≡ Whole a → a ≡ array_at S m.state.requests m.state.stable) →
    Upto (IsFair S) (RightAt S) (fetches S faults r end 0 items (aims r m b))
fetch_right S faults r end items m b h live whole =
    Upto-weaker (IsFair S) (IsRightAt S faults r m.state.requests m.state.stable) (RightAt S) (λ n g. g.0)
    (fetches S faults r end 0 items (aims r m b))
    (fetches_right S faults r m.state.requests m.state.stable end whole 0 items (aims r m b)
    (aims_right S r m b h live, refl, refl))

pub end_whole : (S : Service) (c : List Entry) (n : ℕ) (b : Fetching) (a : List Entry) → end_towards S c n b ≡ Whole a →
    a ≡ c
end_whole S c n b a = by (nat_le (length (wanted S c b)) n)
  where
    by : (t : Bool) → cond t (Whole c) Missing ≡ Whole a → a ≡ c
    by true e = cc
    by false e = absurd (cc)

pub step_right : (S : Service) → IsOrderly S → (faults : Faults) (e : Event) → FitsEvent S e → (m : Moment) →
    IsRight S m.state → Upto (IsFair S) (RightAt S) (step S faults e m)
step_right S laws faults (Ask client time bytes) fits m h = one_right S (asks (request time bytes) m)
    (λ fair. asks_right S (request time bytes) m fits h)
step_right S laws faults (Run r) fits m h = one_right S (run_turn S (faults 0 r) r (turn S m.state r) m)
    (run_right S laws (faults 0 r) r m h)
step_right S laws faults RunAll fits m h =
    let ts = slots (length m.state.requests) (length m.state.replicas) in
    let ms = moments (slot_turn S faults) m ts in
    Upto-append (IsFair S) (RightAt S) m ms (last m ms ∷ []) h
    (Upto-moments (IsFair S) (RightAt S) (slot_turn S faults)
    (λ n t g. quiet_right S laws (faults t.round t.replica) t.replica n g) m ts h)
    (λ g. one_right S (last m ms) (λ fair. g))
step_right S laws faults (Reboot r) fits m h =
    one_right S (fails_or (faults 0 r) r (λ n. becomes r (rebooted S (replica m.state r).condition) n) (withdraws r m))
    (or_right S (faults 0 r) r (λ n. becomes r (rebooted S (replica m.state r).condition) n) (withdraws r m)
    (withdraws_right S r m h)
    (λ fair. reboots_right S r (replica m.state r).condition (withdraws r m) (withdraws_right S r m h) (withdrawn r m).0
    (withdrawn r m).1))
step_right S laws faults (Fetch r n) fits m h =
    if_rebuilding_cases S faults r m.state.requests m.state.stable (Upto (IsFair S) (RightAt S))
    (print (lines.Idle r NotRebuilding) m ∷ []) (replica m.state r).condition
    (λ b. fetch_towards S faults r (array_at S m.state.requests m.state.stable) n m b)
    (one_right S (print (lines.Idle r NotRebuilding) m) (λ fair. h))
    (λ b live. let c = array_at S m.state.requests m.state.stable in
    fetch_right S faults r (end_towards S c n (aimed m.state.stable b))
    (items_towards S c n (aimed m.state.stable b)) m b h live
    (λ a g. end_whole S c n (aimed m.state.stable b) a g))
step_right S laws faults (Rogue r time bytes) fits m h = one_right S
    (rogue_turn S (faults 0 r) r (request time bytes) (turn S m.state r) m)
    (rogue_right S laws (faults 0 r) r m h (request time bytes))
step_right S laws faults (Skip r) fits m h = one_right S (skip_turn S (faults 0 r) r (turn S m.state r) m)
    (skip_turn_right S laws (faults 0 r) r m h)
step_right S laws faults (Scratch r i offset bytes) fits m h =
    one_right S (if_live (print (lines.Idle r NotLive) m) (replica m.state r).condition
    (λ l. fails_or (faults 0 r) r (scratches r l (S.scratched l.array i offset bytes)) m))
    (if_live_cases (λ n. IsFair S n → IsRight S n.state) (print (lines.Idle r NotLive) m) (replica m.state r).condition
    (λ l. fails_or (faults 0 r) r (scratches r l (S.scratched l.array i offset bytes)) m) (λ fair. h)
    (λ l. or_right S (faults 0 r) r (scratches r l (S.scratched l.array i offset bytes)) m h
    (λ fair. scratches_right S r l (S.scratched l.array i offset bytes) m h)))
step_right S laws faults (LieReply r p w) fits m h = one_right S (harms r (lies_word p w) m)
    (λ fair. harms_right S r (lies_word p w) m h)
step_right S laws faults (LieRoot r p d) fits m h = one_right S (harms r (lies_root p d) m)
    (λ fair. harms_right S r (lies_root p d) m h)
step_right S laws faults (LieItem r level number t) fits m h = one_right S (harms r (lies_item (item level number) t) m)
    (λ fair. harms_right S r (lies_item (item level number) t) m h)
step_right S laws faults (Wipe r) fits m h =
    one_right S (if_live (print (lines.Idle r NotLive) m) (replica m.state r).condition
    (λ l. fails_or (faults 0 r) r (becomes r (Live (harm (wiped S l)))) m))
    (if_live_cases (λ n. IsFair S n → IsRight S n.state) (print (lines.Idle r NotLive) m) (replica m.state r).condition
    (λ l. fails_or (faults 0 r) r (becomes r (Live (harm (wiped S l)))) m) (λ fair. h)
    (λ l. or_right S (faults 0 r) r (becomes r (Live (harm (wiped S l)))) m h
    (λ fair. harmed_right S r (harm (wiped S l)) m refl h)))
step_right S laws faults (Swap r spare) fits m h = one_right S
    (swaps S (faults 0 r) r spare (replica m.state r).condition m)
    (swaps_right S (faults 0 r) r spare (replica m.state r).condition m h)
step_right S laws faults End fits m h = one_right S (prints_ends 0 m.state.replicas m)
    (λ fair. subst (IsRight S) (sym (prints_state 0 m.state.replicas m)) h)
