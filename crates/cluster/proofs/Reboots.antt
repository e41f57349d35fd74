-- The step of a record that gives a replica up.
use Rattle.std.proofs.Common.{◌≡◌, ◌≢◌, ℕ, ◌+◌, ◌*◌, ◌<◌, Bool, true, false, cond, List, [], ◌∷◌, ◌++◌, length, set, slice_get, Option, Some, None, inl, inr, refl, sym, ◌∙◌, ap, subst, arith}
use Rattle.std.specs.Prelude.{slice_set, slice_index_or, Result, Ok, Err}
use Rattle.std.proofs.lemmas.List.{append-nil, length-set, get_or-set_same, get_or-set_other}
use Rattle.nfs2_types.specs.declared.Limits.{Limits}
use Rattle.nfs2_types.specs.declared.Word.{Word}
use Rattle.abs_model.specs.Array.{empty_array}
use Rattle.server_trait.specs.Tree.{Server}
use Rattle.server_trait.specs.declared.ConfTable.{ConfTable}
use Rattle.server_trait.specs.declared.FaultPoint.{FaultPoint}
use Rattle.server_trait.specs.declared.WrapErr.{WrapErr}
use Rattle.server_trait.specs.declared.WrapErr.TheVariants as errors
use Rattle.server_trait.proofs.TreeLaws.{one_or_not}
use Rattle.conf_map.proofs.InStep.{slice_get-set_same}
use Rattle.log_format.specs.declared.Event.TheVariants.{Reboot}
use Rattle.log_format.specs.declared.Line.{Line}
use Rattle.log_format.specs.declared.Line.TheVariants as lines
use Rattle.cluster_model.specs.State.{Fetching, Condition, Down, Rebuilding, State, Replica, lookup, has}
use Rattle.cluster_model.specs.Moments.{Moment, Faults, gone, replica, put, becomes, fails}
use Rattle.cluster_model.specs.Turns as turns
use Rattle.cluster_model.specs.Step.{withdraws, rebooted}
use Rattle.service_laws.specs.Served.{service}
use Rattle.recovery.specs.Rebuilt.{Rebuilt}
use Rattle.reply_vote.specs.Ballots.{Ballot, word_at, Withdraws}
use Rattle.seats.specs.declared.Seat.{Seat}
use Rattle.seats.specs.declared.Seat.TheVariants.{Live as LiveSeat, Rebuilding as RebuildingSeat, Down as DownSeat}
use Rattle.seats.specs.Positions.{ChangesAt, WatchedAt}
use Rattle.seats.specs.Seats.{HasArray, Restarted}
use Rattle.seats.proofs.Positions.{changes_set}
use Rattle.cluster.specs.OverBench.{Kept, IsAimed, IsFetching, IsSeat, IsState}
use Rattle.cluster.specs.Turned.{Stays, first_slot}
use Rattle.cluster.specs.Went.{Went}
use Rattle.cluster.proofs.Beginning.{service_begins}
use Rattle.cluster.proofs.States.{root_of, state_put}
use Rattle.cluster.proofs.TurnClauses.{turned_ok, turned_fell}
use Rattle.cluster.proofs.StepClauses.{went_by}
use Rattle.cluster.proofs.Harms.{seat_is}

-- what the model does
abbrev reboot_by : Kept → ℕ → Faults → Moment → Moment
reboot_by c r faults m = turns.fails_or (faults 0 r) r
    (λ n. becomes r (rebooted (service c.limits) (replica m.state r).condition) n) (withdraws r m)

-- words that are withdrawn
module _ {X : Type 0} (state : X → Server) (c : Kept) (ballots' roots' : List Ballot) (servers : List X)
    (tables : List ConfTable) (r : ℕ) (within : r < length c.seats) (words : Withdraws r c.ballots ballots')
    (root_words : Withdraws r c.roots roots') where
  abbrev withdrawn : Kept
  withdrawn = record c { ballots = ballots'; roots = roots' }

  state_withdraws : (s : State) → IsState state c servers tables s →
      IsState state (record c { ballots = ballots'; roots = roots' }) servers tables
      (put r (record (replica s r) { words = []; roots = [] }) s)
  state_withdraws s h =
      let x : Replica = record (replica s r) { words = []; roots = [] } in
      let size : length (set s.replicas r x) ≡ length s.replicas = length-set s.replicas r x in
      let l : r < length s.replicas = (let e = h.size in omega arith) in
      let same : replica (put r x s) r ≡ x = get_or-set_same s.replicas r x gone l in
      let other : (k : ℕ) → k ≢ r → replica (put r x s) k ≡ replica s k =
      λ k ne. get_or-set_other s.replicas r k x gone ne in
      record {
        requests = h.requests;
        order = h.order;
        stable = h.stable;
        root = h.root;
        decisions = h.decisions;
        size = size ∙ h.size;
        voters = words.size ∙ h.voters;
        root_voters = root_words.size ∙ h.root_voters;
        conditions = λ k lk. elim (one_or_not k r) as (λ _. IsSeat state c.limits (slice_index_or c.seats k DownSeat)
            (slice_get servers k) (slice_get tables k) (replica (put r x s) k).condition) [
              | inl e ↦ subst (λ k. IsSeat state c.limits (slice_index_or c.seats k DownSeat) (slice_get servers k)
                  (slice_get tables k) (replica (put r x s) k).condition) (sym e)
                  (rw same (h.conditions r within))
              | inr ne ↦ rw (other k ne) (h.conditions k lk)
            ];
        aimed = h.aimed;
        words = λ k q lk. elim (one_or_not k r) as (λ _. lookup q (replica (put r x s) k).words
            ≡ cond (has (c.decisions q)) None (word_at ballots' k q)) [
              | inl e ↦ subst (λ k. lookup q (replica (put r x s) k).words
                  ≡ cond (has (c.decisions q)) None (word_at ballots' k q)) (sym e)
                  (ap (λ (y : Replica). lookup q y.words) same ∙ sym (ap (cond (has (c.decisions q)) None) (words.here q)
                  ∙ no_word (has (c.decisions q))))
              | inr ne ↦ ap (λ (y : Replica). lookup q y.words) (other k ne) ∙ h.words k q lk
                  ∙ ap (cond (has (c.decisions q)) None) (sym (words.voters k q ne))
            ];
        roots = λ k q lk. elim (one_or_not k r) as (λ _. root_of q (replica (put r x s) k) ≡ word_at roots' k q) [
          | inl e ↦ subst (λ k. root_of q (replica (put r x s) k) ≡ word_at roots' k q) (sym e)
              (ap (root_of q) same ∙ sym (root_words.here q))
          | inr ne ↦ ap (root_of q) (other k ne) ∙ h.roots k q lk ∙ sym (root_words.voters k q ne)
        ];
      }
    where
      no_word : (b : Bool) → (let none : Option Word = None in cond b none none) ≡ None
      no_word true = refl
      no_word false = refl

-- what is being rebuilt after a reboot
record NowFetching {X : Type 0} (state : X → Server) (limits : Limits) (b : Rebuilt) (s : Option X)
    (t : Option ConfTable) (c : Condition) : Type 0 where
  fetching : Fetching
  is : c ≡ Rebuilding fetching
  seat : IsFetching state limits b s t (Rebuilding fetching)
  target : b.target ≡ None

-- it is aimed at no place
restarted_aimed : (stable : ℕ) (root : List ℕ) (b a : Rebuilt) → b.target ≡ None → RebuildingSeat b ≡ RebuildingSeat a →
    IsAimed stable root a
restarted_aimed stable root b a none e =
    let same : b ≡ a = cc in
    let aims : a.target ≡ None = ap (λ (x : Rebuilt). x.target) (sym same) ∙ none in
    record { low = λ p is. absurd (cc); root_is = λ is. absurd (cc) }

restarted_is : {X : Type 0} (state : X → Server) (limits : Limits) (o : Seat) (s : Option X) (t : Option ConfTable)
    (s' : Option X) (t' : Option ConfTable) (b : Rebuilt) (c : Condition) → IsSeat state limits o s t c →
    Restarted state limits o s t s' t' b → NowFetching state limits b s' t' (rebooted (service limits) c)
restarted_is state limits (LiveSeat k) s t s' t' b c h g =
    let now = g h.live.array h.stands in record {
      fetching = record { array = h.live.array; target = None; got = [] };
      is = ap (rebooted (service limits)) h.is_live;
      seat = record {
        fetching = record { array = h.live.array; target = None; got = [] };
        is_rebuilding = refl;
        stands = now.0;
        target = sym now.1.target;
        fetched = now.1.fetched;
      };
      target = now.1.target;
    }
restarted_is state limits (RebuildingSeat old) s t s' t' b c h g =
    let now = g h.fetching.array h.stands in record {
      fetching = record { array = h.fetching.array; target = None; got = [] };
      is = ap (rebooted (service limits)) h.is_rebuilding;
      seat = record {
        fetching = record { array = h.fetching.array; target = None; got = [] };
        is_rebuilding = refl;
        stands = now.0;
        target = sym now.1.target;
        fetched = now.1.fetched;
      };
      target = now.1.target;
    }
restarted_is state limits DownSeat s t s' t' b c h g =
    let empty : (service limits).empty ≡ empty_array limits.n = (service_begins limits).1 in record {
      fetching = record { array = empty_array limits.n; target = None; got = [] };
      is = ap (rebooted (service limits)) h
          ∙ ap (λ a. Rebuilding (record { array = a; target = None; got = [] })) empty;
      seat = record {
        fetching = record { array = empty_array limits.n; target = None; got = [] };
        is_rebuilding = refl;
        stands = g.0;
        target = sym g.1.target;
        fetched = g.1.fetched;
      };
      target = g.1.target;
    }

-- a position where a rebuilding begins stands for some valid array
pub restarted_array : {X : Type 0} (state : X → Server) (limits : Limits) (o : Seat) (s : Option X)
    (t : Option ConfTable) (s' : Option X) (t' : Option ConfTable) (b : Rebuilt) → HasArray state limits o s t →
    Restarted state limits o s t s' t' b → HasArray state limits (RebuildingSeat b) s' t'
restarted_array state limits (LiveSeat k) s t s' t' b h g = (h.0, (g h.0 h.1).0)
restarted_array state limits (RebuildingSeat old) s t s' t' b h g = (h.0, (g h.0 h.1).0)
restarted_array state limits DownSeat s t s' t' b h g = (empty_array limits.n, g.0)

module _ {X : Type 0} (state : X → Server) (c : Kept) (ballots' roots' : List Ballot) (servers servers' : List X)
    (tables tables' : List ConfTable) (r : ℕ) (within : r < length c.seats) (words : Withdraws r c.ballots ballots')
    (root_words : Withdraws r c.roots roots') (o : Seat) (at : slice_get c.seats r ≡ Some o)
    (met : List FaultPoint) (no_met : met ≡ []) (ls : List Line) (no_lines : ls ≡ [])
    (sv : ChangesAt r servers servers') (tb : ChangesAt r tables tables') (small : r < 3 * c.limits.f + 1)
    (result : Result Rebuilt WrapErr) (watched : WatchedAt state (slice_get servers r) (slice_get servers' r) result) where
  reboots : (m : Moment) (faults : Faults) (b : Bool) → faults 0 r ≡ b → reboot_by c r faults m ≡ turns.fails_or b r
      (λ n. becomes r (rebooted (service c.limits) (replica m.state r).condition) n) (withdraws r m)
  reboots m faults b fault = ap (λ d. turns.fails_or d r
      (λ n. becomes r (rebooted (service c.limits) (replica m.state r).condition) n) (withdraws r m)) fault

  pub went_rebooted : (b : Rebuilt) → result ≡ Ok b →
      Restarted state c.limits o (slice_get servers r) (slice_get tables r) (slice_get servers' r)
      (slice_get tables' r) b → (new : Kept) →
      new ≡ record c { ballots = ballots'; roots = roots'; seats = slice_set c.seats r (RebuildingSeat b) } →
      Stays c new → Went state (Reboot r) c new servers servers' tables tables' met ls
  went_rebooted b ok restarted new new_is stays =
      went_by state (Reboot r) (reboot_by c r) c new servers servers' tables tables' met ls refl
      (λ j spare e. absurd (cc)) (λ faults m. (refl, refl)) (λ faults m. refl) r met ls no_met no_lines small
      (turned_ok state (reboot_by c r) c new servers servers' tables tables' r met ls ls [] (first_slot r) result b ok
      watched sv (sym (append-nil ls)) refl (λ faults sound m h. (
      let cnd = (replica m.state r).condition in
      let now = restarted_is state c.limits o (slice_get servers r) (slice_get tables r) (slice_get servers' r)
      (slice_get tables' r) b cnd (seat_is state c servers tables r within o at m h) restarted in
      let mid : Kept = record c { ballots = ballots'; roots = roots' } in
      let h' = state_withdraws state c ballots' roots' servers tables r within words root_words m.state h in
      let seats = slice_set c.seats r (RebuildingSeat b) in
      let n = withdraws r m in
      let is : reboot_by c r faults m ≡ becomes r (Rebuilding now.fetching) n
      = reboots m faults false sound ∙ ap (λ d. becomes r d n) now.is in
      subst (λ (k : Moment). IsState state new servers' tables' k.state × (k.lines ≡ m.lines ++ [])) (sym is) (
        subst (λ (v : Kept). IsState state v servers' tables' (becomes r (Rebuilding now.fetching) n).state) (sym new_is)
            (state_put state mid seats servers servers' tables tables' n.state r (RebuildingSeat b)
            (Rebuilding now.fetching) h' within (changes_set c.seats r (RebuildingSeat b))
            (slice_get-set_same c.seats r (RebuildingSeat b) o at) sv tb now.seat
            (λ a e. restarted_aimed c.stable c.root b a now.target e)),
        sym (append-nil m.lines),
      ))))
      stays

  pub reboot_down : result ≡ Err errors.Down → (new : Kept) →
      new ≡ record c { ballots = ballots'; roots = roots'; seats = slice_set c.seats r DownSeat } →
      (ls' : List Line) → ls' ≡ ls ++ lines.Down r ∷ [] → (met' : List FaultPoint) →
      met' ≡ met ++ record { event = c.events + 1; stage = 0; replica = r } ∷ [] → Stays c new →
      Went state (Reboot r) c new servers servers' tables tables' met' ls'
  reboot_down down new new_is ls' said met' met_is stays =
      went_by state (Reboot r) (reboot_by c r) c new servers servers' tables tables' met' ls' refl
      (λ j spare e. absurd (cc)) (λ faults m. (refl, refl)) (λ faults m. refl) r met ls no_met no_lines small
      (turned_fell state (reboot_by c r) c new servers servers' tables tables' r met met' ls ls' (first_slot r) result
      down watched sv said met_is refl (λ faults struck m h. (
      let mid : Kept = record c { ballots = ballots'; roots = roots' } in
      let h' = state_withdraws state c ballots' roots' servers tables r within words root_words m.state h in
      let n = withdraws r m in
      subst (λ (k : Moment). IsState state new servers' tables' k.state × (k.lines ≡ m.lines ++ lines.Down r ∷ []))
      (sym (reboots m faults true struck)) (
        subst (λ (v : Kept). IsState state v servers' tables' (fails r n).state) (sym new_is)
            (state_put state mid (slice_set c.seats r DownSeat) servers servers' tables tables' n.state r DownSeat Down h'
            within (changes_set c.seats r DownSeat) (slice_get-set_same c.seats r DownSeat o at) sv tb refl
            (λ a e. absurd (cc))),
        refl,
      ))))
      stays
