-- The steps of records that harm a replica.
use Rattle.std.proofs.Common.{◌≡◌, ℕ, zero, suc, ◌<◌, List, [], ◌∷◌, ◌++◌, length, slice_get, get_or, Option, Some, None, refl, sym, ◌∙◌, ap, subst}
use Rattle.std.specs.Prelude.{slice_set}
use Rattle.std.proofs.lemmas.List.{append-nil}
use Rattle.std.specs.List.{flat_map}
use Rattle.std.proofs.lemmas.Option.{slice_get-get_or}
use Rattle.server_trait.specs.Tree.{Server}
use Rattle.server_trait.specs.declared.ConfTable.{ConfTable}
use Rattle.server_trait.specs.declared.FaultPoint.{FaultPoint}
use Rattle.server_trait.proofs.TreeLaws.{some_same}
use Rattle.conf_map.proofs.InStep.{slice_get-set_same}
use Rattle.log_format.specs.declared.Event.TheVariants.{Rogue, Skip, Swap}
use Rattle.log_format.specs.declared.Line.{Line}
use Rattle.log_format.specs.declared.Line.TheVariants as lines
use Rattle.log_format.specs.declared.IdleCause.{IdleCause}
use Rattle.log_format.specs.declared.IdleCause.TheVariants.{NotLive}
use Rattle.cluster_model.specs.declared.Request.{Request}
use Rattle.cluster_model.specs.Service.{Service}
use Rattle.cluster_model.specs.State.{Running, Condition, Live}
use Rattle.cluster_model.specs.Moments.{Moment, Faults, replica, becomes, print}
use Rattle.cluster_model.specs.Turns as turns
use Rattle.cluster_model.specs.Step.{step, harms, if_live}
use Rattle.cluster_model.specs.Run.{failed_of}
use Rattle.service_laws.specs.Served.{service}
use Rattle.replica.specs.declared.Replica.{Replica as Runner}
use Rattle.replica.specs.declared.Lie.{Lie}
use Rattle.replica.specs.declared.Lie.TheVariants.{OfWord, OfRoot, OfItem}
use Rattle.replica.specs.Replicas.{IsOver, harm}
use Rattle.replica.specs.Lying.{lied}
use Rattle.nfs2_types.specs.declared.Limits.{Limits}
use Rattle.seats.specs.declared.Seat.{Seat}
use Rattle.seats.specs.declared.Seat.TheVariants.{Live as LiveSeat, Rebuilding as RebuildingSeat, Down as DownSeat}
use Rattle.seats.specs.Seats.{live_in}
use Rattle.seats.specs.Positions.{ChangesAt}
use Rattle.cluster.specs.OverBench.{Kept, IsKeptBy, IsLive, IsSeat, IsState}
use Rattle.cluster.specs.Steps.{asked_by}
use Rattle.cluster.specs.Turned.{Stays, rogue_by, skip_by}
use Rattle.cluster.specs.Went.{Went, lie_event}
use Rattle.cluster.proofs.ListFacts.{read_is}
use Rattle.seats.proofs.Positions.{changes_set}
use Rattle.cluster.proofs.States.{state_put}
use Rattle.cluster.proofs.StepClauses.{IsExactStep, went_still}

-- a request that is there
pub request_at : (c : Kept) (n : ℕ) → n < length c.requests → (q : Request) × (slice_get c.requests n ≡ Some q)
request_at c n within = (
  get_or c.requests n (record { time = record { secs = 0; micros = 0 }; bytes = [] }),
  slice_get-get_or c.requests n (record { time = record { secs = 0; micros = 0 }; bytes = [] }) within,
)

pub changes_none : {X : Type 0} (r : ℕ) (xs : List X) → ChangesAt r xs xs
changes_none r xs = record { size = refl; others = λ k ne. refl }

-- what was read is written
pub set_read : (xs : List Seat) (r : ℕ) (s : Seat) → slice_get xs r ≡ Some s → slice_set xs r s ≡ xs
set_read [] r s e = absurd (cc)
set_read (x ∷ xs) zero s e = (let same : x ≡ s = some_same refl e in ap (λ y. y ∷ xs) (sym same))
set_read (x ∷ xs) (suc r) s e = ap (λ ys. x ∷ ys) (set_read xs r s e)

pub stays_same : (c : Kept) → Stays c c
stays_same c = record { limits = refl; requests = refl; seats = refl; events = refl }

-- A REPLICA WITHOUT A TURN

module _ {X : Type 0} (state : X → Server) (c : Kept) (servers : List X) (tables : List ConfTable)
    (met : List FaultPoint) (ls ls' : List Line) (r : ℕ) (d : IdleCause) (no_met : met ≡ []) (no_lines : ls ≡ [])
    (line : ls' ≡ ls ++ lines.Idle r d ∷ [])
    (idle : (m : Moment) → IsState state c servers tables m.state → turns.turn (service c.limits) m.state r ≡ turns.Not d)
  where
    one_line : ls' ≡ lines.Idle r d ∷ []
    one_line = line ∙ ap (λ xs. xs ++ lines.Idle r d ∷ []) no_lines

    said : (does : Faults → Moment → Moment) →
        ((faults : Faults) (m : Moment) → IsState state c servers tables m.state →
        does faults m ≡ print (lines.Idle r d) m) →
        (faults : Faults) (m : Moment) → IsState state c servers tables m.state →
        IsState state c servers tables (does faults m).state × ((does faults m).lines ≡ m.lines ++ ls')
    said does is faults m h =
        subst (λ (n : Moment). IsState state c servers tables n.state × (n.lines ≡ m.lines ++ ls')) (sym (is faults m h))
        (h, ap (λ xs. m.lines ++ xs) (sym one_line))

    pub rogue_idle : (q : Request) → Went state (Rogue r q.time q.bytes) c c servers servers tables tables met ls'
    rogue_idle q =
        let S = service c.limits in
        went_still state (Rogue r q.time q.bytes) (rogue_by c r q) c c servers servers tables tables met ls' refl
        (λ k spare e. absurd (cc)) (λ faults m. (refl, refl)) (λ faults m. refl) no_met (ap (flat_map failed_of) one_line) refl
        (stays_same c)
        (said (rogue_by c r q) (λ faults m h. ap (λ t. turns.rogue_turn S (faults 0 r) r q t m) (idle m h)))

    pub skip_idle : Went state (Skip r) c c servers servers tables tables met ls'
    skip_idle =
        let S = service c.limits in
        went_still state (Skip r) (skip_by c r) c c servers servers tables tables met ls' refl
        (λ k spare e. absurd (cc)) (λ faults m. (refl, refl)) (λ faults m. refl) no_met (ap (flat_map failed_of) one_line) refl
        (stays_same c)
        (said (skip_by c r) (λ faults m h. ap (λ t. turns.skip_turn S (faults 0 r) r t m) (idle m h)))

-- what a moment says of the replica whose seat was read
pub seat_is : {X : Type 0} (state : X → Server) (c : Kept) (servers : List X) (tables : List ConfTable) (r : ℕ) →
    r < length c.seats → (o : Seat) → slice_get c.seats r ≡ Some o → (m : Moment) →
    IsState state c servers tables m.state →
    IsSeat state c.limits o (slice_get servers r) (slice_get tables r) (replica m.state r).condition
seat_is state c servers tables r within o at m h =
    subst (λ x. IsSeat state c.limits x (slice_get servers r) (slice_get tables r) (replica m.state r).condition)
    (read_is c.seats r o DownSeat at) (h.conditions r within)

-- a seat without a live replica is of one that is not live
pub unlive_is : {X Y : Type 0} (state : X → Server) (limits : Limits) (o : Seat) (s : Option X) (t : Option ConfTable)
    (c : Condition) → live_in o ≡ None → IsSeat state limits o s t c → (other : Y) (does : Running → Y) →
    if_live other c does ≡ other
unlive_is state limits (LiveSeat k) s t c e h other does = absurd (cc)
unlive_is state limits (RebuildingSeat b) s t c e h other does = ap (λ d. if_live other d does) h.is_rebuilding
unlive_is state limits DownSeat s t c e h other does = ap (λ d. if_live other d does) h

-- LIES

-- what a lie makes of a running replica
abbrev pub lying_of : Lie → Running → Running
lying_of lie l = record l { lies = lied lie l.lies }

-- a replica that was told to lie
abbrev pub liar : Lie → Runner → Runner
liar lie k = record (harm k) { lies = lied lie k.lies }

keeps_lie : (lie : Lie) (l : Running) (k : Runner) → IsKeptBy k l → IsKeptBy (liar lie k) (turns.harm (lying_of lie l))
keeps_lie lie l k h = record {
  place = h.place;
  believed = h.believed;
  told = h.told;
  holds = h.holds;
  lies = ap (lied lie) h.lies;
  harmed = refl;
}

pub over_liar : (n : ℕ) (lie : Lie) (k : Runner) → IsOver n k → IsOver n (liar lie k)
over_liar n lie k h =
    record { digests = h.digests; size = h.size; held = h.held; told = h.told; taken = h.taken }

lie_asks : (r : ℕ) (lie : Lie) → asked_by (lie_event r lie) ≡ []
lie_asks r (OfWord place word) = refl
lie_asks r (OfRoot place root) = refl
lie_asks r (OfItem level number text) = refl

lie_no_swap : (r : ℕ) (lie : Lie) (k spare : ℕ) → lie_event r lie ≡ Swap k spare → ⊥
lie_no_swap r (OfWord place word) k spare e = cc
lie_no_swap r (OfRoot place root) k spare e = cc
lie_no_swap r (OfItem level number text) k spare e = cc

lie_exact : (S : Service) (r : ℕ) (lie : Lie) (faults : Faults) (m : Moment) →
    IsExactStep S faults (lie_event r lie) m
lie_exact S r (OfWord place word) faults m = (refl, refl)
lie_exact S r (OfRoot place root) faults m = (refl, refl)
lie_exact S r (OfItem level number text) faults m = (refl, refl)

lie_does : (S : Service) (r : ℕ) (lie : Lie) (faults : Faults) (m : Moment) →
    step S faults (lie_event r lie) m ≡ harms r (lying_of lie) m ∷ []
lie_does S r (OfWord place word) faults m = refl
lie_does S r (OfRoot place root) faults m = refl
lie_does S r (OfItem level number text) faults m = refl

module _ {X : Type 0} (state : X → Server) (c : Kept) (servers : List X) (tables : List ConfTable) (r : ℕ) (lie : Lie)
    (within : r < length c.seats) where
  -- it is not live
  pub went_no_liar : (o : Seat) → slice_get c.seats r ≡ Some o → live_in o ≡ None → (new : Kept) → new ≡ c →
      (ls' : List Line) →
      ls' ≡ lines.Idle r NotLive ∷ [] → (met : List FaultPoint) → met ≡ [] →
      Went state (lie_event r lie) c new servers servers tables tables met ls'
  went_no_liar o at unlive new new_is ls' line met no_met =
      subst (λ (x : Kept). Went state (lie_event r lie) c x servers servers tables tables met ls') (sym new_is)
      (went_still state (lie_event r lie) (λ faults m. harms r (lying_of lie) m) c c servers servers tables tables met ls'
      (lie_asks r lie) (lie_no_swap r lie) (lie_exact (service c.limits) r lie) (lie_does (service c.limits) r lie) no_met
      (ap (flat_map failed_of) line) refl (stays_same c)
      (λ faults m h. (
      let is : harms r (lying_of lie) m ≡ print (lines.Idle r NotLive) m =
      unlive_is state c.limits o (slice_get servers r) (slice_get tables r) (replica m.state r).condition unlive
      (seat_is state c servers tables r within o at m h) (print (lines.Idle r NotLive) m)
      (λ l. becomes r (Live (turns.harm (lying_of lie l))) m) in
      subst (λ (n : Moment). IsState state c servers tables n.state × (n.lines ≡ m.lines ++ ls')) (sym is)
      (h, ap (λ xs. m.lines ++ xs) (sym line)))))

  -- it is live
  pub went_liar : (k : Runner) → slice_get c.seats r ≡ Some (LiveSeat k) → (new : Kept) →
      new ≡ record c { seats = slice_set c.seats r (LiveSeat (liar lie k)) } → (ls' : List Line) → ls' ≡ [] →
      (met : List FaultPoint) → met ≡ [] → Went state (lie_event r lie) c new servers servers tables tables met ls'
  went_liar k at new new_is ls' no_lines met no_met =
      subst (λ (x : Kept). Went state (lie_event r lie) c x servers servers tables tables met ls') (sym new_is)
      (let seats = slice_set c.seats r (LiveSeat (liar lie k)) in
      let next : Kept = record c { seats = seats } in
      went_still state (lie_event r lie) (λ faults m. harms r (lying_of lie) m) c next servers servers tables tables met ls'
      (lie_asks r lie) (lie_no_swap r lie) (lie_exact (service c.limits) r lie) (lie_does (service c.limits) r lie) no_met
      (ap (flat_map failed_of) no_lines) refl
      (record { limits = refl; requests = refl; seats = (changes_set c.seats r (LiveSeat (liar lie k))).size; events = refl })
      (λ faults m h. (
      let live = seat_is state c servers tables r within (LiveSeat k) at m h in
      let l = live.live in
      let l' = turns.harm (lying_of lie l) in
      let is : harms r (lying_of lie) m ≡ becomes r (Live l') m =
      ap (λ o. if_live (print (lines.Idle r NotLive) m) o (λ l. becomes r (Live (turns.harm (lying_of lie l))) m))
      live.is_live in
      let here : IsLive state c.limits (liar lie k) (slice_get servers r) (slice_get tables r) (Live l') = record {
        live = l';
        is_live = refl;
        stands = live.stands;
        keeps = keeps_lie lie l k live.keeps;
      } in
      subst (λ (n : Moment). IsState state next servers tables n.state × (n.lines ≡ m.lines ++ ls')) (sym is) (
        state_put state c seats servers servers tables tables m.state r (LiveSeat (liar lie k)) (Live l') h within
            (changes_set c.seats r (LiveSeat (liar lie k))) (slice_get-set_same c.seats r (LiveSeat (liar lie k)) (LiveSeat k) at)
            (changes_none r servers) (changes_none r tables) here (λ b e. absurd (cc)),
        sym (ap (λ xs. m.lines ++ xs) no_lines ∙ append-nil m.lines),
      ))))
