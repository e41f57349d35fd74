-- A source that is asked for an item.
use Rattle.std.proofs.Common.{◌≡◌, ℕ, ◌+◌, ◌<◌, Bool, true, false, cond, List, [], ◌∷◌, ◌++◌, length, slice_get, Option, Some, None, Result, Ok, Err, inl, inr, refl, sym, ◌∙◌, ap, subst}
use Rattle.std.specs.Prelude.{slice_set, slice_index_or, ◌==◌, ◌&&◌, ◌||◌}
use Rattle.std.proofs.lemmas.List.{append-nil}
use Rattle.abs_model.specs.declared.Entry.{Entry}
use Rattle.std.proofs.lemmas.Option.{slice_get_within}
use Rattle.server_trait.specs.Tree.{Server}
use Rattle.server_trait.specs.declared.ConfTable.{ConfTable}
use Rattle.server_trait.specs.declared.FaultPoint.{FaultPoint}
use Rattle.server_trait.specs.declared.WrapErr.{WrapErr}
use Rattle.server_trait.specs.declared.WrapErr.TheVariants as errors
use Rattle.server_trait.proofs.TreeLaws.{one_or_not}
use Rattle.nfs2_types.specs.declared.Limits.{Limits}
use Rattle.conf_map.proofs.InStep.{slice_get-set_same}
use Rattle.log_format.specs.declared.Line.{Line}
use Rattle.log_format.specs.declared.Line.TheVariants as lines
use Rattle.cluster_model.specs.Service.{Service}
use Rattle.cluster_model.specs.Tree.{Item, item, below}
use Rattle.cluster_model.specs.State.{Running, Condition, Live, Down, State}
use Rattle.cluster_model.specs.Moments.{Moment, Faults, replica, fails}
use Rattle.cluster_model.specs.Step.{is_live}
use Rattle.cluster_model.specs.Fair.{IsItem}
use Rattle.cluster_model.specs.Loose.{given}
use Rattle.service_laws.specs.Served.{IsSized, service}
use Rattle.replica.specs.declared.Replica.{Replica as Runner}
use Rattle.replica.specs.Replicas.{IsOver}
use Rattle.seats.specs.declared.Seat.{Seat}
use Rattle.seats.specs.declared.Seat.TheVariants.{Live as LiveSeat, Rebuilding as RebuildingSeat, Down as DownSeat}
use Rattle.seats.specs.Seats.{live_in, HasArray}
use Rattle.seats.specs.Positions.{StandsAt, ChangesAt, WatchedAt}
use Rattle.seats.specs.Given.{IsGivenItem}
use Rattle.seats.proofs.Positions.{changes_set, changes_none}
use Rattle.seats.proofs.Seats.{down_after}
use Rattle.cluster.specs.OverBench.{Kept, IsSeat, IsState, HaveArrays, HaveRoom}
use Rattle.cluster.specs.Turned.{TurnStays, FailAs}
use Rattle.cluster.specs.Fetching.{Scene, scene, slot_at, chance, Led, Asks, GaveSo, GivesNothing}
use Rattle.cluster.proofs.ListFacts.{read_is}
use Rattle.cluster.proofs.States.{state_put}
use Rattle.cluster.proofs.Struck.{later_at}
use Rattle.cluster.proofs.TurnClauses.{stays_set}
use Rattle.cluster.proofs.Harms.{seat_is, set_read}
use Rattle.cluster.proofs.Given.{given_is}
use Rattle.cluster.proofs.Leading.{unfailed, aims_set, led_still, led_weaker, led_ok, led_fell}

or_true : (b : Bool) → (b || true) ≡ true
or_true true = refl
or_true false = refl

-- a slot at which no server fails changes nothing
pub chance_none : (r : ℕ) (faults : Faults) (m : Moment) (stage j : ℕ) → faults stage j ≡ false →
    chance r faults m (slot_at stage j) ≡ m
chance_none r faults m stage j sound =
    ap (λ b. cond (b && ((j == r) || is_live (replica m.state j).condition)) (fails j m) m) sound

-- the server of a live replica fails
pub chance_fails : (r : ℕ) (faults : Faults) (m : Moment) (stage j : ℕ) (l : Running) → faults stage j ≡ true →
    (replica m.state j).condition ≡ Live l → chance r faults m (slot_at stage j) ≡ fails j m
chance_fails r faults m stage j l struck live =
    ap (λ b. cond (b && ((j == r) || is_live (replica m.state j).condition)) (fails j m) m) struck
    ∙ ap (λ x. cond ((j == r) || is_live x) (fails j m) m) live
    ∙ ap (λ b. cond b (fails j m) m) (or_true (j == r))

-- what it gave
gave : (S : Service) (p : ℕ) (i : Item) (fault : Bool) (l : Running) (text : Option (List ℕ)) →
    text ≡ given S p l i → GaveSo S p i fault (Live l) text
gave S p i fault l (Some t) e = sym e
gave S p i fault l None e = λ sound. sym e

module _ {X : Type 0} (state : X → Server) where
  -- one that is not live gives nothing
  gives_nothing : (S : Service) (p : ℕ) (i : Item) (limits : Limits) (o : Seat) (s : Option X) (t : Option ConfTable)
      (c : Condition) → live_in o ≡ None → IsSeat state limits o s t c → GivesNothing S p i c
  gives_nothing S p i limits (LiveSeat k) s t c e h = absurd (cc)
  gives_nothing S p i limits (RebuildingSeat b) s t c e h = subst (GivesNothing S p i) (sym h.is_rebuilding) tt
  gives_nothing S p i limits DownSeat s t c e h = subst (GivesNothing S p i) (sym h) tt

  -- a server was called, and its position stands for the condition that it stood for
  pub state_called : (c : Kept) (servers servers' : List X) (tables tables' : List ConfTable) (s : State) (j : ℕ)
      (seat : Seat) → IsState state c servers tables s → slice_get c.seats j ≡ Some seat →
      ChangesAt j servers servers' → ChangesAt j tables tables' →
      IsSeat state c.limits seat (slice_get servers' j) (slice_get tables' j) (replica s j).condition →
      IsState state c servers' tables' s
  state_called c servers servers' tables tables' s j seat h at sv tb here = record {
    requests = h.requests;
    order = h.order ∙ ap below (sym sv.size);
    stable = h.stable;
    root = h.root;
    decisions = h.decisions;
    size = h.size;
    voters = h.voters;
    root_voters = h.root_voters;
    conditions = λ k lk. elim (one_or_not k j) as (λ _. IsSeat state c.limits (slice_index_or c.seats k DownSeat)
        (slice_get servers' k) (slice_get tables' k) (replica s k).condition) [
          | inl e ↦ subst (λ k. IsSeat state c.limits (slice_index_or c.seats k DownSeat) (slice_get servers' k)
              (slice_get tables' k) (replica s k).condition) (sym e)
              (rw (read_is c.seats j seat DownSeat at) here)
          | inr ne ↦ rw (sv.others k ne, tb.others k ne) (h.conditions k lk)
        ];
    aimed = h.aimed;
    words = h.words;
    roots = h.roots;
  }

  module _ (c : Kept) (servers : List X) (tables : List ConfTable) (met : List FaultPoint) (ls : List Line)
      (r stage j : ℕ) (within : j < length c.seats) (have : HaveArrays state c servers tables)
      (room : HaveRoom state c.limits servers) where
    abbrev S : Service
    S = service c.limits

    abbrev First : Scene X
    First = scene c servers tables met ls

    -- it is not live
    pub asks_unlive : (i : Item) (o : Seat) → slice_get c.seats j ≡ Some o → live_in o ≡ None → (new : Kept) →
        new ≡ c → Led state (Asks S r stage j i None) (slot_at stage j ∷ []) First (scene new servers tables met ls)
    asks_unlive i o at unlive new new_is =
        let ts = slot_at stage j ∷ [] in
        subst (λ v. Led state (Asks S r stage j i None) ts First (scene v servers tables met ls)) (sym new_is)
        (led_weaker state (λ faults m n. (n ≡ m) × FailAs faults ts (unfailed ts)) (Asks S r stage j i None) ts First
        First (led_still state ts First have room)
        (λ faults m n f h out. (
          out.0 ∙ sym (chance_none r faults m stage j out.1.0),
          λ inside sound. gives_nothing S m.state.stable i c.limits o (slice_get servers j) (slice_get tables j)
              (replica m.state j).condition unlive (seat_is state c servers tables j within o at m h),
        )))

    -- it is live
    module _ (k : Runner) (at : slice_get c.seats j ≡ Some (LiveSeat k)) (servers' : List X)
        (sv : ChangesAt j servers servers') (tables' : List ConfTable) (tb : tables' ≡ tables)
        (result : Result (Option (List ℕ)) WrapErr)
        (watched : WatchedAt state (slice_get servers j) (slice_get servers' j) result) where
      changed : ChangesAt j tables tables'
      changed = subst (ChangesAt j tables) (sym tb) (changes_none j tables)

      stays_called : (new : Kept) (seat : Seat) → new.limits ≡ c.limits → new.requests ≡ c.requests →
          new.seats ≡ slice_set c.seats j seat → new.events ≡ c.events →
          HasArray state c.limits seat (slice_get servers' j) (slice_get tables' j) →
          TurnStays state c new servers' tables'
      stays_called new seat limits requests seats events here =
          stays_set state c new servers servers' tables tables' j seat have room (length c.seats)
          (later_at state servers servers' j (there servers watched.before watched.is_before) sv result watched
          (length c.seats) within)
          sv changed limits requests seats events here
        where
          there : (xs : List X) (x : X) → slice_get xs j ≡ Some x → j < length xs
          there xs x e = slice_get_within xs j x e

      pub asks_live : (level number : ℕ) (text : Option (List ℕ)) → result ≡ Ok text → IsSized c.limits →
          IsOver c.limits.n k →
          ((A : List Entry) → StandsAt state c.limits (slice_get servers j) (slice_get tables j) A →
          IsGivenItem c.stable level number A k text) →
          ((A : List Entry) → StandsAt state c.limits (slice_get servers j) (slice_get tables j) A →
          StandsAt state c.limits (slice_get servers' j) (slice_get tables' j) A) →
          (new : Kept) → new ≡ c →
          Led state (Asks S r stage j (item level number) text) (slot_at stage j ∷ []) First
          (scene new servers' tables' met ls)
      asks_live level number text ok sized over answer stood new new_is =
          let i = item level number in
          subst (λ v. Led state (Asks S r stage j i text) (slot_at stage j ∷ []) First
          (scene v servers' tables' met ls)) (sym new_is)
          (led_ok state (Asks S r stage j i text) First (scene c servers' tables' met ls) j (slot_at stage j) [] result
          text ok watched sv refl (sym (append-nil ls)) refl refl
          (stays_called c (LiveSeat k) refl refl (sym (set_read c.seats j (LiveSeat k) at)) refl
          (let has = have j (LiveSeat k) at in (has.0, stood has.0 has.1)))
          (λ q p x. x)
          (λ faults sound m h. (
          let live = seat_is state c servers tables j within (LiveSeat k) at m h in
          let l = live.live in
          let st = live.stands.stands in
          let size : length l.array ≡ c.limits.n = st.valid.size in
          let told : IsItem S i → text ≡ given S m.state.stable l i = λ inside.
          given_is c.limits sized l k live.keeps over size c.stable level number text inside
          (answer l.array live.stands) ∙ ap (λ p. given S p l i) (sym h.stable) in (
            m,
            (
              sym (chance_none r faults m stage j sound),
              λ inside. subst (λ x. GaveSo S m.state.stable i (faults stage j) x text) (sym live.is_live)
                  (gave S m.state.stable i (faults stage j) l text (told inside)),
            ),
            state_called c servers servers' tables tables' m.state j (LiveSeat k) h at sv changed (record {
              live = l;
              is_live = live.is_live;
              stands = stood l.array live.stands;
              keeps = live.keeps;
            }),
            sym (append-nil m.lines),
          ))))

      -- its server failed
      pub asks_fell : (i : Item) → result ≡ Err errors.Down → (new : Kept) →
          new ≡ record c { seats = slice_set c.seats j DownSeat } → (met' : List FaultPoint) →
          met' ≡ met ++ record { event = c.events + 1; stage = stage; replica = j } ∷ [] → (ls' : List Line) →
          ls' ≡ ls ++ lines.Down j ∷ [] →
          Led state (Asks S r stage j i None) (slot_at stage j ∷ []) First (scene new servers' tables' met' ls')
      asks_fell i down new new_is met' met_is ls' said =
          let seats = slice_set c.seats j DownSeat in
          let c' : Kept = record c { seats = seats } in
          subst (λ v. Led state (Asks S r stage j i None) (slot_at stage j ∷ []) First
          (scene v servers' tables' met' ls')) (sym new_is)
          (led_fell state (Asks S r stage j i None) First (scene c' servers' tables' met' ls') j (slot_at stage j)
          result down refl watched sv met_is said refl
          (stays_called c' DownSeat refl refl refl refl (down_after state c.limits servers servers' tables tables' j
          result watched changed (LiveSeat k) (have j (LiveSeat k) at)))
          (aims_set c.seats seats j (LiveSeat k) DownSeat at refl (λ p x. x))
          (λ faults struck m h. (
          let live = seat_is state c servers tables j within (LiveSeat k) at m h in (
            fails j m,
            (
              sym (chance_fails r faults m stage j live.live struck live.is_live),
              λ inside sound. absurd (let both : true ≡ false = sym struck ∙ sound in cc),
            ),
            state_put state c seats servers servers' tables tables' m.state j DownSeat Down h within
                (changes_set c.seats j DownSeat) (slice_get-set_same c.seats j DownSeat (LiveSeat k) at) sv
                changed refl (λ b e. absurd (cc)),
            refl,
          ))))
