-- The record of the end, and that of a request.
use Rattle.std.proofs.Common.{◌≡◌, ℕ, zero, suc, ◌+◌, ◌*◌, ◌<◌, List, [], ◌∷◌, ◌++◌, map, take, length, slice_get, Some, refl, sym, ◌∙◌, ap, subst, arith}
use Rattle.std.specs.Prelude.{slice_index_or, Result, Ok, Err, OnOk}
use Rattle.std.specs.List.{All, flat_map}
use Rattle.std.proofs.lemmas.List.{append-nil, append_assoc}
use Rattle.std.proofs.lemmas.List.Elements.{All-nil}
use Rattle.std.proofs.lemmas.Option.{slice_get_within}
use Rattle.nfs2_types.specs.declared.NoMemory.{NoMemory}
use Rattle.nfs2_types.specs.declared.Time.{Time}
use Rattle.server_trait.specs.Tree.{Server}
use Rattle.server_trait.specs.declared.ConfTable.{ConfTable}
use Rattle.server_trait.specs.declared.FaultPoint.{FaultPoint}
use Rattle.server_trait.proofs.TreeLaws.{some_same}
use Rattle.log_format.specs.declared.Event.TheVariants.{Request as Ask, End}
use Rattle.log_format.specs.declared.Line.{Line}
use Rattle.log_format.specs.declared.Line.TheVariants as lines
use Rattle.cluster_model.specs.declared.Request.{Request}
use Rattle.cluster_model.specs.State.{Replica}
use Rattle.cluster_model.specs.Moments.{Moment, gone, replica, print}
use Rattle.cluster_model.specs.Step.{at_line, asks, prints_ends}
use Rattle.cluster_model.specs.Run.{failed_of}
use Rattle.seats.specs.declared.Seat.{Seat}
use Rattle.seats.specs.declared.Seat.TheVariants.{Live as LiveSeat, Rebuilding as RebuildingSeat, Down as DownSeat}
use Rattle.cluster.specs.OverBench.{Kept, IsSeat, IsState, HaveArrays}
use Rattle.cluster.specs.Went.{Went, end_line, end_lines}
use Rattle.cluster.proofs.ListFacts.{read_is}
use Rattle.cluster.proofs.Struck.{struck_none}
use Rattle.cluster.proofs.StepClauses.{step_follows}

-- the lines of one replica more
pub end_more : (k r : ℕ) (xs : List Seat) (x : Seat) → slice_get xs r ≡ Some x →
    end_lines k (take (suc r) xs) ≡ end_lines k (take r xs) ++ end_line (k + r) x ∷ []
end_more k r [] x e = absurd (cc)
end_more k zero (y ∷ xs) x e =
    let same : y ≡ x = some_same refl e in
    let z : k ≡ k + 0 = omega arith in
    ap (λ o. end_line k o ∷ []) same ∙ ap (λ j. end_line j x ∷ []) z
end_more k (suc r) (y ∷ xs) x e =
    let z : suc k + r ≡ k + suc r = omega arith in
    ap (λ ls. end_line k y ∷ ls) (end_more (suc k) r xs x e)
    ∙ ap (λ j. end_line k y ∷ (end_lines (suc k) (take r xs) ++ end_line j x ∷ [])) z

-- what the model prints of replicas whose conditions are told so by these seats
prints_are : (r : ℕ) (xs : List Replica) (seats : List Seat) (m : Moment) → length xs ≡ length seats →
    ((k : ℕ) (x : Replica) (seat : Seat) → slice_get xs k ≡ Some x → slice_get seats k ≡ Some seat → (j : ℕ) →
    at_line j x.condition ≡ end_line j seat) →
    prints_ends r xs m ≡ record m { lines = m.lines ++ end_lines r seats }
prints_are r [] [] m long h = ap (λ ls. let n : Moment = record m { lines = ls } in n) (sym (append-nil m.lines))
prints_are r [] (s ∷ seats) m long h = absurd (omega arith)
prints_are r (x ∷ xs) [] m long h = absurd (omega arith)
prints_are r (x ∷ xs) (s ∷ seats) m long h =
    let here : at_line r x.condition ≡ end_line r s = h 0 x s refl refl r in
    let rest : prints_ends (suc r) xs (print (at_line r x.condition) m)
    ≡ record m { lines = (m.lines ++ at_line r x.condition ∷ []) ++ end_lines (suc r) seats } =
    prints_are (suc r) xs seats (print (at_line r x.condition) m) (omega arith) (λ k. h (suc k)) in
    rest ∙ ap (λ l. let n : Moment = record m { lines = (m.lines ++ l ∷ []) ++ end_lines (suc r) seats } in n) here
    ∙ ap (λ ls. let n : Moment = record m { lines = ls } in n)
    (append_assoc m.lines (end_line r s ∷ []) (end_lines (suc r) seats))

module _ {X : Type 0} (state : X → Server) where
  told : (c : Kept) (servers : List X) (tables : List ConfTable) (m : Moment) → IsState state c servers tables m.state →
      (k : ℕ) (x : Replica) (seat : Seat) → slice_get m.state.replicas k ≡ Some x →
      slice_get c.seats k ≡ Some seat → (j : ℕ) → at_line j x.condition ≡ end_line j seat
  told c servers tables m s k x seat at_x at_seat j =
      let within : k < length c.seats = slice_get_within c.seats k seat at_seat in
      let is : replica m.state k ≡ x = read_is m.state.replicas k x gone at_x in
      let seat_is : slice_index_or c.seats k DownSeat ≡ seat = read_is c.seats k seat DownSeat at_seat in
      by seat (subst (λ (y : Replica). IsSeat state c.limits seat (slice_get servers k) (slice_get tables k) y.condition) is
      (subst (λ o. IsSeat state c.limits o (slice_get servers k) (slice_get tables k) (replica m.state k).condition)
      seat_is (s.conditions k within)))
    where
      by : (o : Seat) → IsSeat state c.limits o (slice_get servers k) (slice_get tables k) x.condition →
          at_line j x.condition ≡ end_line j o
      by DownSeat h = ap (at_line j) h
      by (RebuildingSeat b) h = ap (at_line j) h.is_rebuilding
      by (LiveSeat n) h = ap (at_line j) h.is_live ∙ ap (lines.At j) h.keeps.place

  no_failures : (r : ℕ) (seats : List Seat) → flat_map failed_of (end_lines r seats) ≡ []
  no_failures r [] = refl
  no_failures r (DownSeat ∷ seats) = no_failures (suc r) seats
  no_failures r (RebuildingSeat b ∷ seats) = no_failures (suc r) seats
  no_failures r (LiveSeat k ∷ seats) = no_failures (suc r) seats

  -- END
  pub went_end : (c : Kept) (servers : List X) (tables : List ConfTable) (met : List FaultPoint) (la lb : List Line) →
      met ≡ [] → la ≡ [] → lb ≡ la ++ end_lines 0 c.seats →
      Went state End c c servers servers tables tables met lb
  went_end c servers tables met la lb no_met no_lines line =
      let lines_is : lb ≡ end_lines 0 c.seats = line ∙ ap (λ ls. ls ++ end_lines 0 c.seats) no_lines in
      let quiet : flat_map failed_of lb ≡ [] = ap (flat_map failed_of) lines_is ∙ no_failures 0 c.seats in
      record {
        numbered = subst (All (λ (d : FaultPoint). (d.event ≡ suc c.events) × (d.replica < 3 * c.limits.f + 1)))
            (sym no_met) (All-nil (λ (d : FaultPoint). (d.event ≡ suc c.events) × (d.replica < 3 * c.limits.f + 1)));
        lines_are = ap (map (λ (d : FaultPoint). d.replica)) no_met ∙ sym quiet;
        limits = refl;
        requests = sym (append-nil c.requests);
        events = refl;
        moves = λ m good s. (
            let printed = prints_are 0 m.state.replicas c.seats m s.size (told c servers tables m s) in
            step_follows state c c servers servers tables tables met End lb m s (λ j spare e. absurd (cc)) (refl, refl)
            (subst (λ (n : Moment). IsState state c servers tables n.state × (n.lines ≡ m.lines ++ lb)) (sym printed)
            (s, ap (λ ls. m.lines ++ ls) (sym lines_is)))
            (struck_none state lb servers quiet));
      }

  pub end_went : (result : Result (Unit {0}) NoMemory) (c : Kept) (servers : List X) (tables : List ConfTable)
      (met : List FaultPoint) (la lb : List Line) → met ≡ [] → la ≡ [] →
      OnOk result (lb ≡ la ++ end_lines 0 c.seats) → OnOk result (Went state End c c servers servers tables tables met lb)
  end_went (Ok u) c servers tables met la lb no_met no_lines h = went_end c servers tables met la lb no_met no_lines h
  end_went (Err e) c servers tables met la lb no_met no_lines h = tt

  -- REQUEST
  state_asks : (c : Kept) (q : Request) (servers : List X) (tables : List ConfTable) (m : Moment) →
      IsState state c servers tables m.state →
      IsState state (record c { requests = c.requests ++ q ∷ [] }) servers tables (asks q m).state
  state_asks c q servers tables m s = record {
    requests = ap (λ qs. qs ++ q ∷ []) s.requests;
    order = s.order;
    stable = s.stable;
    root = s.root;
    decisions = s.decisions;
    size = s.size;
    voters = s.voters;
    root_voters = s.root_voters;
    conditions = s.conditions;
    aimed = s.aimed;
    words = s.words;
    roots = s.roots;
  }

  pub went_ask : (c new : Kept) (client : ℕ) (time : Time) (bytes : List ℕ) (servers : List X) (tables : List ConfTable)
      (met : List FaultPoint) (ls : List Line) → met ≡ [] → ls ≡ [] →
      new ≡ record c { requests = c.requests ++ record { time = time; bytes = bytes } ∷ [] } →
      Went state (Ask client time bytes) c new servers servers tables tables met ls
  went_ask c new client time bytes servers tables met ls no_met no_lines new_is =
      let q : Request = record { time = time; bytes = bytes } in
      record {
        numbered = subst (All (λ (d : FaultPoint). (d.event ≡ suc c.events) × (d.replica < 3 * c.limits.f + 1)))
            (sym no_met) (All-nil (λ (d : FaultPoint). (d.event ≡ suc c.events) × (d.replica < 3 * c.limits.f + 1)));
        lines_are = ap (map (λ (d : FaultPoint). d.replica)) no_met ∙ sym (ap (flat_map failed_of) no_lines);
        limits = ap (λ (k : Kept). k.limits) new_is;
        requests = ap (λ (k : Kept). k.requests) new_is;
        events = ap (λ (k : Kept). k.events) new_is;
        moves = λ m good s. step_follows state c new servers servers tables tables met (Ask client time bytes) ls m s
            (λ j spare e. absurd (cc)) (refl, refl) (
              subst (λ (k : Kept). IsState state k servers tables (asks q m).state) (sym new_is)
                  (state_asks c q servers tables m s),
              sym (append-nil m.lines) ∙ ap (λ l. m.lines ++ l) (sym no_lines),
            )
            (struck_none state ls servers (ap (flat_map failed_of) no_lines));
      }

  pub ask_went : (result : Result (Unit {0}) NoMemory) (c new : Kept) (client : ℕ) (time : Time) (bytes : List ℕ)
      (servers : List X) (tables : List ConfTable) (met : List FaultPoint) (ls : List Line) → met ≡ [] → ls ≡ [] →
      OnOk result (new ≡ record c { requests = c.requests ++ record { time = time; bytes = bytes } ∷ [] }) →
      OnOk result (Went state (Ask client time bytes) c new servers servers tables tables met ls)
  ask_went (Ok u) c new client time bytes servers tables met ls no_met no_lines h =
      went_ask c new client time bytes servers tables met ls no_met no_lines h
  ask_went (Err e) c new client time bytes servers tables met ls no_met no_lines h = tt

  pub ask_arrays : (result : Result (Unit {0}) NoMemory) (c new : Kept) (qs : List Request) (servers : List X)
      (tables : List ConfTable) → HaveArrays state c servers tables →
      OnOk result (new ≡ record c { requests = qs }) → OnOk result (HaveArrays state new servers tables)
  ask_arrays (Ok u) c new qs servers tables have new_is =
      subst (λ (k : Kept). HaveArrays state k servers tables) (sym new_is) have
  ask_arrays (Err e) c new qs servers tables have new_is = tt
