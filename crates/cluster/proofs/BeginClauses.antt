-- The clauses of a beginning, over plain values: one replica, and those before it.
use Rattle.std.proofs.Common.{◌≡◌, ℕ, suc, ◌+◌, ◌<◌, ◌≤◌, Bool, true, false, List, [], ◌∷◌, ◌++◌, map, length, slice_get, Option, Result, Err, inl, inr, refl, sym, ◌∙◌, ap, subst, arith}
use Rattle.std.specs.Prelude.{slice_index_or}
use Rattle.std.specs.List.{flat_map}
use Rattle.std.proofs.lemmas.List.{append-nil, length-append, get_or_append_left}
use Rattle.std.proofs.Math.Seq.{get_or-append_seam}
use Rattle.nfs2_types.specs.declared.Limits.{Limits}
use Rattle.server_trait.specs.Tree.{Server}
use Rattle.server_trait.specs.declared.ConfTable.{ConfTable}
use Rattle.server_trait.specs.declared.FaultPoint.{FaultPoint}
use Rattle.server_trait.specs.declared.WrapErr.{WrapErr}
use Rattle.server_trait.specs.declared.WrapErr.TheVariants as errors
use Rattle.server_trait.proofs.TreeLaws.{one_or_not}
use Rattle.log_format.specs.declared.Line.{Line}
use Rattle.log_format.specs.declared.Line.TheVariants as lines
use Rattle.cluster_model.specs.Moments.{Faults}
use Rattle.cluster_model.specs.Turns.{Slot}
use Rattle.cluster_model.specs.Run.{failed_of}
use Rattle.replica.specs.declared.Replica.{Replica as Runner}
use Rattle.replica.specs.Replicas.{IsOver}
use Rattle.replica.proofs.Overs.{over_begun}
use Rattle.seats.specs.declared.Seat.{Seat}
use Rattle.seats.specs.declared.Seat.TheVariants.{Live as LiveSeat, Down as DownSeat}
use Rattle.seats.specs.Positions.{ChangesAt, WatchedAt, AreLater}
use Rattle.seats.proofs.Seats.{is_there}
use Rattle.cluster.specs.Turned.{AreStruckBy, FailAs, points, points_of, round_slots}
use Rattle.cluster.specs.Begun.{SeatBegins, begin_line, begin_lines, BeginsAt, Begun}
use Rattle.cluster.proofs.ListFacts.{map-append, flat_map-append}
use Rattle.cluster.proofs.Faults.{round_size}
use Rattle.cluster.proofs.Goings.{fail_first, fail_then, points-append, round_more}
use Rattle.cluster.proofs.Struck.{struck_none, struck_down, struck_then, later_none}
use Rattle.cluster.proofs.Seated.{over_pushed}
use Rattle.cluster.proofs.Beginning.{lines_more}

-- what a line of a beginning tells is what its point tells
tells_one : (b : Bool) (r : ℕ) → flat_map failed_of (begin_line b r)
    ≡ map (λ (d : FaultPoint). d.replica) (points 0 (record { round = 0; replica = r }) b)
tells_one false r = refl
tells_one true r = refl

module _ {X : Type 0} (state : X → Server) (limits : Limits) where
  -- a replica that begins is over as many entries as the array
  over_begins : 1 ≤ limits.n → (b : Bool) (k : Runner) (s : Option X) (t : Option ConfTable) →
      SeatBegins state limits b (LiveSeat k) s t → IsOver limits.n k
  over_begins some true k s t h = absurd h
  over_begins some false k s t h = subst (IsOver limits.n) (sym h.0) (over_begun limits.n some)

  pub begins_down : (r : ℕ) (servers servers' : List X) (tables tables' : List ConfTable)
      (seats seats' : List Seat) (met met' : List FaultPoint) (ls ls' : List Line)
      (result : Result Runner WrapErr) (e : WrapErr) → e ≡ errors.Down → r < length servers → r < length tables →
      WatchedAt {T = Runner} state (slice_get servers r) (slice_get servers' r) (Err e) →
      ChangesAt r servers servers' → ChangesAt r tables tables' → seats' ≡ seats ++ DownSeat ∷ [] →
      ls' ≡ ls ++ lines.Down r ∷ [] → met' ≡ met ++ record { event = 0; stage = 0; replica = r } ∷ [] →
      BeginsAt state limits r servers servers' tables tables' seats seats' met met' ls ls'
  begins_down r servers servers' tables tables' seats seats' met met' ls ls' result e down within in_table watched sv tb
      seat line point =
      let h : WatchedAt {T = Runner} state (slice_get servers r) (slice_get servers' r) (Err errors.Down) =
      subst (λ e. WatchedAt {T = Runner} state (slice_get servers r) (slice_get servers' r) (Err e)) down watched in
      record {
        fault = true;
        seat = DownSeat;
        seats_are = seat;
        met_are = point;
        lines_are = line;
        begins = (
          is_there servers' r (let size = sv.size in omega (arith, within, size)),
          is_there tables' r (let size = tb.size in omega (arith, in_table, size)),
        );
        servers_change = sv;
        tables_change = tb;
        struck = struck_down state servers servers' r within sv (Err errors.Down) h h.watched.limits h.watched.faults.1;
      }

  pub begun_none : (servers : List X) (tables : List ConfTable) →
      Begun state limits 0 servers servers tables [] [] []
  begun_none servers tables = record {
    faults_are = [];
    long = refl;
    many = refl;
    over = λ r k e. absurd (cc);
    met_are = refl;
    tells = refl;
    struck = struck_none state [] servers refl;
    size = refl;
    begins = λ faults f r low. absurd (omega arith);
    said = λ faults f. refl;
  }

  pub begun_first : (xs ys : List X) (tables : List ConfTable) (seats : List Seat) (met : List FaultPoint)
      (ls : List Line) → ys ≡ xs → seats ≡ [] → met ≡ [] → ls ≡ [] →
      Begun state limits 0 xs ys tables seats met ls
  begun_first xs ys tables seats met ls same no_seats no_met no_lines =
      rw (same, no_seats, no_met, no_lines) (begun_none xs tables)

  pub later_first : (n : ℕ) (xs ys : List X) → ys ≡ xs → AreLater state n xs ys
  later_first n xs ys same = rw same (later_none state n xs)

  pub begun_more : 1 ≤ limits.n → (r : ℕ) (xs ys zs : List X) (ta tb : List ConfTable) (sa sb : List Seat)
      (ma mb : List FaultPoint) (la lb : List Line) → Begun state limits r xs ys ta sa ma la →
      BeginsAt state limits r ys zs ta tb sa sb ma mb la lb → Begun state limits (r + 1) xs zs tb sb mb lb
  begun_more some r xs ys zs ta tb sa sb ma mb la lb h b =
      let one : Slot = record { round = 0; replica = r } in
      let fs = h.faults_are ++ b.fault ∷ [] in
      let long_is : length h.faults_are ≡ length (round_slots 0 r) = h.long ∙ sym (round_size r) in
      let slots_are : round_slots 0 (r + 1) ≡ round_slots 0 r ++ one ∷ [] = round_more 0 r in
      let points_are : points_of 0 (round_slots 0 (r + 1)) fs
      ≡ points_of 0 (round_slots 0 r) h.faults_are ++ points 0 one b.fault =
      ap (λ ts. points_of 0 ts fs) slots_are
      ∙ points-append 0 (round_slots 0 r) (one ∷ []) h.faults_are (b.fault ∷ []) long_is
      ∙ ap (λ ps. points_of 0 (round_slots 0 r) h.faults_are ++ ps) (append-nil (points 0 one b.fault)) in
      let split : (faults : Faults) → FailAs faults (round_slots 0 (r + 1)) fs →
      FailAs faults (round_slots 0 r ++ one ∷ []) fs =
      λ faults f. subst (λ ts. FailAs faults ts fs) slots_are f in
      let first : (faults : Faults) → FailAs faults (round_slots 0 (r + 1)) fs →
      FailAs faults (round_slots 0 r) h.faults_are =
      λ faults f. fail_first faults (round_slots 0 r) (one ∷ []) h.faults_are (b.fault ∷ []) long_is (split faults f) in
      let here : (faults : Faults) → FailAs faults (round_slots 0 (r + 1)) fs → faults 0 r ≡ b.fault =
      λ faults f. (fail_then faults (round_slots 0 r) (one ∷ []) h.faults_are (b.fault ∷ []) long_is (split faults f)).0 in
      let suc_is : r + 1 ≡ suc r = omega arith in
      record {
        faults_are = fs;
        long = length-append h.faults_are (b.fault ∷ []) ∙ (let z = h.long in omega arith);
        many = ap length b.seats_are ∙ length-append sa (b.seat ∷ []) ∙ (let z = h.many in omega arith);
        over = λ i k e. over_pushed limits.n sa sb b.seat b.seats_are h.over
            (λ j is. over_begins some b.fault j (slice_get zs r) (slice_get tb r)
            (subst (λ o. SeatBegins state limits b.fault o (slice_get zs r) (slice_get tb r)) is b.begins)) i k e;
        met_are = b.met_are ∙ ap (λ ps. ps ++ points 0 one b.fault) h.met_are ∙ sym points_are;
        tells = ap (flat_map failed_of) b.lines_are ∙ flat_map-append failed_of la (begin_line b.fault r)
            ∙ ap (λ rs. rs ++ flat_map failed_of (begin_line b.fault r)) h.tells
            ∙ ap (λ rs. map (λ (d : FaultPoint). d.replica) ma ++ rs) (tells_one b.fault r)
            ∙ sym (map-append (λ (d : FaultPoint). d.replica) ma (points 0 one b.fault))
            ∙ ap (map (λ (d : FaultPoint). d.replica)) (sym b.met_are);
        struck = subst (λ ls. AreStruckBy state ls xs zs) (sym b.lines_are)
            (struck_then state la (begin_line b.fault r) xs ys zs h.size b.servers_change.size h.struck b.struck);
        size = b.servers_change.size ∙ h.size;
        begins = λ faults f k low. elim (one_or_not k r) as (λ _. SeatBegins state limits (faults 0 k)
            (slice_index_or sb k DownSeat) (slice_get zs k) (slice_get tb k)) [
              | inl is ↦
                  let seam : slice_index_or (sa ++ b.seat ∷ []) (length sa) DownSeat ≡ b.seat =
                  get_or-append_seam sa b.seat [] DownSeat in
                  let seat_is : slice_index_or sb r DownSeat ≡ b.seat = ap (λ ss. slice_index_or ss r DownSeat) b.seats_are
                  ∙ ap (λ j. slice_index_or (sa ++ b.seat ∷ []) j DownSeat) (sym h.many) ∙ seam in
                  subst (λ k. SeatBegins state limits (faults 0 k) (slice_index_or sb k DownSeat) (slice_get zs k)
                  (slice_get tb k)) (sym is)
                  (rw (here faults f, seat_is) b.begins)
              | inr ne ↦
                  let under : k < r = omega arith in
                  let seat_is : slice_index_or sb k DownSeat ≡ slice_index_or sa k DownSeat =
                  ap (λ ss. slice_index_or ss k DownSeat) b.seats_are
                  ∙ get_or_append_left sa (b.seat ∷ []) DownSeat k (let z = h.many in omega arith) in
                  rw (seat_is, b.servers_change.others k ne, b.tables_change.others k ne)
                  (h.begins faults (first faults f) k under)
            ];
        said = λ faults f. b.lines_are ∙ ap (λ ls. ls ++ begin_line b.fault r) (h.said faults (first faults f))
            ∙ ap (λ c. begin_lines faults r ++ begin_line c r) (sym (here faults f))
            ∙ sym (lines_more faults r) ∙ ap (begin_lines faults) (sym suc_is);
      }
