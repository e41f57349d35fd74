-- The start: what the model makes of it, and that cluster and bench stand for that.
use Rattle.std.proofs.Common.{◌≡◌, ◌≢◌, ℕ, zero, suc, ◌+◌, ◌*◌, ◌<◌, ◌≤◌, Bool, true, false, cond, List, [], ◌∷◌, ◌++◌, length, slice_get, Option, None, inl, inr, refl, sym, ◌∙◌, ap, subst, arith}
use Rattle.std.specs.Prelude.{slice_index_or, option_map, replicate}
use Rattle.std.specs.List.{All}
use Rattle.std.proofs.lemmas.List.{append-nil, length-set, get_or-set_same, get_or-set_other, get_or-replicate, length-replicate}
use Rattle.std.proofs.lemmas.Option.{slice_get_within}
use Rattle.nfs2_types.specs.declared.Limits.{Limits}
use Rattle.nfs2_types.specs.declared.Word.TheVariants as words
use Rattle.abs_model.specs.Array.{empty_array}
use Rattle.server_trait.specs.Tree.{Server}
use Rattle.server_trait.specs.declared.ConfTable.{ConfTable}
use Rattle.server_trait.specs.declared.FaultPoint.{FaultPoint}
use Rattle.server_trait.proofs.TreeLaws.{one_or_not}
use Rattle.log_format.specs.declared.Line.{Line}
use Rattle.cluster_model.specs.Service.{Service}
use Rattle.cluster_model.specs.Tree.{below, root}
use Rattle.cluster_model.specs.State.{Condition, Live, Down, Replica, lookup, has}
use Rattle.cluster_model.specs.Moments.{Moment, Faults, gone, replica, put, fails}
use Rattle.cluster_model.specs.Turns.{begins, moments, last}
use Rattle.cluster_model.specs.Run.{Always, faults_in, fresh, start, start_fault}
use Rattle.cluster_model.proofs.Lines.{Chain, same_grows, chain_moments, start_fault_grows}
use Rattle.cluster_model.proofs.Voted.{Always-moments}
use Rattle.service_laws.specs.Served.{IsSized, service}
use Rattle.partition_tree.specs.Digests.{IsRoot}
use Rattle.replica.specs.declared.Replica.{Replica as Runner}
use Rattle.replica.specs.Replicas.{digests_of}
use Rattle.recovery.specs.Rebuilt.{Rebuilt}
use Rattle.seats.specs.declared.Seat.{Seat}
use Rattle.seats.specs.declared.Seat.TheVariants.{Live as LiveSeat, Rebuilding as RebuildingSeat, Down as DownSeat}
use Rattle.reply_vote.specs.Ballots.{word_at}
use Rattle.seats.specs.Positions.{StandsAt}
use Rattle.seats.specs.Seats.{HasArray}
use Rattle.cluster.specs.OverBench.{Kept, IsKeptBy, IsSeat, IsState, HaveArrays}
use Rattle.cluster.specs.Steps.{Starts}
use Rattle.cluster.specs.Turned.{FailAs, round_slots}
use Rattle.cluster.specs.Begun.{SeatBegins, begin_line, begin_lines, Begun}
use Rattle.cluster.proofs.ListFacts.{read_is, flat_map-append}
use Rattle.cluster.proofs.Faults.{fails_as, round_differ, round_within, round_size, points_low}
use Rattle.cluster.proofs.StruckMoments.{struck_moments}
use Rattle.cluster.proofs.Checkpoints.{keeps_begun, empty_root_is}

-- THE MODEL'S START

moments_push : {X : Type 0} (small : Moment → X → Moment) (m : Moment) (xs : List X) (x : X) →
    last m (moments small m (xs ++ x ∷ [])) ≡ small (last m (moments small m xs)) x
moments_push small m [] x = refl
moments_push small m (y ∷ xs) x = moments_push small (small m y) xs x

pub lines_more : (faults : Faults) (n : ℕ) →
    begin_lines faults (suc n) ≡ begin_lines faults n ++ begin_line (faults 0 n) n
lines_more faults n = flat_map-append (λ r. begin_line (faults 0 r) r) (below n) (n ∷ [])
    ∙ ap (λ ls. begin_lines faults n ++ ls) (append-nil (begin_line (faults 0 n) n))

module _ (S : Service) (servers : ℕ) (faults : Faults) where
  -- after the first j replicas had their chance to fail
  pub record Started (j : ℕ) (m : Moment) : Type 0 where
    pub requests : m.state.requests ≡ []
    pub bench : m.state.bench ≡ below servers
    pub stable : m.state.stable ≡ 0
    pub root : m.state.root ≡ root S S.empty
    pub decisions : m.state.decisions ≡ []
    pub size : length m.state.replicas ≡ 3 * S.f + 1
    pub words : (r : ℕ) → r < 3 * S.f + 1 → (replica m.state r).words ≡ []
    pub roots : (r : ℕ) → r < 3 * S.f + 1 → (replica m.state r).roots ≡ []
    pub before : (r : ℕ) → r < j → r < 3 * S.f + 1 →
        (replica m.state r).condition ≡ cond (faults 0 r) Down (Live (begins S 0 S.empty))
    pub behind : (r : ℕ) → j ≤ r → r < 3 * S.f + 1 → (replica m.state r).condition ≡ Live (begins S 0 S.empty)
    pub said : m.lines ≡ begin_lines faults j

  started_none : Started 0 (fresh S servers)
  started_none =
      let x : Replica = record { condition = Live (begins S 0 S.empty); words = []; roots = [] } in
      let n = 3 * S.f + 1 in
      let at : (r : ℕ) → r < n → slice_index_or (replicate n x) r gone ≡ x = λ r l. get_or-replicate n r x gone l in
      record {
        requests = refl;
        bench = refl;
        stable = refl;
        root = refl;
        decisions = refl;
        size = length-replicate n x;
        words = λ r l. ap (λ (y : Replica). y.words) (at r l);
        roots = λ r l. ap (λ (y : Replica). y.roots) (at r l);
        before = λ r low l. absurd (omega arith);
        behind = λ r high l. ap (λ (y : Replica). y.condition) (at r l);
        said = refl;
      }

  started_more : (j : ℕ) (m : Moment) → j < 3 * S.f + 1 → Started j m → Started (suc j) (start_fault faults m j)
  started_more j m within h = by (faults 0 j) refl
    where
      said_by : (b : Bool) → faults 0 j ≡ b → m.lines ++ begin_line b j ≡ begin_lines faults (suc j)
      said_by b e = ap (λ ls. ls ++ begin_line b j) h.said ∙ ap (λ c. begin_lines faults j ++ begin_line c j) (sym e)
          ∙ sym (lines_more faults j)

      by : (b : Bool) → faults 0 j ≡ b → Started (suc j) (cond b (fails j m) m)
      by true e =
          let x : Replica = record (replica m.state j) { condition = Down } in
          let s = put j x m.state in
          let same : replica s j ≡ x = get_or-set_same m.state.replicas j x gone (let z = h.size in omega arith) in
          let other : (k : ℕ) → k ≢ j → replica s k ≡ replica m.state k =
          λ k ne. get_or-set_other m.state.replicas j k x gone ne in
          record {
            requests = h.requests;
            bench = h.bench;
            stable = h.stable;
            root = h.root;
            decisions = h.decisions;
            size = length-set m.state.replicas j x ∙ h.size;
            words = λ r l. elim (one_or_not r j) as (λ _. (replica s r).words ≡ []) [
              | inl is ↦ ap (λ k. (replica s k).words) is ∙ ap (λ (y : Replica). y.words) same ∙ h.words j within
              | inr ne ↦ ap (λ (y : Replica). y.words) (other r ne) ∙ h.words r l
            ];
            roots = λ r l. elim (one_or_not r j) as (λ _. (replica s r).roots ≡ []) [
              | inl is ↦ ap (λ k. (replica s k).roots) is ∙ ap (λ (y : Replica). y.roots) same ∙ h.roots j within
              | inr ne ↦ ap (λ (y : Replica). y.roots) (other r ne) ∙ h.roots r l
            ];
            before = λ r low l. elim (one_or_not r j) as
                (λ _. (replica s r).condition ≡ cond (faults 0 r) Down (Live (begins S 0 S.empty))) [
                  | inl is ↦ ap (λ k. (replica s k).condition) is ∙ ap (λ (y : Replica). y.condition) same
                      ∙ sym (ap (λ k. cond (faults 0 k) Down (Live (begins S 0 S.empty))) is
                      ∙ ap (λ b. cond b Down (Live (begins S 0 S.empty))) e)
                  | inr ne ↦ ap (λ (y : Replica). y.condition) (other r ne) ∙ h.before r (omega arith) l
                ];
            behind = λ r high l. ap (λ (y : Replica). y.condition) (other r (λ z. omega (arith, z, high)))
                ∙ h.behind r (omega arith) l;
            said = said_by true e;
          }
      by false e = record {
        requests = h.requests;
        bench = h.bench;
        stable = h.stable;
        root = h.root;
        decisions = h.decisions;
        size = h.size;
        words = h.words;
        roots = h.roots;
        before = λ r low l. elim (one_or_not r j) as
            (λ _. (replica m.state r).condition ≡ cond (faults 0 r) Down (Live (begins S 0 S.empty))) [
              | inl is ↦ h.behind r (omega (arith, is)) l
                  ∙ sym (ap (λ k. cond (faults 0 k) Down (Live (begins S 0 S.empty))) is
                  ∙ ap (λ b. cond b Down (Live (begins S 0 S.empty))) e)
              | inr ne ↦ h.before r (omega arith) l
            ];
        behind = λ r high l. h.behind r (omega arith) l;
        said = sym (append-nil m.lines) ∙ said_by false e;
      }

  started_upto : (j : ℕ) → j ≤ 3 * S.f + 1 →
      Started j (last (fresh S servers) (moments (start_fault faults) (fresh S servers) (below j)))
  started_upto zero within = started_none
  started_upto (suc j) within =
      let m = fresh S servers in
      subst (Started (suc j)) (sym (moments_push (start_fault faults) m (below j) j))
      (started_more j (last m (moments (start_fault faults) m (below j))) (omega arith) (started_upto j (omega arith)))

-- the end of the start
start_ends : (S : Service) (servers : ℕ) (downs : List FaultPoint) →
    Started S servers (faults_in downs 0) (3 * S.f + 1) (last (fresh S servers) (start S servers downs))
start_ends S servers downs = started_upto S servers (faults_in downs 0) (3 * S.f + 1) (omega arith)

start_chain : (S : Service) (servers : ℕ) (downs : List FaultPoint) → Chain (fresh S servers) (start S servers downs)
start_chain S servers downs = (
  same_grows (fresh S servers),
  chain_moments (start_fault (faults_in downs 0)) (start_fault_grows (faults_in downs 0)) (fresh S servers)
      (below (3 * S.f + 1)),
)

start_bench : (S : Service) (servers : ℕ) (downs : List FaultPoint) →
    Always (λ (n : Moment). n.state.bench ≡ below servers) (start S servers downs)
start_bench S servers downs = (
  refl,
  Always-moments (λ (n : Moment). n.state.bench ≡ below servers) (start_fault (faults_in downs 0))
      (λ m r h. by m r h (faults_in downs 0 0 r)) (fresh S servers) (below (3 * S.f + 1)) refl,
)
  where
    by : (m : Moment) (r : ℕ) → m.state.bench ≡ below servers → (b : Bool) →
        (cond b (fails r m) m).state.bench ≡ below servers
    by m r h true = h
    by m r h false = h

-- what is known of the service
pub service_begins : (limits : Limits) → ((service limits).f ≡ limits.f) × ((service limits).empty ≡ empty_array limits.n)
unfolding service
service_begins limits = (refl, refl)

-- THE CODE'S START

-- what a cluster keeps that has just begun
pub record IsNew (limits : Limits) (c : Kept) : Type 0 where
  pub limits_are : c.limits ≡ limits
  pub requests : c.requests ≡ []
  pub voters : length c.ballots ≡ 3 * limits.f + 1
  pub no_words : (k p : ℕ) → word_at c.ballots k p ≡ None
  pub decisions : (p : ℕ) → c.decisions p ≡ None
  pub root_voters : length c.roots ≡ 3 * limits.f + 1
  pub no_roots : (k p : ℕ) → word_at c.roots k p ≡ None
  pub stable : c.stable ≡ 0
  pub root : IsRoot (digests_of (empty_array limits.n)) c.root
  pub events : c.events ≡ 0

module _ {X : Type 0} (state : X → Server) (limits : Limits) (sized : IsSized limits) where
  begins_seat : (b : Bool) (seat : Seat) (s : Option X) (t : Option ConfTable) (c : Condition) →
      SeatBegins state limits b seat s t →
      c ≡ cond b Down (Live (begins (service limits) 0 (service limits).empty)) → IsSeat state limits seat s t c
  begins_seat true DownSeat s t c h e = e
  begins_seat true (LiveSeat k) s t c h e = absurd h
  begins_seat true (RebuildingSeat b) s t c h e = absurd h
  begins_seat false DownSeat s t c h e = absurd h
  begins_seat false (RebuildingSeat b) s t c h e = absurd h
  begins_seat false (LiveSeat k) s t c h e = record {
    live = begins (service limits) 0 (service limits).empty;
    is_live = e;
    stands = subst (StandsAt state limits s t) (sym (service_begins limits).1) h.1;
    keeps = subst (λ (j : Runner). IsKeptBy j (begins (service limits) 0 (service limits).empty)) (sym h.0)
        (keeps_begun limits);
  }

  none_begins : (f : Bool) (b : Rebuilt) (s : Option X) (t : Option ConfTable) →
      SeatBegins state limits f (RebuildingSeat b) s t → ⊥
  none_begins true b s t h = h
  none_begins false b s t h = h

  array_seat : (b : Bool) (seat : Seat) (s : Option X) (t : Option ConfTable) → SeatBegins state limits b seat s t →
      HasArray state limits seat s t
  array_seat true DownSeat s t h = h
  array_seat true (LiveSeat k) s t h = absurd h
  array_seat true (RebuildingSeat b) s t h = absurd h
  array_seat false DownSeat s t h = absurd h
  array_seat false (LiveSeat k) s t h = (empty_array limits.n, h.1)
  array_seat false (RebuildingSeat b) s t h = absurd h

  module _ (c : Kept) (new : IsNew limits c) (servers servers' : List X) (tables' : List ConfTable) (met : List FaultPoint)
      (ls : List Line) (h : Begun state limits (3 * limits.f + 1) servers servers' tables' c.seats met ls) where
    abbrev first : Moment
    first = fresh (service limits) (length servers)

    abbrev end : Moment
    end = last first (start (service limits) (length servers) met)

    as_points : FailAs (faults_in met 0) (round_slots 0 (3 * limits.f + 1)) h.faults_are
    as_points = subst (λ ps. FailAs (faults_in ps 0) (round_slots 0 (3 * limits.f + 1)) h.faults_are) (sym h.met_are)
        (fails_as 0 (round_slots 0 (3 * limits.f + 1)) h.faults_are
        (h.long ∙ sym (round_size (3 * limits.f + 1))) (round_differ 0 (3 * limits.f + 1)))

    started : Started (service limits) (length servers) (faults_in met 0) (3 * limits.f + 1) end
    unfolding service
    started = start_ends (service limits) (length servers) met

    pub begun_state : IsState state c servers' tables' end.state
    unfolding service
    begun_state = record {
      requests = started.requests ∙ sym new.requests;
      order = started.bench ∙ ap below (sym h.size);
      stable = started.stable ∙ sym new.stable;
      root = started.root ∙ sym (empty_root_is limits sized c.root new.root);
      decisions = λ p. ap (lookup p) started.decisions ∙ sym (new.decisions p);
      size = started.size ∙ sym h.many;
      voters = new.voters ∙ sym h.many;
      root_voters = new.root_voters ∙ sym h.many;
      conditions = λ r l. (
          let low : r < 3 * limits.f + 1 = (let e = h.many in omega arith) in
          subst (λ l. IsSeat state l (slice_index_or c.seats r DownSeat) (slice_get servers' r) (slice_get tables' r)
          (replica end.state r).condition) (sym new.limits_are)
          (begins_seat (faults_in met 0 0 r) (slice_index_or c.seats r DownSeat) (slice_get servers' r) (slice_get tables' r)
          (replica end.state r).condition (h.begins (faults_in met 0) as_points r low) (started.before r low low)));
      aimed = λ r b at. (
          let is : slice_index_or c.seats r DownSeat ≡ RebuildingSeat b = read_is c.seats r (RebuildingSeat b) DownSeat at in
          let low : r < 3 * limits.f + 1 =
          (let w = slice_get_within c.seats r (RebuildingSeat b) at in let e = h.many in omega arith) in
          absurd (none_begins (faults_in met 0 0 r) b (slice_get servers' r) (slice_get tables' r)
          (subst (λ o. SeatBegins state limits (faults_in met 0 0 r) o (slice_get servers' r) (slice_get tables' r)) is
          (h.begins (faults_in met 0) as_points r low))));
      words = λ r p l. (
          let low : r < 3 * limits.f + 1 = (let e = h.many in omega arith) in
          ap (lookup p) (started.words r low)
          ∙ sym (ap (λ o. cond (has o) None (word_at c.ballots r p)) (new.decisions p) ∙ new.no_words r p));
      roots = λ r p l. (
          let low : r < 3 * limits.f + 1 = (let e = h.many in omega arith) in
          ap (λ ds. option_map words.Reply (lookup p ds)) (started.roots r low) ∙ sym (new.no_roots r p));
    }

    pub begun_arrays : HaveArrays state c servers' tables'
    begun_arrays r seat e =
        let at : slice_index_or c.seats r DownSeat ≡ seat = read_is c.seats r seat DownSeat e in
        let low : r < 3 * limits.f + 1 =
        (let w = slice_get_within c.seats r seat e in let z = h.many in omega arith) in
        subst (λ l. HasArray state l seat (slice_get servers' r) (slice_get tables' r)) (sym new.limits_are)
        (subst (λ x. HasArray state limits x (slice_get servers' r) (slice_get tables' r)) at
        (array_seat (faults_in met 0 0 r) (slice_index_or c.seats r DownSeat) (slice_get servers' r)
        (slice_get tables' r) (h.begins (faults_in met 0) as_points r low)))

    pub begun_starts : Starts state limits c servers servers' tables' met ls
    unfolding service
    begun_starts = record {
      numbered = subst (All (λ (d : FaultPoint). (d.event ≡ 0) × (d.replica < 3 * limits.f + 1))) (sym h.met_are)
          (points_low limits 0 (round_slots 0 (3 * limits.f + 1)) h.faults_are (round_within 0 (3 * limits.f + 1)));
      lines_are = sym h.tells;
      limits_are = new.limits_are;
      requests = new.requests;
      events = new.events;
      stands = begun_state;
      lines_said = started.said ∙ sym (h.said (faults_in met 0) as_points);
      struck = struck_moments state first (start (service limits) (length servers) met) ls servers servers'
          (start_chain (service limits) (length servers) met) refl (start_bench (service limits) (length servers) met)
          started.bench (started.said ∙ sym (h.said (faults_in met 0) as_points)) h.struck;
    }

-- a cluster that has just begun
pub new_cluster : (limits : Limits) (c : Kept) → c.limits ≡ limits → c.requests ≡ [] →
    length c.ballots ≡ 3 * limits.f + 1 → ((k p : ℕ) → word_at c.ballots k p ≡ None) →
    ((p : ℕ) → c.decisions p ≡ None) → length c.roots ≡ 3 * limits.f + 1 →
    ((k p : ℕ) → word_at c.roots k p ≡ None) → c.stable ≡ 0 → IsRoot (digests_of (empty_array limits.n)) c.root →
    c.events ≡ 0 → IsNew limits c
new_cluster limits c limits_are requests voters no_words decisions root_voters no_roots stable root events = record {
  limits_are = limits_are;
  requests = requests;
  voters = voters;
  no_words = no_words;
  decisions = decisions;
  root_voters = root_voters;
  no_roots = no_roots;
  stable = stable;
  root = root;
  events = events;
}
