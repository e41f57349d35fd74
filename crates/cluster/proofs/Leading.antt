-- What leads from one scene to another, one after the other; and a slot of a server that was called.
use Rattle.std.proofs.Common.{◌≡◌, ℕ, suc, ◌+◌, ◌<◌, Bool, true, false, List, [], ◌∷◌, ◌++◌, map, length, slice_get, Some, Result, Ok, Err, inl, inr, refl, sym, ◌∙◌, ap, subst, arith}
use Rattle.std.specs.Prelude.{slice_set, slice_index_or}
use Rattle.std.specs.List.{flat_map}
use Rattle.std.proofs.lemmas.List.{append-nil, append_assoc, length-append}
use Rattle.std.proofs.lemmas.Option.{slice_get_within}
use Rattle.nfs2_types.specs.Counts.{Rose}
use Rattle.server_trait.specs.Tree.{Server}
use Rattle.server_trait.specs.declared.FaultPoint.{FaultPoint}
use Rattle.server_trait.specs.declared.WrapErr.{WrapErr}
use Rattle.server_trait.specs.declared.WrapErr.TheVariants as errors
use Rattle.server_trait.proofs.TreeLaws.{one_or_not}
use Rattle.conf_map.proofs.InStep.{slice_get-set_other, slice_get-set_same}
use Rattle.log_format.specs.declared.Line.{Line}
use Rattle.log_format.specs.declared.Line.TheVariants as lines
use Rattle.cluster_model.specs.Moments.{Moment, Faults}
use Rattle.cluster_model.specs.Turns.{Slot}
use Rattle.cluster_model.specs.Run.{failed_of}
use Rattle.seats.specs.declared.Seat.{Seat}
use Rattle.seats.specs.declared.Seat.TheVariants.{Down as DownSeat}
use Rattle.seats.specs.Positions.{ChangesAt, WatchedAt}
use Rattle.cluster.specs.OverBench.{Kept, IsState, IsAimedAt, HaveArrays, HaveRoom}
use Rattle.cluster.specs.Turned.{points_of, FailAs, TurnStays}
use Rattle.cluster.specs.Fetching.{Scene, scene, Led, seat_in}
use Rattle.cluster.proofs.ListFacts.{map-append, flat_map-append, read_is, read_same}
use Rattle.cluster.proofs.Struck.{struck_none, struck_ok, struck_down, struck_then}
use Rattle.cluster.proofs.TurnClauses.{stays_none}
use Rattle.cluster.proofs.Goings.{fail_first, fail_then, points-append}

-- no server fails at these slots
abbrev pub unfailed : List Slot → List Bool
unfailed [] = []
unfailed (t ∷ ts) = false ∷ unfailed ts

unfailed_long : (ts : List Slot) → length (unfailed ts) ≡ length ts
unfailed_long [] = refl
unfailed_long (t ∷ ts) = ap suc (unfailed_long ts)

unfailed_points : (e : ℕ) (ts : List Slot) → points_of e ts (unfailed ts) ≡ []
unfailed_points e [] = refl
unfailed_points e (t ∷ ts) = unfailed_points e ts

-- what is aimed stays so, where the seat at one position is exchanged
pub aims_set : (seats seats' : List Seat) (r : ℕ) (old new : Seat) → slice_get seats r ≡ Some old →
    seats' ≡ slice_set seats r new → ((p : ℕ) → IsAimedAt p old → IsAimedAt p new) → (j p : ℕ) →
    IsAimedAt p (slice_index_or seats j DownSeat) → IsAimedAt p (slice_index_or seats' j DownSeat)
aims_set seats seats' r old new at is keeps j p h =
    subst (λ xs. IsAimedAt p (slice_index_or xs j DownSeat)) (sym is)
    (elim (one_or_not j r) as (λ _. IsAimedAt p (slice_index_or (slice_set seats r new) j DownSeat)) [
      | inl same ↦
          let was : slice_index_or seats j DownSeat ≡ old =
          ap (λ k. slice_index_or seats k DownSeat) same ∙ read_is seats r old DownSeat at in
          let now : slice_index_or (slice_set seats r new) j DownSeat ≡ new =
          ap (λ k. slice_index_or (slice_set seats r new) k DownSeat) same
          ∙ read_is (slice_set seats r new) r new DownSeat (slice_get-set_same seats r new old at) in
          subst (IsAimedAt p) (sym now) (keeps p (subst (IsAimedAt p) was h))
      | inr ne ↦ subst (IsAimedAt p) (sym (read_same (slice_set seats r new) seats j DownSeat
          (slice_get-set_other seats r j new ne))) h
    ])

module _ {X : Type 0} (state : X → Server) where
  -- one after the other
  pub led_then : (L M : Faults → Moment → Moment → Type 0) (ts us : List Slot) (a b c : Scene X) →
      Led state L ts a b → Led state M us b c →
      Led state (λ faults m n. (k : Moment) × L faults m k × M faults k n) (ts ++ us) a c
  led_then L M ts us a b c h k =
      let e = suc a.kept.events in
      let points_are : points_of (suc b.kept.events) us k.faults_are ≡ points_of e us k.faults_are =
      ap (λ n. points_of (suc n) us k.faults_are) h.stays.same.events in
      let all : points_of e (ts ++ us) (h.faults_are ++ k.faults_are)
      ≡ points_of e ts h.faults_are ++ points_of e us k.faults_are =
      points-append e ts us h.faults_are k.faults_are h.long in
      record {
        faults_are = h.faults_are ++ k.faults_are;
        more = h.more ++ k.more;
        long = length-append h.faults_are k.faults_are
            ∙ (let x = h.long in let y = k.long in let z = length-append ts us in omega arith);
        met_are = k.met_are ∙ ap (λ ms. ms ++ points_of (suc b.kept.events) us k.faults_are) h.met_are
            ∙ ap (λ ps. (a.met ++ points_of e ts h.faults_are) ++ ps) points_are
            ∙ append_assoc a.met (points_of e ts h.faults_are) (points_of e us k.faults_are)
            ∙ ap (λ ps. a.met ++ ps) (sym all);
        lines_are = k.lines_are ∙ ap (λ ls. ls ++ k.more) h.lines_are ∙ append_assoc a.lines h.more k.more;
        tells = flat_map-append failed_of h.more k.more
            ∙ ap (λ xs. xs ++ flat_map failed_of k.more) h.tells
            ∙ ap (λ xs. map (λ (d : FaultPoint). d.replica) (points_of e ts h.faults_are) ++ xs)
            (k.tells ∙ ap (map (λ (d : FaultPoint). d.replica)) points_are)
            ∙ sym (map-append (λ (d : FaultPoint). d.replica) (points_of e ts h.faults_are)
            (points_of e us k.faults_are))
            ∙ ap (map (λ (d : FaultPoint). d.replica)) (sym all);
        size = k.size ∙ h.size;
        struck = struck_then state h.more k.more a.servers b.servers c.servers h.size k.size h.struck k.struck;
        fixed = k.fixed ∙ ap (λ (v : Kept). let x : Kept = record v { seats = c.kept.seats } in x) h.fixed;
        stays = record {
          same = record {
            limits = k.stays.same.limits ∙ h.stays.same.limits;
            requests = k.stays.same.requests ∙ h.stays.same.requests;
            seats = k.stays.same.seats ∙ h.stays.same.seats;
            events = k.stays.same.events ∙ h.stays.same.events;
          };
          arrays = k.stays.arrays;
          room = subst (λ l. HaveRoom state l c.servers) h.stays.same.limits k.stays.room;
        };
        aims = λ j p x. k.aims j p (h.aims j p x);
        moves = λ faults f m s. (
            let one = h.moves faults (fail_first faults ts us h.faults_are k.faults_are h.long f) m s in
            let two = k.moves faults (fail_then faults ts us h.faults_are k.faults_are h.long f) one.0 one.2 in (
              two.0,
              (one.0, one.1, two.1),
              two.2,
              two.3 ∙ ap (λ ls. ls ++ k.more) one.3 ∙ append_assoc m.lines h.more k.more,
            ));
      }

  -- nobody failed, and nothing changed
  pub led_still : (ts : List Slot) (a : Scene X) → HaveArrays state a.kept a.servers a.tables →
      HaveRoom state a.kept.limits a.servers →
      Led state (λ faults m n. (n ≡ m) × FailAs faults ts (unfailed ts)) ts a a
  led_still ts a have room =
      let none = unfailed_points (suc a.kept.events) ts in
      record {
        faults_are = unfailed ts;
        more = [];
        long = unfailed_long ts;
        met_are = sym (ap (λ ps. a.met ++ ps) none ∙ append-nil a.met);
        lines_are = sym (append-nil a.lines);
        tells = sym (ap (map (λ (d : FaultPoint). d.replica)) none);
        size = refl;
        struck = struck_none state [] a.servers refl;
        fixed = refl;
        stays = stays_none state a.kept a.servers a.tables have room;
        aims = λ j p x. x;
        moves = λ faults f m s. (m, (refl, f), s, sym (append-nil m.lines));
      }

  -- what leads so leads also in a way that follows from it
  pub led_weaker : (L M : Faults → Moment → Moment → Type 0) (ts : List Slot) (a b : Scene X) (h : Led state L ts a b) →
      ((faults : Faults) (m n : Moment) → FailAs faults ts h.faults_are →
      IsState state a.kept a.servers a.tables m.state → L faults m n → M faults m n) →
      Led state M ts a b
  led_weaker L M ts a b h to = record {
    faults_are = h.faults_are;
    more = h.more;
    long = h.long;
    met_are = h.met_are;
    lines_are = h.lines_are;
    tells = h.tells;
    size = h.size;
    struck = h.struck;
    fixed = h.fixed;
    stays = h.stays;
    aims = h.aims;
    moves = λ faults f m s. (
        let out = h.moves faults f m s in
        (out.0, to faults m out.0 f s out.1, out.2, out.3));
  }

  -- a step without a slot, in which only what is kept changes
  pub led_moved : (L : Faults → Moment → Moment → Type 0) (a : Scene X) (new : Kept) →
      new ≡ record a.kept { seats = new.seats } → TurnStays state a.kept new a.servers a.tables →
      ((j p : ℕ) → IsAimedAt p (seat_in a j) → IsAimedAt p (slice_index_or new.seats j DownSeat)) →
      ((faults : Faults) (m : Moment) → IsState state a.kept a.servers a.tables m.state →
      (n : Moment) × L faults m n × IsState state new a.servers a.tables n.state × (n.lines ≡ m.lines)) →
      Led state L [] a (scene new a.servers a.tables a.met a.lines)
  led_moved L a new fixed stays aims moves = record {
    faults_are = [];
    more = [];
    long = refl;
    met_are = sym (append-nil a.met);
    lines_are = sym (append-nil a.lines);
    tells = refl;
    size = refl;
    struck = struck_none state [] a.servers refl;
    fixed = fixed;
    stays = stays;
    aims = aims;
    moves = λ faults f m s. (
        let out = moves faults m s in
        (out.0, out.1, out.2, out.3 ∙ sym (append-nil m.lines)));
  }

  -- A SLOT OF A SERVER THAT WAS CALLED

  -- its server did not fail
  pub led_ok : {T : Type 0} (L : Faults → Moment → Moment → Type 0) (a b : Scene X) (r : ℕ) (t : Slot)
      (more : List Line) (result : Result T WrapErr) (x : T) → result ≡ Ok x →
      WatchedAt state (slice_get a.servers r) (slice_get b.servers r) result → ChangesAt r a.servers b.servers →
      b.met ≡ a.met → b.lines ≡ a.lines ++ more → flat_map failed_of more ≡ [] →
      b.kept ≡ record a.kept { seats = b.kept.seats } → TurnStays state a.kept b.kept b.servers b.tables →
      ((j p : ℕ) → IsAimedAt p (seat_in a j) → IsAimedAt p (seat_in b j)) →
      ((faults : Faults) → faults t.round t.replica ≡ false → (m : Moment) →
      IsState state a.kept a.servers a.tables m.state →
      (n : Moment) × L faults m n × IsState state b.kept b.servers b.tables n.state × (n.lines ≡ m.lines ++ more)) →
      Led state L (t ∷ []) a b
  led_ok L a b r t more result x ok watched sv met_is said quiet fixed stays aims moves =
      let here : r < length a.servers = slice_get_within a.servers r watched.before watched.is_before in
      record {
        faults_are = false ∷ [];
        more = more;
        long = refl;
        met_are = met_is ∙ sym (append-nil a.met);
        lines_are = said;
        tells = quiet;
        size = sv.size;
        struck = struck_ok state a.servers b.servers r here sv result watched more quiet watched.watched.limits
            (ok_count result x ok watched);
        fixed = fixed;
        stays = stays;
        aims = aims;
        moves = λ faults f m s. moves faults f.0 m s;
      }
    where
      ok_count : {T : Type 0} (result : Result T WrapErr) (x : T) → result ≡ Ok x →
          (h : WatchedAt state (slice_get a.servers r) (slice_get b.servers r) result) →
          (state h.after).faults ≡ (state h.before).faults
      ok_count (Ok y) x ok h = h.watched.faults
      ok_count (Err y) x ok h = absurd (cc)

  -- its server failed
  pub led_fell : {T : Type 0} (L : Faults → Moment → Moment → Type 0) (a b : Scene X) (r : ℕ) (t : Slot)
      (result : Result T WrapErr) → result ≡ Err errors.Down → t.replica ≡ r →
      WatchedAt state (slice_get a.servers r) (slice_get b.servers r) result → ChangesAt r a.servers b.servers →
      b.met ≡ a.met ++ record { event = a.kept.events + 1; stage = t.round; replica = t.replica } ∷ [] →
      b.lines ≡ a.lines ++ lines.Down r ∷ [] →
      b.kept ≡ record a.kept { seats = b.kept.seats } → TurnStays state a.kept b.kept b.servers b.tables →
      ((j p : ℕ) → IsAimedAt p (seat_in a j) → IsAimedAt p (seat_in b j)) →
      ((faults : Faults) → faults t.round t.replica ≡ true → (m : Moment) →
      IsState state a.kept a.servers a.tables m.state →
      (n : Moment) × L faults m n × IsState state b.kept b.servers b.tables n.state
      × (n.lines ≡ m.lines ++ lines.Down r ∷ [])) →
      Led state L (t ∷ []) a b
  led_fell L a b r t result down t_is watched sv met_is said fixed stays aims moves =
      let e : a.kept.events + 1 ≡ suc a.kept.events = omega arith in
      let here : r < length a.servers = slice_get_within a.servers r watched.before watched.is_before in
      record {
        faults_are = true ∷ [];
        more = lines.Down r ∷ [];
        long = refl;
        met_are = met_is
            ∙ ap (λ n. a.met ++ record { event = n; stage = t.round; replica = t.replica } ∷ []) e;
        lines_are = said;
        tells = ap (λ n. n ∷ []) (sym t_is);
        size = sv.size;
        struck = struck_down state a.servers b.servers r here sv result watched watched.watched.limits
            (rose result down watched);
        fixed = fixed;
        stays = stays;
        aims = aims;
        moves = λ faults f m s. moves faults f.0 m s;
      }
    where
      rose : {T : Type 0} (result : Result T WrapErr) → result ≡ Err errors.Down →
          (h : WatchedAt state (slice_get a.servers r) (slice_get b.servers r) result) →
          Rose (state h.before).faults (state h.after).faults
      rose (Ok x) down h = absurd (cc)
      rose (Err errors.Down) down h = h.watched.faults.1
      rose (Err errors.NoMemory) down h = absurd (cc)
