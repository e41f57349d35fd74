-- Turns one after another.
use Rattle.std.proofs.Common.{◌≡◌, ℕ, suc, ◌+◌, Bool, List, [], ◌∷◌, ◌++◌, map, length, inl, inr, refl, sym, ◌∙◌, ap, subst, arith}
use Rattle.std.specs.Prelude.{Option, Some, None, Result, Ok}
use Rattle.std.specs.List.{flat_map}
use Rattle.std.proofs.lemmas.List.{append-nil, append_assoc, length-append}
use Rattle.nfs2_types.specs.declared.NoMemory.{NoMemory}
use Rattle.server_trait.specs.Tree.{Server}
use Rattle.server_trait.specs.declared.ConfTable.{ConfTable}
use Rattle.server_trait.specs.declared.FaultPoint.{FaultPoint}
use Rattle.server_trait.proofs.TreeLaws.{one_or_not}
use Rattle.log_format.specs.declared.Line.{Line}
use Rattle.log_format.specs.declared.IdleCause.{IdleCause}
use Rattle.cluster_model.specs.Service.{Service}
use Rattle.cluster_model.specs.Tree.{below}
use Rattle.cluster_model.specs.Moments.{Moment, Faults}
use Rattle.cluster_model.specs.Turns.{Slot, Not, turn, slot_turn, moments, last, slots}
use Rattle.cluster_model.specs.Run.{failed_of}
use Rattle.cluster_model.proofs.Growing.{last-append}
use Rattle.service_laws.specs.Served.{service}
use Rattle.cluster.specs.OverBench.{Kept, IsState, HaveArrays, HaveRoom}
use Rattle.cluster.specs.Turned.{points, points_of, FailAs, Turned, TurnedAll, Stays, TurnStays, Going, Idled, IsIdle, IsQuietNow, round_slots}
use Rattle.cluster.proofs.ListFacts.{map-append, flat_map-append}
use Rattle.cluster.proofs.Struck.{struck_none, struck_then}
use Rattle.cluster.proofs.TurnClauses.{stays_none}

moments-append : (S : Service) (faults : Faults) (m : Moment) (xs ys : List Slot) →
    moments (slot_turn S faults) m (xs ++ ys) ≡ moments (slot_turn S faults) m xs
    ++ moments (slot_turn S faults) (last m (moments (slot_turn S faults) m xs)) ys
moments-append S faults m [] ys = refl
moments-append S faults m (x ∷ xs) ys =
    ap (λ zs. slot_turn S faults m x ∷ zs) (moments-append S faults (slot_turn S faults m x) xs ys)

-- the turns of a round up to one replica more
pub round_more : (round r : ℕ) → round_slots round (r + 1)
    ≡ round_slots round r ++ record { round = round; replica = r } ∷ []
round_more round r = (
    let e : r + 1 ≡ suc r = omega arith in
    ap (round_slots round) e ∙ map-append (λ r. record { round = round; replica = r }) (below r) (r ∷ [])
    )

pub slots_more : (d n k : ℕ) → k ≡ n → slots (d + 1) n ≡ slots d n ++ round_slots (d + 1) k
slots_more d n k same = (
    let e : d + 1 ≡ suc d = omega arith in
    ap (λ j. slots j n) e ∙ ap (λ j. slots d n ++ round_slots j n) (sym e)
    ∙ ap (λ j. slots d n ++ round_slots (d + 1) j) (sym same)
    )

pub fail_first : (faults : Faults) (ts us : List Slot) (fs gs : List Bool) → length fs ≡ length ts →
    FailAs faults (ts ++ us) (fs ++ gs) → FailAs faults ts fs
fail_first faults [] us [] gs e h = tt
fail_first faults [] us (b ∷ fs) gs e h = absurd (omega arith)
fail_first faults (t ∷ ts) us [] gs e h = absurd (omega arith)
fail_first faults (t ∷ ts) us (b ∷ fs) gs e h = (h.0, fail_first faults ts us fs gs (omega arith) h.1)

pub fail_then : (faults : Faults) (ts us : List Slot) (fs gs : List Bool) → length fs ≡ length ts →
    FailAs faults (ts ++ us) (fs ++ gs) → FailAs faults us gs
fail_then faults [] us [] gs e h = h
fail_then faults [] us (b ∷ fs) gs e h = absurd (omega arith)
fail_then faults (t ∷ ts) us [] gs e h = absurd (omega arith)
fail_then faults (t ∷ ts) us (b ∷ fs) gs e h = fail_then faults ts us fs gs (omega arith) h.1

pub points-append : (e : ℕ) (ts us : List Slot) (fs gs : List Bool) → length fs ≡ length ts →
    points_of e (ts ++ us) (fs ++ gs) ≡ points_of e ts fs ++ points_of e us gs
points-append e [] us [] gs l = refl
points-append e [] us (b ∷ fs) gs l = absurd (omega arith)
points-append e (t ∷ ts) us [] gs l = absurd (omega arith)
points-append e (t ∷ ts) us (b ∷ fs) gs l = ap (λ ps. points e t b ++ ps) (points-append e ts us fs gs (omega arith))
    ∙ sym (append_assoc (points e t b) (points_of e ts fs) (points_of e us gs))

stays_then : (a b c : Kept) → Stays a b → Stays b c → Stays a c
stays_then a b c h k = record {
  limits = k.limits ∙ h.limits;
  requests = k.requests ∙ h.requests;
  seats = k.seats ∙ h.seats;
  events = k.events ∙ h.events;
}

pub ok_same : (x y : Bool) → (let r : Result Bool NoMemory = Ok x in r) ≡ Ok y → x ≡ y
ok_same x y e = cc

module _ {X : Type 0} (state : X → Server) where
  turned_one : (t : Slot) (old new : Kept) (servers servers' : List X) (tables tables' : List ConfTable)
      (met met' : List FaultPoint) (ls ls' : List Line) →
      Turned state t old new servers servers' tables tables' met met' ls ls' →
      TurnedAll state (t ∷ []) old new servers servers' tables tables' met met' ls ls'
  turned_one t old new servers servers' tables tables' met met' ls ls' h = record {
    faults_are = h.fault ∷ [];
    more = h.more;
    long = refl;
    met_are = h.met_are ∙ ap (λ ps. met ++ ps) (sym (append-nil (points (suc old.events) t h.fault)));
    lines_are = h.lines_are;
    tells = h.tells ∙ ap (map (λ (d : FaultPoint). d.replica)) (sym (append-nil (points (suc old.events) t h.fault)));
    size = h.size;
    struck = h.struck;
    moves = λ faults f m s. h.moves faults f.0 m s;
  }

  turned_then : (ts us : List Slot) (a b c : Kept) (sa sb sc : List X) (ta tb tc : List ConfTable)
      (ma mb mc : List FaultPoint) (la lb lc : List Line) → Stays a b →
      TurnedAll state ts a b sa sb ta tb ma mb la lb → TurnedAll state us b c sb sc tb tc mb mc lb lc →
      TurnedAll state (ts ++ us) a c sa sc ta tc ma mc la lc
  turned_then ts us a b c sa sb sc ta tb tc ma mb mc la lb lc stays h k =
      let points_are : points_of (suc b.events) us k.faults_are ≡ points_of (suc a.events) us k.faults_are =
      ap (λ n. points_of (suc n) us k.faults_are) stays.events in
      let all : points_of (suc a.events) (ts ++ us) (h.faults_are ++ k.faults_are)
      ≡ points_of (suc a.events) ts h.faults_are ++ points_of (suc a.events) us k.faults_are =
      points-append (suc a.events) ts us h.faults_are k.faults_are h.long in
      record {
        faults_are = h.faults_are ++ k.faults_are;
        more = h.more ++ k.more;
        long = length-append h.faults_are k.faults_are
            ∙ (let x = h.long in let y = k.long in let z = length-append ts us in omega arith);
        met_are = k.met_are ∙ ap (λ ms. ms ++ points_of (suc b.events) us k.faults_are) h.met_are
            ∙ ap (λ ps. (ma ++ points_of (suc a.events) ts h.faults_are) ++ ps) points_are
            ∙ append_assoc ma (points_of (suc a.events) ts h.faults_are) (points_of (suc a.events) us k.faults_are)
            ∙ ap (λ ps. ma ++ ps) (sym all);
        lines_are = k.lines_are ∙ ap (λ ls. ls ++ k.more) h.lines_are ∙ append_assoc la h.more k.more;
        tells = flat_map-append failed_of h.more k.more
            ∙ ap (λ xs. xs ++ flat_map failed_of k.more) h.tells
            ∙ ap (λ xs. map (λ (d : FaultPoint). d.replica) (points_of (suc a.events) ts h.faults_are) ++ xs)
            (k.tells ∙ ap (map (λ (d : FaultPoint). d.replica)) points_are)
            ∙ sym (map-append (λ (d : FaultPoint). d.replica) (points_of (suc a.events) ts h.faults_are)
            (points_of (suc a.events) us k.faults_are))
            ∙ ap (map (λ (d : FaultPoint). d.replica)) (sym all);
        size = k.size ∙ h.size;
        struck = struck_then state h.more k.more sa sb sc h.size k.size h.struck k.struck;
        moves = λ faults f m s. (
            let S = service a.limits in
            let one = h.moves faults (fail_first faults ts us h.faults_are k.faults_are h.long f) m s in
            let n = last m (moments (slot_turn S faults) m ts) in
            let two = k.moves faults (fail_then faults ts us h.faults_are k.faults_are h.long f) n one.0 in
            let two' = subst (λ l. IsState state c sc tc (last n (moments (slot_turn (service l) faults) n us)).state
            × ((last n (moments (slot_turn (service l) faults) n us)).lines ≡ n.lines ++ k.more)) stays.limits two in
            let e : last m (moments (slot_turn S faults) m (ts ++ us)) ≡ last n (moments (slot_turn S faults) n us) =
            ap (last m) (moments-append S faults m ts us)
            ∙ last-append m (moments (slot_turn S faults) m ts) (moments (slot_turn S faults) n us) in
            subst (λ (x : Moment). IsState state c sc tc x.state × (x.lines ≡ m.lines ++ (h.more ++ k.more))) (sym e)
            (two'.0, two'.1 ∙ ap (λ ls. ls ++ k.more) one.1 ∙ append_assoc m.lines h.more k.more));
      }

  pub going_none : (c : Kept) (servers : List X) (tables : List ConfTable) (met : List FaultPoint) (ls : List Line) →
      HaveArrays state c servers tables → HaveRoom state c.limits servers →
      Going state [] c c servers servers tables tables met met ls ls
  going_none c servers tables met ls have room = record {
    turned = record {
      faults_are = [];
      more = [];
      long = refl;
      met_are = sym (append-nil met);
      lines_are = sym (append-nil ls);
      tells = refl;
      size = refl;
      struck = struck_none state [] servers refl;
      moves = λ faults f m s. (s, sym (append-nil m.lines));
    };
    stays = stays_none state c servers tables have room;
  }

  pub going_then : (ts us : List Slot) (a b c : Kept) (sa sb sc : List X) (ta tb tc : List ConfTable)
      (ma mb mc : List FaultPoint) (la lb lc : List Line) → Going state ts a b sa sb ta tb ma mb la lb →
      Going state us b c sb sc tb tc mb mc lb lc → Going state (ts ++ us) a c sa sc ta tc ma mc la lc
  going_then ts us a b c sa sb sc ta tb tc ma mb mc la lb lc h k = record {
    turned = turned_then ts us a b c sa sb sc ta tb tc ma mb mc la lb lc h.stays.same h.turned k.turned;
    stays = record {
      same = stays_then a b c h.stays.same k.stays.same;
      arrays = k.stays.arrays;
      room = subst (λ l. HaveRoom state l sc) h.stays.same.limits k.stays.room;
    };
  }

  going_one : (t : Slot) (old new : Kept) (servers servers' : List X) (tables tables' : List ConfTable)
      (met met' : List FaultPoint) (ls ls' : List Line) →
      Turned state t old new servers servers' tables tables' met met' ls ls' →
      TurnStays state old new servers' tables' →
      Going state (t ∷ []) old new servers servers' tables tables' met met' ls ls'
  going_one t old new servers servers' tables tables' met met' ls ls' h stays = record {
    turned = turned_one t old new servers servers' tables tables' met met' ls ls' h;
    stays = stays;
  }

  -- one replica more of a round
  pub going_more : (round r : ℕ) (a b c : Kept) (sa sb sc : List X) (ta tb tc : List ConfTable)
      (ma mb mc : List FaultPoint) (la lb lc : List Line) →
      Going state (round_slots round r) a b sa sb ta tb ma mb la lb →
      Turned state (record { round = round; replica = r }) b c sb sc tb tc mb mc lb lc →
      TurnStays state b c sc tc →
      Going state (round_slots round (r + 1)) a c sa sc ta tc ma mc la lc
  going_more round r a b c sa sb sc ta tb tc ma mb mc la lb lc h k stays =
      subst (λ ts. Going state ts a c sa sc ta tc ma mc la lc) (sym (round_more round r))
      (going_then (round_slots round r) (record { round = round; replica = r } ∷ []) a b c sa sb sc ta tb tc ma mb mc la
      lb lc h (going_one (record { round = round; replica = r }) b c sb sc tb tc mb mc lb lc k stays))

  pub idled_none : (c : Kept) (servers : List X) (tables : List ConfTable) →
      Idled state 0 c c servers servers tables tables
  idled_none c servers tables = record {
    kept_same = refl;
    servers_same = refl;
    tables_same = refl;
    idle = λ m s r lt. absurd (omega arith);
  }

  pub idled_more : (n : ℕ) (a b c : Kept) (sa sb sc : List X) (ta tb tc : List ConfTable) (mb mc : List FaultPoint)
      (lb lc : List Line) (o : Option IdleCause) (x : IdleCause) → o ≡ Some x →
      IsIdle state b c sb sc tb tc mb mc lb lc n o → Idled state n a b sa sb ta tb →
      Idled state (n + 1) a c sa sc ta tc
  idled_more n a b c sa sb sc ta tb tc mb mc lb lc None x e h i = absurd (cc)
  idled_more n a b c sa sb sc ta tb tc mb mc lb lc (Some y) x e h i = record {
    kept_same = h.0 ∙ i.kept_same;
    servers_same = h.1 ∙ i.servers_same;
    tables_same = h.2 ∙ i.tables_same;
    idle = λ m s r lt. elim (one_or_not r n) as
        (λ _. (d : IdleCause) × (turn (service a.limits) m.state r ≡ Not d)) [
          | inl same ↦
              let s' : IsState state b sb tb m.state = subst (λ (v : Kept). IsState state v sb tb m.state) (sym i.kept_same)
              (subst (λ l. IsState state a l tb m.state) (sym i.servers_same)
              (subst (λ l. IsState state a sa l m.state) (sym i.tables_same) s)) in
              let out = h.5 m s' in
              let to : turn (service a.limits) m.state n ≡ Not y =
              ap (λ (v : Kept). turn (service v.limits) m.state n) (sym i.kept_same) ∙ out in
              (y, ap (turn (service a.limits) m.state) same ∙ to)
          | inr ne ↦ i.idle m s r (omega arith)
        ];
  }

  pub quiet_from : (n : ℕ) (a b : Kept) (sa sb : List X) (ta tb : List ConfTable) → n ≡ length a.seats →
      Idled state n a b sa sb ta tb → IsQuietNow state b sb tb
  quiet_from n a b sa sb ta tb whole i = λ m s r lt. (
      let s' : IsState state a sa ta m.state = subst (λ (v : Kept). IsState state v sa ta m.state) i.kept_same
      (subst (λ l. IsState state b l ta m.state) i.servers_same
      (subst (λ l. IsState state b sb l m.state) i.tables_same s)) in
      let e : length b.seats ≡ length a.seats = ap (λ (v : Kept). length v.seats) i.kept_same in
      let out = i.idle m s' r (omega arith) in
      (out.0, ap (λ (v : Kept). turn (service v.limits) m.state r) i.kept_same ∙ out.1))

  -- one round more
  pub going_round : (d n k : ℕ) (a b c : Kept) (sa sb sc : List X) (ta tb tc : List ConfTable)
      (ma mb mc : List FaultPoint) (la lb lc : List Line) → k ≡ n →
      Going state (slots d n) a b sa sb ta tb ma mb la lb →
      Going state (round_slots (d + 1) k) b c sb sc tb tc mb mc lb lc →
      Going state (slots (d + 1) n) a c sa sc ta tc ma mc la lc
  going_round d n k a b c sa sb sc ta tb tc ma mb mc la lb lc same h g =
      subst (λ ts. Going state ts a c sa sc ta tc ma mc la lc) (sym (slots_more d n k same))
      (going_then (slots d n) (round_slots (d + 1) k) a b c sa sb sc ta tb tc ma mb mc la lb lc h g)
