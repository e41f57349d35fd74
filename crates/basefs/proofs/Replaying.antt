-- A replay from its header on.
use Rattle.std.proofs.Common.{◌≡◌, ◌⊎◌, inl, inr, ℕ, ◌+◌, ◌*◌, ◌≤◌, Bool, true, false, ◌||◌, ◌&&◌, ltb, List, [], ◌++◌, length, Option, Some, None, Ok, Err, refl, sym, ap, subst, ◌∙◌, arith}
use Rattle.std.specs.Prelude.{◌==◌, nat_le}
use Rattle.std.specs.Io.KnownBytes.{Consumes}
use Rattle.std.proofs.lemmas.Bool.{eqb-true, leb-true}
use Rattle.std.proofs.lemmas.List.{append-nil}
use Rattle.server_trait.specs.Tree.{Server}
use Rattle.server_trait.specs.declared.ServerLimits.{ServerLimits}
use Rattle.server_trait.specs.declared.ConfTable.{ConfTable}
use Rattle.server_trait.specs.declared.FaultPoint.{FaultPoint}
use Rattle.log_format.specs.declared.Header.{Header}
use Rattle.log_format.specs.Records.{header_at, is_within}
use Rattle.log_stream.specs.declared.ReadErr.{ReadErr}
use Rattle.log_stream.specs.declared.ReadErr.TheVariants as read
use Rattle.log_stream.specs.Reading.{Refuses as Unread, Reads}
use Rattle.cluster_model.proofs.VotedRuns.{and_true}
use Rattle.service_laws.specs.Served.{IsSized}
use Rattle.seats.specs.Positions.{AreLater}
use Rattle.cluster.specs.OverBench.{HaveRoom}
use Rattle.basefs.specs.declared.status.Status.{Status}
use Rattle.basefs.specs.Log.{Log, Stop, whole, bad, not_built, too_few, too_small, stops, limits_of, by_bench, log_of}
use Rattle.basefs.specs.Setting.{Setting, setting}
use Rattle.basefs.specs.Run.{IsPrefix, Says, Ran, Stopped, IsEarly, status_of}
use Rattle.basefs.specs.Going.{Goes, read_status}
use Rattle.basefs.specs.Beginning.{all_records, RunsAll}
use Rattle.basefs.specs.Replayed.{IsBench, Refuses, replicas_of, Replayed}
use Rattle.basefs.proofs.Records.{or_false}
use Rattle.cluster.proofs.Struck.{later_none}
use Rattle.basefs.proofs.Taking.{HoldsOf-always, IfSome-then, prefix_none, Ends-then}

-- the numbers of entries are those of the service
number_of : (n : ℕ) (a b c : Bool) → (n == 16) ≡ a → (n == 256) ≡ b → (n == 4096) ≡ c → (a || (b || c)) ≡ true →
    (n ≡ 16) ⊎ ((n ≡ 256) ⊎ (n ≡ 4096))
number_of n true b c ea eb ec h = inl (eqb-true n 16 ea)
number_of n false true c ea eb ec h = inr (inl (eqb-true n 256 eb))
number_of n false false true ea eb ec h = inr (inr (eqb-true n 4096 ec))
number_of n false false false ea eb ec h = absurd cc

-- a header that was read has the limits of the service
pub header_sized : (h : Header) → is_within h ≡ true → IsSized (limits_of h)
header_sized h within =
    let f = nat_le h.f 2 in
    let n = h.n == 16 || (h.n == 256 || h.n == 4096) in
    let k = nat_le 1 h.k && nat_le h.k 1024 in
    let t = nat_le 512 h.t && nat_le h.t 16777216 in
    let last = and_true (f && n && k) t within in
    let first = and_true f n (and_true (f && n) k last.0).0 in
    let low : h.t ≤ 16777216 = leb-true h.t 16777216 (and_true (nat_le 512 h.t) (nat_le h.t 16777216) last.1).1 in
    record {
      entries = number_of h.n (h.n == 16) (h.n == 256) (h.n == 4096) refl refl refl first.1;
      space = omega arith;
    }

-- servers of which none is too small have room
pub large_have_room : {X : Type 0} (state : X → Server) (h : Header) (servers : List X) →
    Refuses (λ s. (state s).limits) h servers None → HaveRoom state (limits_of h) servers
large_have_room {X} state h servers none r = record {
  room = λ x e.
      let parts = or_false (ltb (state x).limits.nodes (h.n + 3)) (ltb (state x).limits.bytes (h.t + 1048576))
      (none.1 r x e) in
      record { nodes = grind (arith, parts.0); bytes = grind (arith, parts.1) };
}

-- THE HEADER

module _ {X : Type 0} (most : X → ServerLimits) (servers : List X) where
  no_header : (bytes : List ℕ) → header_at bytes ≡ None → log_of most servers bytes ≡ stops (bad 0)
  unfolding log_of
  no_header bytes h = rw (h, log_of) refl

  header_goes : (bytes rest : List ℕ) (h : Header) → header_at bytes ≡ Some (h, rest) →
      log_of most servers bytes ≡ by_bench most h servers (all_records (limits_of h) (length servers) rest)
  unfolding log_of
  header_goes bytes rest h e = rw (e, log_of) refl

  header_unread : (taken : List ℕ) (left : Option (List ℕ)) (e : ReadErr) → Unread header_at taken left e → Says (read_status e 0) (log_of most servers) taken left []
  header_unread taken left read.Failed h = ap (λ (l : Log). l.events) (no_header taken h)
  header_unread taken left read.NoMemory h = HoldsOf-always (log_of most servers) taken left (λ l. IsPrefix [] l.events) (λ more. prefix_none (log_of most servers (taken ++ more)).events)
  header_unread taken left read.Wrong h = (
    no_header taken h.0,
    IfSome-then left (λ more. header_at (taken ++ more) ≡ None) (λ more. log_of most servers (taken ++ more) ≡ record { events = []; stop = bad 0 }) (λ more g. no_header (taken ++ more) g) h.1,
  )

  unread_early : (taken : List ℕ) (left : Option (List ℕ)) (e : ReadErr) → Unread header_at taken left e → IsEarly (read_status e 0) taken
  unread_early taken left read.Failed h = h
  unread_early taken left read.NoMemory h = tt
  unread_early taken left read.Wrong h = refl

  pub stopped_unread : (old left : Option (List ℕ)) (e : ReadErr) → Reads header_at (λ (x : Header). x) old left (Err e) → Stopped old left (log_of most servers) (read_status e 0)
  stopped_unread old left e r = record { ends = record { taken = r.taken; consumed = r.consumed; says = header_unread r.taken left e r.outcome }; early = unread_early r.taken left e r.outcome }

  stopped_by : (old left : Option (List ℕ)) (h : Header) (stop : Stop) →
      Reads header_at (λ (x : Header). x) old left (Ok h) → IsBench stop →
      ((log : Log) → by_bench most h servers log ≡ stops stop) →
      Stopped old left (log_of most servers) (status_of stop)
  stopped_by old left h (too_few have need) r b all = record {
    ends = record {
      taken = r.taken;
      consumed = r.consumed;
      says = HoldsOf-always (log_of most servers) r.taken left
          (λ l. l ≡ record { events = []; stop = too_few have need })
          (λ more. header_goes (r.taken ++ more) more h (r.outcome more)
          ∙ all (all_records (limits_of h) (length servers) more));
    };
    early = tt;
  }
  stopped_by old left h (too_small server) r b all = record {
    ends = record {
      taken = r.taken;
      consumed = r.consumed;
      says = HoldsOf-always (log_of most servers) r.taken left
          (λ l. l ≡ record { events = []; stop = too_small server })
          (λ more. header_goes (r.taken ++ more) more h (r.outcome more)
          ∙ all (all_records (limits_of h) (length servers) more));
    };
    early = tt;
  }
  stopped_by old left h whole r b all = absurd b
  stopped_by old left h (bad at) r b all = absurd b
  stopped_by old left h (not_built at) r b all = absurd b

  pub stopped_bench : (old left : Option (List ℕ)) (h : Header) (s : Status) →
      Reads header_at (λ (x : Header). x) old left (Ok h) → Refuses most h servers (Some s) →
      Stopped old left (log_of most servers) s
  stopped_bench old left h s r w =
      subst (Stopped old left (log_of most servers)) (sym w.1) (stopped_by old left h w.0 r w.2 w.3)

  header_read : (old left : Option (List ℕ)) (h : Header) → Reads header_at (λ (x : Header). x) old left (Ok h) →
      Refuses most h servers None →
      Goes old left (log_of most servers) (all_records (limits_of h) (length servers)) []
  header_read old left h r w = record {
    taken = r.taken;
    consumed = r.consumed;
    goes = λ more. header_goes (r.taken ++ more) more h (r.outcome more)
        ∙ w.2 (all_records (limits_of h) (length servers) more);
  }

-- a run of the records is one of the log
pub ran_whole : {X : Type 0} (state : X → Server) (servers : List X) (old left held : Option (List ℕ))
    (tables : List ConfTable) (downs : List FaultPoint) (new : Setting X) (h : Header) (s : Status)
    (r : Reads header_at (λ (x : Header). x) old left (Ok h)) → Refuses (λ x. (state x).limits) h servers None →
    Ran state (limits_of h) (all_records (limits_of h) (length servers)) (setting left held servers tables downs) new
    s →
    (ran : Ran state (limits_of h) (log_of (λ x. (state x).limits) servers) (setting old held servers tables downs) new
    s) × (behind : List ℕ) × (header_at ran.ends.taken ≡ Some (h, behind))
unfolding Ends-then header_read
ran_whole state servers old left held tables downs new h s r w p =
    let read = header_read (λ x. (state x).limits) servers old left h r w in (
      record {
        events = p.events;
        ends = Ends-then read p.ends;
        ms = p.ms;
        is_run = p.is_run;
        printed = p.printed;
        cut = p.cut;
        unread = λ e. ap (λ (l : Log). l.events) (read.goes p.ends.taken) ∙ p.unread e;
        exact = p.exact;
        promised = p.promised;
        calm = p.calm;
        told = p.told;
        requests = p.requests;
        stands = p.stands;
        points = p.points;
        met = p.met;
        struck = p.struck;
        worn = p.worn;
        size = p.size;
        spares = p.spares;
      },
      p.ends.taken,
      r.outcome p.ends.taken,
    )

-- REPLAYS

-- nothing was started
pub replayed_early : {X : Type 0} (state : X → Server) (old left held : Option (List ℕ)) (servers : List X)
    (tables : List ConfTable) (downs : List FaultPoint) (s : Status) →
    Stopped old left (log_of (λ s. (state s).limits) servers) s →
    Replayed state (setting old held servers tables downs) (setting left held servers tables downs) s
replayed_early state old left held servers tables downs s h = inl (record {
  stopped = h;
  held_stays = refl;
  bench_stays = λ no. record { servers = refl; tables = refl; downs = refl };
  downs_known = inr refl;
  later = later_none state (replicas_of h.ends.taken) servers;
})

module _ {X : Type 0} (state : X → Server) (old left left' held held' : Option (List ℕ)) (servers servers' : List X)
    (tables tables' : List ConfTable) (downs downs' : List FaultPoint) where
  replicas_are : (h : Header) (r : Reads header_at (λ (y : Header). y) old left (Ok h)) →
      replicas_of r.taken ≡ 3 * h.f + 1
  replicas_are h r =
      let whole : header_at r.taken ≡ Some (h, []) = ap header_at (sym (append-nil r.taken)) ∙ r.outcome [] in
      ap (λ (o : Option (Header × List ℕ)). elim o [ None ↦ 0 | Some x ↦ 3 * x.0.f + 1 ]) whole

  pub replayed_run : (h : Header) (s : Status) (r : Reads header_at (λ (y : Header). y) old left (Ok h)) →
      Refuses (λ y. (state y).limits) h servers None →
      RunsAll state (limits_of h) (setting left held servers tables downs)
      (setting left' held' servers' tables' downs') s →
      Replayed state (setting old held servers tables downs) (setting left' held' servers' tables' downs') s
  replayed_run h s r none (inl p) =
      let q = ran_whole state servers old left held tables downs (setting left' held' servers' tables' downs') h s r
      none p in
      inr (record { header = h; ran = q.0; behind = q.1; is_header = q.2 })
  replayed_run h s r none (inr p) =
      let log : List ℕ → Log = log_of (λ y. (state y).limits) servers in
      let says : Says s log r.taken left' [] =
      subst (λ (x : Status). Says x log r.taken left' []) (sym p.0)
      (HoldsOf-always log r.taken left' (λ l. IsPrefix [] l.events)
      (λ more. prefix_none (log (r.taken ++ more)).events)) in
      inl (record {
        stopped = record {
          ends = record {
            taken = r.taken;
            consumed = subst (λ (l : Option (List ℕ)). Consumes old l r.taken) (sym p.1.left) r.consumed;
            says = says;
          };
          early = subst (λ (x : Status). IsEarly x r.taken) (sym p.0) tt;
        };
        held_stays = p.1.held;
        bench_stays = λ no. absurd (no p.0);
        downs_known = inl p.1.downs;
        later = subst (λ (n : ℕ). AreLater state n servers servers') (sym (replicas_are h r)) p.1.later;
      })
