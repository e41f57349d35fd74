-- The sources of a stage, asked one after the other.
use Rattle.std.proofs.Common.{◌≡◌, ◌≢◌, ℕ, zero, suc, ◌+◌, ◌<◌, ◌≤◌, Bool, true, false, List, [], ◌∷◌, ◌++◌, length, inl, inr, refl, sym, ◌∙◌, ap, subst, ⊎_elim, arith}
use Rattle.std.specs.List.{All}
use Rattle.std.proofs.lemmas.List.{append-nil, append_assoc}
use Rattle.std.proofs.lemmas.List.Elements.{All-nil, All-cons, All-weaker}
use Rattle.nfs2_types.specs.declared.Limits.{Limits}
use Rattle.server_trait.specs.Tree.{Server}
use Rattle.server_trait.proofs.TreeLaws.{one_or_not}
use Rattle.cluster_model.specs.Service.{Service}
use Rattle.cluster_model.specs.Tree.{Item}
use Rattle.cluster_model.specs.Moments.{Moment, Faults, replica}
use Rattle.cluster_model.specs.Turns.{Slot}
use Rattle.cluster_model.specs.Loose.{gives, IsGiven}
use Rattle.service_laws.specs.Served.{service}
use Rattle.seats.specs.declared.Seat.{Seat}
use Rattle.seats.specs.declared.Seat.TheVariants.{Down as DownSeat}
use Rattle.cluster.specs.OverBench.{HaveArrays, HaveRoom}
use Rattle.cluster.specs.Turned.{FailAs}
use Rattle.cluster.specs.Fetching.{Scene, seat_in, slot_at, source_slots, stage_slots, chance, chances, then_gets, Led, GivesNoneTo, Offers, Offered, GetsOne, GetsNone, Refused}
use Rattle.cluster.proofs.ListFacts.{read_same}
use Rattle.cluster.proofs.FetchSlots.{IsSource, sources_more, sources_own, sources_are}
use Rattle.cluster.proofs.Stages.{HadChances, chances_had, chances_still, chances-append}
use Rattle.cluster.proofs.Leading.{unfailed, led_then, led_still, led_weaker}

-- the slots of the sources behind the first n
sources_rest : (stage r n count : ℕ) → n ≤ count →
    (rest : List Slot) × (source_slots stage r count ≡ source_slots stage r n ++ rest)
sources_rest stage r n zero low =
    let e : 0 ≡ n = omega (arith, low) in
    ([], ap (source_slots stage r) e ∙ sym (append-nil (source_slots stage r n)))
sources_rest stage r n (suc count) low =
    elim (one_or_not n (suc count)) as
    (λ _. (rest : List Slot) × (source_slots stage r (suc count) ≡ source_slots stage r n ++ rest)) [
      | inl e ↦ ([], ap (source_slots stage r) (sym e) ∙ sym (append-nil (source_slots stage r n)))
      | inr ne ↦
          let behind = sources_rest stage r n count (omega (arith, low, ne)) in
          elim (one_or_not count r) as
          (λ _. (rest : List Slot) × (source_slots stage r (suc count) ≡ source_slots stage r n ++ rest)) [
            | inl own ↦ (behind.0, sources_own stage r count own ∙ behind.1)
            | inr other ↦ (
              behind.0 ++ slot_at stage count ∷ [],
              sources_more stage r count other ∙ ap (λ ts. ts ++ slot_at stage count ∷ []) behind.1
                  ∙ append_assoc (source_slots stage r n) behind.0 (slot_at stage count ∷ []),
            )
          ]
    ]

none_fails : (faults : Faults) (ts : List Slot) → FailAs faults ts (unfailed ts) →
    All (λ (t : Slot). faults t.round t.replica ≡ false) ts
none_fails faults [] h = All-nil (λ (t : Slot). faults t.round t.replica ≡ false)
none_fails faults (t ∷ ts) h =
    All-cons (λ (u : Slot). faults u.round u.replica ≡ false) t ts h.0 (none_fails faults ts h.1)

-- what a source gives after the chances of those before it
module _ (r stage n : ℕ) (faults : Faults) (m k : Moment)
    (is : k ≡ chances r faults m (source_slots stage r n)) where
  had : HadChances faults (source_slots stage r n) m k
  had = subst (HadChances faults (source_slots stage r n) m) (sym is) (chances_had r faults m (source_slots stage r n))

  source_stays : (j : ℕ) → faults stage j ≡ false → (replica k.state j).condition ≡ (replica m.state j).condition
  source_stays j sound = had.sound j
      (All-weaker (IsSource stage r n) (λ (t : Slot). t.replica ≡ j → faults t.round j ≡ false)
      (λ t h same. ap (λ s. faults s j) h.0 ∙ sound) (source_slots stage r n) (sources_are stage r n))

  none_before : (S : Service) (seat : Seat) (j : ℕ) → faults stage j ≡ false →
      GivesNoneTo S k.state.stable seat (replica k.state j).condition →
      GivesNoneTo S m.state.stable seat (replica m.state j).condition
  none_before S seat j sound h =
      subst (λ p. GivesNoneTo S p seat (replica m.state j).condition) had.stable
      (subst (GivesNoneTo S k.state.stable seat) (source_stays j sound) h)

  given_before : (S : Service) (x : Item × List ℕ) (j : ℕ) → j < length m.state.replicas → j ≢ r →
      gives S k.state.stable x (replica k.state j).condition → IsGiven S m.state r x
  given_before S x j low ne h =
      let here : gives S m.state.stable x (replica k.state j).condition =
      subst (λ p. gives S p x (replica k.state j).condition) had.stable h in (
        j,
        low,
        ne,
        ⊎_elim (λ same. subst (gives S m.state.stable x) same here)
            (λ down. absurd (subst (gives S m.state.stable x) down here)) (had.others j),
      )

module _ {X : Type 0} (state : X → Server) (r stage : ℕ) (i : Item) where
  -- nobody was asked
  pub refused_none : (a : Scene X) → HaveArrays state a.kept a.servers a.tables →
      HaveRoom state a.kept.limits a.servers → Refused state r stage 0 i a a
  refused_none a have room = record {
    led = led_weaker state (λ faults m n. (n ≡ m) × FailAs faults [] [])
        (GetsNone (service a.kept.limits) r stage 0 i (seat_in a r)) [] a a (led_still state [] a have room)
        (λ faults m n f s out. (out.0, λ inside j low. absurd (omega (arith, low))));
    same = refl;
  }

  -- r itself is none of its sources
  pub refused_own : (n : ℕ) (a b : Scene X) → n ≡ r → Refused state r stage n i a b →
      Refused state r stage (n + 1) i a b
  refused_own n a b own h =
      let S = service a.kept.limits in
      let more : suc n ≡ n + 1 = omega arith in
      let same_slots : source_slots stage r n ≡ source_slots stage r (n + 1) =
      sym (sources_own stage r n own) ∙ ap (source_slots stage r) more in
      record {
        led = subst (λ ts. Led state (GetsNone S r stage (n + 1) i (seat_in a r)) ts a b) same_slots
            (led_weaker state (GetsNone S r stage n i (seat_in a r)) (GetsNone S r stage (n + 1) i (seat_in a r))
            (source_slots stage r n) a b h.led
            (λ faults m k f s out. (
              out.0 ∙ ap (chances r faults m) same_slots,
              λ inside j low ne sound. out.1 inside j
                  (let apart : j ≢ n = λ e. ne (e ∙ own) in omega (arith, low, apart)) ne sound,
            )));
        same = h.same;
      }

  module _ (n : ℕ) (a b c : Scene X) (other : n ≢ r) (h : Refused state r stage n i a b) where
    abbrev S : Service
    S = service a.kept.limits

    abbrev ts : List Slot
    ts = source_slots stage r n

    -- what is offered next, in the words of the first scene
    from_first : (taken : Bool) → Offered state r stage n i b c taken →
        Led state (Offers S r stage n i (seat_in a r) taken) (slot_at stage n ∷ []) b c
    from_first taken o =
        subst (λ (l : Limits). Led state (Offers (service l) r stage n i (seat_in a r) taken) (slot_at stage n ∷ [])
        b c) h.led.stays.same.limits
        (subst (λ (s : Seat). Led state (Offers (service b.kept.limits) r stage n i s taken) (slot_at stage n ∷ []) b c)
        (read_same b.kept.seats a.kept.seats r DownSeat h.same) o.led)

    -- one more was asked in vain
    pub refused_more : Offered state r stage n i b c false → Refused state r stage (n + 1) i a c
    refused_more o =
        let L : Faults → Moment → Moment → Type 0 = GetsNone S r stage n i (seat_in a r) in
        let M : Faults → Moment → Moment → Type 0 = Offers S r stage n i (seat_in a r) false in
        let more : suc n ≡ n + 1 = omega arith in
        let same_slots : ts ++ slot_at stage n ∷ [] ≡ source_slots stage r (n + 1) =
        sym (sources_more stage r n other) ∙ ap (source_slots stage r) more in
        record {
          led = subst (λ us. Led state (GetsNone S r stage (n + 1) i (seat_in a r)) us a c) same_slots
              (led_weaker state (λ faults m k. (j : Moment) × L faults m j × M faults j k)
              (GetsNone S r stage (n + 1) i (seat_in a r)) (ts ++ slot_at stage n ∷ []) a c
              (led_then state L M ts (slot_at stage n ∷ []) a b c h.led (from_first false o))
              (λ faults m k f s out. (
                out.2.0 ∙ ap (λ x. chance r faults x (slot_at stage n)) out.1.0
                    ∙ sym (chances-append r faults m ts (slot_at stage n ∷ []))
                    ∙ ap (chances r faults m) same_slots,
                λ inside j low ne sound. elim (one_or_not j n) as
                    (λ _. GivesNoneTo S m.state.stable (seat_in a r) (replica m.state j).condition) [
                      | inl e ↦ none_before r stage n faults m out.0 out.1.0 S (seat_in a r) j sound
                          (subst (λ x. GivesNoneTo S out.0.state.stable (seat_in a r) (replica out.0.state x).condition)
                          (sym e) (out.2.1 inside (ap (faults stage) (sym e) ∙ sound)))
                      | inr apart ↦ out.1.1 inside j (omega (arith, low, apart)) ne sound
                    ],
              )));
          same = o.same refl ∙ h.same;
        }

    -- a text was taken, and the sources behind were not asked
    pub gets_one : n < length a.kept.seats → Offered state r stage n i b c true →
        Led state (GetsOne S r stage (length a.kept.seats) i) (stage_slots stage r (length a.kept.seats)) a c
    gets_one within o =
        let count = length a.kept.seats in
        let one = slot_at stage n ∷ [] in
        let own = slot_at stage r ∷ [] in
        let behind = sources_rest stage r (suc n) count (omega (arith, within)) in
        let rest = behind.0 in
        let same_slots : ((ts ++ one) ++ rest) ++ own ≡ stage_slots stage r count =
        ap (λ us. us ++ own) (ap (λ us. us ++ rest) (sym (sources_more stage r n other)) ∙ sym behind.1) in
        let L : Faults → Moment → Moment → Type 0 = GetsNone S r stage n i (seat_in a r) in
        let M : Faults → Moment → Moment → Type 0 = Offers S r stage n i (seat_in a r) true in
        let LM : Faults → Moment → Moment → Type 0 = λ faults m k. (j : Moment) × L faults m j × M faults j k in
        let R : Faults → Moment → Moment → Type 0 = λ faults m k. (k ≡ m) × FailAs faults rest (unfailed rest) in
        let LMR : Faults → Moment → Moment → Type 0 = λ faults m k. (j : Moment) × LM faults m j × R faults j k in
        let O : Faults → Moment → Moment → Type 0 = λ faults m k. (k ≡ m) × FailAs faults own (unfailed own) in
        let have : HaveArrays state c.kept c.servers c.tables = o.led.stays.arrays in
        let room : HaveRoom state c.kept.limits c.servers =
        subst (λ l. HaveRoom state l c.servers) (sym o.led.stays.same.limits) o.led.stays.room in
        subst (λ us. Led state (GetsOne S r stage count i) us a c) same_slots
        (led_weaker state (λ faults m k. (j : Moment) × LMR faults m j × O faults j k) (GetsOne S r stage count i)
        (((ts ++ one) ++ rest) ++ own) a c
        (led_then state LMR O ((ts ++ one) ++ rest) own a c c
        (led_then state LM R (ts ++ one) rest a c c (led_then state L M ts one a b c h.led (from_first true o))
        (led_still state rest c have room))
        (led_still state own c have room))
        (λ faults m k f s out. (
        let k3 = out.1 in
        let k2 = k3.1 in
        let none = none_fails faults rest k3.2.1 in
        let end = out.2.1 in
        let x : Item × List ℕ = (i, k2.2.0) in
        let asked : chances r faults m (ts ++ one) ≡ chance r faults k2.0 (slot_at stage n) =
        chances-append r faults m ts one ∙ ap (λ y. chance r faults y (slot_at stage n)) (sym k2.1.0) in
        let all : chances r faults m (((ts ++ one) ++ rest) ++ own) ≡ chance r faults k2.0 (slot_at stage n) =
        chances-append r faults m ((ts ++ one) ++ rest) own
        ∙ chances_still r faults (chances r faults m ((ts ++ one) ++ rest)) own (none_fails faults own end)
        ∙ chances-append r faults m (ts ++ one) rest
        ∙ chances_still r faults (chances r faults m (ts ++ one)) rest none ∙ asked in (
          k2.2.0,
          out.2.0 ∙ k3.2.0 ∙ k2.2.1 ∙ ap (then_gets r x) (sym all ∙ ap (chances r faults m) same_slots),
          λ inside. given_before r stage n faults m k2.0 k2.1.0 S x n (let e = s.size in omega (arith, within, e)) other
              (k2.2.2 inside),
          end.0,
        ))))
