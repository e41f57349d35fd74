-- The stages of a Fetch in the model: a chance to fail brings down one replica at most, and a stage in which an item
-- was got goes on with the next.
use Rattle.std.proofs.Common.{◌≡◌, ◌≢◌, ◌⊎◌, ℕ, suc, ◌<◌, Bool, true, false, cond, ◌||◌, ◌&&◌, List, [], ◌∷◌, ◌++◌, length, get_or, inl, inr, refl, sym, ◌∙◌, ap, subst, ⊎_elim, arith}
use Rattle.std.specs.Prelude.{◌==◌}
use Rattle.std.specs.List.{All}
use Rattle.std.proofs.lemmas.Bool.{cases_lt}
use Rattle.std.proofs.lemmas.List.{append-nil, append_assoc, length-append, length-set, set_past, get_or_past, get_or-set_same, get_or-set_other}
use Rattle.std.proofs.lemmas.List.Elements.{All-nil, All-cons, All-head, All-tail, All-append, All-weaker}
use Rattle.server_trait.proofs.TreeLaws.{one_or_not}
use Rattle.cluster_model.specs.Service.{Service}
use Rattle.cluster_model.specs.Tree.{Item}
use Rattle.cluster_model.specs.State.{Fetching, Condition, Live, Down, Rebuilding, Replica}
use Rattle.cluster_model.specs.Moments.{Moment, Faults, gone, replica, fails}
use Rattle.cluster_model.specs.Turns.{Slot, last}
use Rattle.cluster_model.specs.Step.{FetchEnd, is_live, if_rebuilding, stage_moments, gets, ends_fetch, fetches}
use Rattle.cluster_model.specs.Loose.{gives, IsGiven}
use Rattle.cluster_model.proofs.Growing.{last-append}
use Rattle.cluster_model.proofs.Premise.{rebuilding_within}
use Rattle.cluster.specs.Fetching.{slot_at, source_slots, stage_slots, chance, chances, then_gets, Reaches}
use Rattle.cluster.proofs.FetchSlots.{IsSource, sources_are, stage_is}

-- ONE CHANCE

-- from m to n replicas stay or are down, and a replica that does not fail at these slots stays
pub record HadChances (faults : Faults) (ts : List Slot) (m n : Moment) : Type 0 where
  pub stable : n.state.stable ≡ m.state.stable
  pub root : n.state.root ≡ m.state.root
  pub size : length n.state.replicas ≡ length m.state.replicas
  pub others : (j : ℕ) → ((replica n.state j).condition ≡ (replica m.state j).condition)
      ⊎ ((replica n.state j).condition ≡ Down)
  pub sound : (j : ℕ) → All (λ (t : Slot). t.replica ≡ j → faults t.round j ≡ false) ts →
      (replica n.state j).condition ≡ (replica m.state j).condition

-- the server of a replica fails: it is down, also where there is none
fails_down : (j : ℕ) (m : Moment) → (replica (fails j m).state j).condition ≡ Down
fails_down j m =
    let x : Replica = record (replica m.state j) { condition = Down } in
    ⊎_elim
    (λ low. ap (λ (y : Replica). y.condition) (get_or-set_same m.state.replicas j x gone low))
    (λ past. ap (λ (y : Replica). y.condition)
    (ap (λ xs. get_or xs j gone) (set_past m.state.replicas j x past) ∙ get_or_past m.state.replicas j gone past))
    (cases_lt j (length m.state.replicas))

-- the others stay
fails_other : (j k : ℕ) (m : Moment) → k ≢ j → replica (fails j m).state k ≡ replica m.state k
fails_other j k m ne = get_or-set_other m.state.replicas j k (record (replica m.state j) { condition = Down }) gone ne

module _ (r : ℕ) (faults : Faults) where
  chance_had : (m : Moment) (t : Slot) → HadChances faults (t ∷ []) m (chance r faults m t)
  chance_had m t = by (faults t.round t.replica) ((t.replica == r) || is_live (replica m.state t.replica).condition) refl
    where
      by : (a b : Bool) → faults t.round t.replica ≡ a → HadChances faults (t ∷ []) m (cond (a && b) (fails t.replica m) m)
      by true true e = record {
        stable = refl;
        root = refl;
        size = length-set m.state.replicas t.replica (record (replica m.state t.replica) { condition = Down });
        others = λ j. ⊎_elim
            (λ same. inr (ap (λ k. (replica (fails t.replica m).state k).condition) same ∙ fails_down t.replica m))
            (λ ne. inl (ap (λ (x : Replica). x.condition) (fails_other t.replica j m ne)))
            (one_or_not j t.replica);
        sound = λ j quiet. ⊎_elim
            (λ same. absurd (let f : faults t.round j ≡ false =
            All-head (λ (u : Slot). u.replica ≡ j → faults u.round j ≡ false) t [] quiet (sym same) in
            let g : faults t.round j ≡ true = ap (faults t.round) same ∙ e in cc))
            (λ ne. ap (λ (x : Replica). x.condition) (fails_other t.replica j m ne))
            (one_or_not j t.replica);
      }
      by true false e = record {
        stable = refl;
        root = refl;
        size = refl;
        others = λ j. inl refl;
        sound = λ j quiet. refl;
      }
      by false b e = record {
        stable = refl;
        root = refl;
        size = refl;
        others = λ j. inl refl;
        sound = λ j quiet. refl;
      }

  had_then : (ts us : List Slot) (m n k : Moment) → HadChances faults ts m n → HadChances faults us n k →
      HadChances faults (ts ++ us) m k
  had_then ts us m n k h g = record {
    stable = g.stable ∙ h.stable;
    root = g.root ∙ h.root;
    size = g.size ∙ h.size;
    others = λ j. ⊎_elim (λ same. ⊎_elim (λ same'. inl (same ∙ same')) (λ down. inr (same ∙ down)) (h.others j))
        (λ down. inr down) (g.others j);
    sound = λ j quiet. (
        let P : Slot → Type 0 = λ t. t.replica ≡ j → faults t.round j ≡ false in
        g.sound j (later P ts us quiet) ∙ h.sound j (first P ts us quiet));
  }
    where
      first : (P : Slot → Type 0) (xs ys : List Slot) → All P (xs ++ ys) → All P xs
      first P [] ys q = All-nil P
      first P (x ∷ xs) ys q = All-cons P x xs (All-head P x (xs ++ ys) q) (first P xs ys (All-tail P x (xs ++ ys) q))

      later : (P : Slot → Type 0) (xs ys : List Slot) → All P (xs ++ ys) → All P ys
      later P [] ys q = q
      later P (x ∷ xs) ys q = later P xs ys (All-tail P x (xs ++ ys) q)

  pub chances_had : (m : Moment) (ts : List Slot) → HadChances faults ts m (chances r faults m ts)
  chances_had m [] = record {
    stable = refl;
    root = refl;
    size = refl;
    others = λ j. inl refl;
    sound = λ j quiet. refl;
  }
  chances_had m (t ∷ ts) = had_then (t ∷ []) ts m (chance r faults m t) (chances r faults (chance r faults m t) ts)
      (chance_had m t) (chances_had (chance r faults m t) ts)

  -- where no server fails nothing happens
  pub chances_still : (m : Moment) (ts : List Slot) → All (λ (t : Slot). faults t.round t.replica ≡ false) ts →
      chances r faults m ts ≡ m
  chances_still m [] none = refl
  chances_still m (t ∷ ts) none =
      let Q : Slot → Type 0 = λ u. faults u.round u.replica ≡ false in
      let here : chance r faults m t ≡ m = ap (λ b. cond (b && ((t.replica == r)
      || is_live (replica m.state t.replica).condition)) (fails t.replica m) m) (All-head Q t ts none) in
      ap (λ k. chances r faults k ts) here ∙ chances_still m ts (All-tail Q t ts none)

  pub chances-append : (m : Moment) (ts us : List Slot) →
      chances r faults m (ts ++ us) ≡ chances r faults (chances r faults m ts) us
  chances-append m [] us = refl
  chances-append m (t ∷ ts) us = chances-append (chance r faults m t) ts us

-- ONE STAGE

-- a replica that does not fail at a stage stays
quiet_stage : (faults : Faults) (stage j : ℕ) (ts : List Slot) → faults stage j ≡ false →
    All (λ (t : Slot). t.round ≡ stage) ts → All (λ (t : Slot). t.replica ≡ j → faults t.round j ≡ false) ts
quiet_stage faults stage j ts quiet of_stage = All-weaker (λ (t : Slot). t.round ≡ stage)
    (λ (t : Slot). t.replica ≡ j → faults t.round j ≡ false) (λ t e same. ap (λ k. faults k j) e ∙ quiet) ts of_stage

module _ (r : ℕ) (faults : Faults) (stage n : ℕ) (m : Moment) where
  sources_at : All (λ (t : Slot). t.round ≡ stage) (source_slots stage r n)
  sources_at = All-weaker (IsSource stage r n) (λ (t : Slot). t.round ≡ stage) (λ t h. h.0) (source_slots stage r n)
      (sources_are stage r n)

  stage_at : All (λ (t : Slot). t.round ≡ stage) (stage_slots stage r n)
  stage_at = All-append (λ (t : Slot). t.round ≡ stage) (source_slots stage r n) (slot_at stage r ∷ []) sources_at
      (All-cons (λ (t : Slot). t.round ≡ stage) (slot_at stage r) [] refl (All-nil (λ (t : Slot). t.round ≡ stage)))

  -- the sources' chances leave r as it was
  pub sources_leave : (replica (chances r faults m (source_slots stage r n)).state r).condition
      ≡ (replica m.state r).condition
  sources_leave = (chances_had r faults m (source_slots stage r n)).sound r
      (All-weaker (IsSource stage r n) (λ (t : Slot). t.replica ≡ r → faults t.round r ≡ false)
      (λ t h same. absurd (h.2 same)) (source_slots stage r n) (sources_are stage r n))

  stage_leaves : (j : ℕ) → faults stage j ≡ false →
      (replica (chances r faults m (stage_slots stage r n)).state j).condition ≡ (replica m.state j).condition
  stage_leaves j quiet = (chances_had r faults m (stage_slots stage r n)).sound j
      (quiet_stage faults stage j (stage_slots stage r n) quiet stage_at)

-- ALL STAGES

module _ (S : Service) (r : ℕ) (faults : Faults) where
  -- what follows a moment has an end, whatever moment it is said to follow
  pub fetches_last : (end : FetchEnd) (stage : ℕ) (items : List (Item × List ℕ)) (m a b : Moment) →
      last a (fetches S faults r end stage items m) ≡ last b (fetches S faults r end stage items m)
  fetches_last end stage [] m a b =
      let ms = stage_moments faults r stage m in
      let k = last m ms in
      let x = if_rebuilding k (replica k.state r).condition (λ f. ends_fetch S r end k f) in
      last-append a ms (x ∷ []) ∙ sym (last-append b ms (x ∷ []))
  fetches_last end stage (x ∷ xs) m a b =
      let ms = stage_moments faults r stage m in
      let k = last m ms in
      let rest = if_rebuilding (k ∷ []) (replica k.state r).condition
      (λ f. fetches S faults r end (suc stage) xs (gets r x k f)) in
      last-append a ms rest
      ∙ by (replica k.state r).condition (λ f. fetches_last end (suc stage) xs (gets r x k f)) (last a ms) (last b ms)
      ∙ sym (last-append b ms rest)
    where
      by : (c : Condition) →
          (let k = last m (stage_moments faults r stage m) in
          (f : Fetching) (y z : Moment) → last y (fetches S faults r end (suc stage) xs (gets r x k f))
          ≡ last z (fetches S faults r end (suc stage) xs (gets r x k f))) → (y z : Moment) →
          (let k = last m (stage_moments faults r stage m) in
          let rest = if_rebuilding (k ∷ []) c (λ f. fetches S faults r end (suc stage) xs (gets r x k f)) in
          last y rest ≡ last z rest)
      by (Live l) h y z = refl
      by Down h y z = refl
      by (Rebuilding f) h y z = h f y z

  -- a stage at whose end r is still being rebuilt, and gets an item
  fetches_get : (end : FetchEnd) (stage : ℕ) (x : Item × List ℕ) (rest : List (Item × List ℕ)) (m then : Moment)
      (f : Fetching) → last m (stage_moments faults r stage m) ≡ then → (replica then.state r).condition ≡ Rebuilding f →
      last m (fetches S faults r end stage (x ∷ rest) m)
      ≡ last (gets r x then f) (fetches S faults r end (suc stage) rest (gets r x then f))
  fetches_get end stage x rest m then f is live =
      let ms = stage_moments faults r stage m in
      let after : Moment → Condition → List Moment = λ k c. if_rebuilding (k ∷ []) c
      (λ b. fetches S faults r end (suc stage) rest (gets r x k b)) in
      last-append m ms (after (last m ms) (replica (last m ms).state r).condition)
      ∙ ap (λ k. last k (after k (replica k.state r).condition)) is
      ∙ ap (λ c. last then (after then c)) live
      ∙ fetches_last end (suc stage) rest (gets r x then f) then (gets r x then f)

  -- and at which it ends
  fetches_end : (end : FetchEnd) (stage : ℕ) (m then : Moment) → last m (stage_moments faults r stage m) ≡ then →
      last m (fetches S faults r end stage [] m)
      ≡ if_rebuilding then (replica then.state r).condition (λ f. ends_fetch S r end then f)
  fetches_end end stage m then is =
      let ms = stage_moments faults r stage m in
      let after : Moment → Moment = λ k. if_rebuilding k (replica k.state r).condition (λ f. ends_fetch S r end k f) in
      last-append m ms (after (last m ms) ∷ []) ∙ ap after is

  pub reaches_none : (m : Moment) → Reaches S r faults m m []
  reaches_none m = record {
    goes_on = λ end rest. refl;
    stable = refl;
    root = refl;
    size = refl;
    fetching = λ f live. live ∙ ap (λ g. Rebuilding (record f { got = g })) (sym (append-nil f.got));
    others = λ j ne. inl refl;
    sound = λ j ne quiet. refl;
    given = All-nil (IsGiven S m.state r);
  }

  module _ (m n k : Moment) (items : List (Item × List ℕ)) (h : Reaches S r faults m n items) (stage sources : ℕ)
      (x : Item × List ℕ) (at : stage ≡ length items) (size : length n.state.replicas ≡ sources) (now : Fetching)
      (live : (replica n.state r).condition ≡ Rebuilding now)
      (k_is : k ≡ then_gets r x (chances r faults n (stage_slots stage r sources))) (from : IsGiven S n.state r x)
      (sound : faults stage r ≡ false) where
    abbrev then : Moment
    then = chances r faults n (stage_slots stage r sources)

    abbrev there : HadChances faults (stage_slots stage r sources) n then
    there = chances_had r faults n (stage_slots stage r sources)

    then_is : last n (stage_moments faults r stage n) ≡ then
    then_is = ap (last n) (stage_is r stage faults n sources size)

    then_live : (replica then.state r).condition ≡ Rebuilding now
    then_live = stage_leaves r faults stage sources n r sound ∙ live

    got_is : k ≡ gets r x then now
    got_is = k_is ∙ ap (λ c. if_rebuilding then c (λ f. gets r x then f)) then_live

    within : r < length then.state.replicas
    within = rebuilding_within then.state r now then_live

    abbrev became : Replica
    became = record (replica then.state r) { condition = Rebuilding (record now { got = now.got ++ x ∷ [] }) }

    r_is : (replica k.state r).condition ≡ Rebuilding (record now { got = now.got ++ x ∷ [] })
    r_is = ap (λ (w : Moment). (replica w.state r).condition) got_is
        ∙ ap (λ (y : Replica). y.condition) (get_or-set_same then.state.replicas r became gone within)

    other_is : (j : ℕ) → j ≢ r → (replica k.state j).condition ≡ (replica then.state j).condition
    other_is j ne = ap (λ (w : Moment). (replica w.state j).condition) got_is
        ∙ ap (λ (y : Replica). y.condition) (get_or-set_other then.state.replicas r j became gone ne)

    same_item : (f : Fetching) → (replica m.state r).condition ≡ Rebuilding f →
        Rebuilding (record now { got = now.got ++ x ∷ [] }) ≡ Rebuilding (record f { got = f.got ++ (items ++ x ∷ []) })
    same_item f e =
        let was : Rebuilding now ≡ Rebuilding (record f { got = f.got ++ items }) = sym live ∙ h.fetching f e in
        let is : now ≡ record f { got = f.got ++ items } = cc in
        ap (λ (g : Fetching). Rebuilding (record g { got = g.got ++ x ∷ [] })) is
        ∙ ap (λ g. Rebuilding (record f { got = g })) (append_assoc f.got items (x ∷ []))

    given_before : (y : Item × List ℕ) → IsGiven S n.state r y → IsGiven S m.state r y
    given_before y g =
        let given : gives S m.state.stable y (replica n.state g.0).condition =
        subst (λ p. gives S p y (replica n.state g.0).condition) h.stable g.3 in (
          g.0,
          (let e = h.size in let low = g.1 in omega arith),
          g.2,
          ⊎_elim (λ same. subst (gives S m.state.stable y) same given)
              (λ down. absurd (subst (gives S m.state.stable y) down given)) (h.others g.0 g.2),
        )

    pub reaches_more : Reaches S r faults m k (items ++ x ∷ [])
    reaches_more =
        let longer : length (items ++ x ∷ []) ≡ suc stage =
        (let e = length-append items (x ∷ []) in omega arith) in
        record {
          goes_on = λ end rest. ap (λ xs. last m (fetches S faults r end 0 xs m)) (append_assoc items (x ∷ []) rest)
              ∙ h.goes_on end (x ∷ rest)
              ∙ ap (λ s. last n (fetches S faults r end s (x ∷ rest) n)) (sym at)
              ∙ fetches_get end stage x rest n then now then_is then_live
              ∙ ap (λ (w : Moment). last w (fetches S faults r end (suc stage) rest w)) (sym got_is)
              ∙ ap (λ s. last k (fetches S faults r end s rest k)) (sym longer);
          stable = ap (λ (w : Moment). w.state.stable) got_is ∙ there.stable ∙ h.stable;
          root = ap (λ (w : Moment). w.state.root) got_is ∙ there.root ∙ h.root;
          size = ap (λ (w : Moment). length w.state.replicas) got_is ∙ length-set then.state.replicas r became
              ∙ there.size ∙ h.size;
          fetching = λ f e. r_is ∙ same_item f e;
          others = λ j ne. ⊎_elim
              (λ same. ⊎_elim (λ was. inl (other_is j ne ∙ same ∙ was)) (λ down. inr (other_is j ne ∙ same ∙ down))
              (h.others j ne))
              (λ down. inr (other_is j ne ∙ down)) (there.others j);
          sound = λ j ne quiet. other_is j ne
              ∙ stage_leaves r faults stage sources n j (quiet stage (omega arith))
              ∙ h.sound j ne (λ s low. quiet s (omega arith));
          given = All-append (IsGiven S m.state r) items (x ∷ []) h.given
              (All-cons (IsGiven S m.state r) x [] (given_before x from) (All-nil (IsGiven S m.state r)));
        }

  -- THE END

  -- the last moment of a Fetch that reached n, where r has its chance at last
  pub reaches_end : (m n : Moment) (items : List (Item × List ℕ)) → Reaches S r faults m n items →
      (stage sources : ℕ) → stage ≡ length items → length n.state.replicas ≡ sources → (end : FetchEnd) →
      last m (fetches S faults r end 0 items m)
      ≡ (let then = chance r faults (chances r faults n (source_slots stage r sources)) (slot_at stage r) in
      if_rebuilding then (replica then.state r).condition (λ f. ends_fetch S r end then f))
  reaches_end m n items h stage sources at size end =
      let then = chance r faults (chances r faults n (source_slots stage r sources)) (slot_at stage r) in
      let is : last n (stage_moments faults r stage n) ≡ then =
      ap (last n) (stage_is r stage faults n sources size)
      ∙ chances-append r faults n (source_slots stage r sources) (slot_at stage r ∷ []) in
      ap (λ xs. last m (fetches S faults r end 0 xs m)) (sym (append-nil items)) ∙ h.goes_on end []
      ∙ ap (λ s. last n (fetches S faults r end s [] n)) (sym at) ∙ fetches_end end stage n then is
