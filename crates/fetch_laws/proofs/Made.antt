-- From what the code does to the walked fetch of the model.
use Rattle.std.proofs.Common.{◌≡◌, ◌≢◌, ℕ, zero, suc, ◌+◌, ◌-◌, ◌^◌, ◌<◌, ◌≤◌, ◌⊎◌, Bool, true, false, cond, List, [], ◌∷◌, ◌++◌, length, All, Option, None, Some, refl, sym, ap, subst, ◌∙◌, ⊎_elim, inl, inr, arith}
use Rattle.std.specs.Prelude.{IsSome, is_some, slice_get}
use Rattle.std.proofs.lemmas.Bool.{cases_lt}
use Rattle.std.proofs.lemmas.List.Elements.{All-nil, All-tail, All-weaker, All-append}
use Rattle.std.proofs.lemmas.Option.{slice_get-get_or}
use Rattle.sha2.specs.Sha256.{sha256}
use Rattle.nfs2_types.specs.declared.Limits.{Limits}
use Rattle.xdr_core.specs.Grammar.{Spells}
use Rattle.abs_model.specs.declared.Entry.{Entry}
use Rattle.abs_model.specs.Array.{changed, entry_at, null_entry}
use Rattle.abs_model.specs.Valid.{Valid}
use Rattle.abs_text.specs.Text.{entry_text}
use Rattle.abs_text.specs.Forms.{entry_form}
use Rattle.abs_text.specs.Wordy.{IsGood}
use Rattle.cluster_model.specs.Service.{Service}
use Rattle.cluster_model.specs.Tree as tree
use Rattle.cluster_model.specs.Tree.{Item, item, item_at, item_text, text_of, root}
use Rattle.cluster_model.specs.State.{Running, Fetching, Condition, Live, Down, Rebuilding, lookup_item, held_text}
use Rattle.cluster_model.specs.Moments.{Moment, Faults, gone, replica}
use Rattle.cluster_model.specs.Step.{FetchEnd, Missing, Forgets, Whole, is_target, aimed}
use Rattle.cluster_model.specs.Fair.{IsItem, IsKept, IsApartNow}
use Rattle.cluster_model.specs.Right.{IsSpelled}
use Rattle.cluster_model.specs.Good.{AllGood, IsGoodIn}
use Rattle.cluster_model.specs.Loose.{IsPut, Serves, ServesIn, given, held_item, held_digests, lie_or, node_held, text_held}
use Rattle.cluster_model.specs.Walk.{IsWalk, IsWholeWalk, IsFormed, IsGoing, IsEnded, IsWalked, IsWalkedFetch}
use Rattle.cluster_model.proofs.Premise.{items_known, rebuilding_within}
use Rattle.cluster_model.proofs.Walked.{known_in, kept_ready, in_source, aimed_array}
use Rattle.service_laws.specs.Served.{IsSized, service}
use Rattle.service_laws.proofs.Served.{service_lawful}
use Rattle.partition_tree.specs.Digests.{digest_at}
use Rattle.partition_tree.proofs.Places.{same_levels}
use Rattle.replica.specs.Replicas.{digests_from, digests_of}
use Rattle.replica.proofs.EmptyArray.{length-digests_from}
use Rattle.state_transfer.specs.declared.item.Item.{Item as NextItem}
use Rattle.state_transfer.specs.Stand.{Stand, next_in, begins}
use Rattle.state_transfer.specs.Fetch.{Fetch, Fits, begun}
use Rattle.state_transfer.specs.Got.{HasGot}
use Rattle.state_transfer.proofs.Walks.{Pair, Gots, HasRun, run_of, fetch_walks}
use Rattle.state_transfer.proofs.Rising.{got_inside}
use Rattle.recovery.specs.Rebuilt.{Rebuilt, from_start, HasFetched}
use Rattle.recovery.specs.Real.{HasRealTexts}
use Rattle.recovery.proofs.Fetching.{none_left}
use Rattle.recovery.proofs.Put.{is_put}
use Rattle.fetch_laws.specs.Made.{AreApartFrom, EndsSo, GivesNone, FetchMade}
use Rattle.fetch_laws.proofs.Expected.{next_fits}
use Rattle.fetch_laws.proofs.Changed.{spells_good, valid_good, only_good}
use Rattle.fetch_laws.proofs.Serving.{service_real}

-- the service's good arrays are those of the texts
service_good : (limits : Limits) → (service limits).good ≡ IsGood limits
unfolding service
service_good limits = refl

small_size : (limits : Limits) → IsSized limits → limits.n < 2 ^ 32
small_size limits h = ⊎_elim (λ e. omega (arith, e)) (λ g. ⊎_elim (λ e. omega (arith, e)) (λ e. omega (arith, e)) g) h.entries

-- P of those behind others
all_behind : {X : Type 0} (P : X → Type 0) (xs ys : List X) → All P (xs ++ ys) → All P ys
all_behind P [] ys h = h
all_behind P (x ∷ xs) ys h = all_behind P xs ys (All-tail P x (xs ++ ys) h)

-- with nothing wanted, nothing is next
none_next : (s : Stand) → s.rest ≡ [] → IsSome (next_in s) → ⊥
none_next s none some =
    let bad : false ≡ true = sym (ap (λ (o : Option NextItem). is_some o)
    (ap (λ (r : List Pair). elim r [ [] ↦ None | x ∷ xs ↦ Some (record { level = s.level; number = x.0 }) ]) none)) ∙ some in
    cc

some_next : (s : Stand) (x : Pair) (xs : List Pair) → s.rest ≡ x ∷ xs → IsSome (next_in s)
some_next s x xs e =
    ap (λ (o : Option NextItem). is_some o)
    (ap (λ (r : List Pair). elim r [ [] ↦ None | x ∷ xs ↦ Some (record { level = s.level; number = x.0 }) ]) e)

module _ (limits : Limits) (sized : IsSized limits) (t_small : limits.t ≤ 16777216) where
  abbrev S : Service
  S = service limits

  laws : IsSpelled S
  laws = (service_lawful limits sized).spelled

  real : HasRealTexts S
  real = service_real limits

  n_small : limits.n < 2 ^ 32
  n_small = small_size limits sized

  is_good : (a : List Entry) → S.good a → IsGood limits a
  is_good a g = subst (λ (P : List Entry → Type 0). P a) (service_good limits) g

  good_is : (a : List Entry) → IsGood limits a → S.good a
  good_is a g = subst (λ (P : List Entry → Type 0). P a) (sym (service_good limits)) g

  size_of : (a : List Entry) → IsGood limits a → length a ≡ 16 ^ S.levels
  size_of a g = laws.good_size a (good_is a g)

  digests_here : (i : ℕ) (es : List Entry) → tree.digests_from S i es ≡ digests_from i es
  digests_here i [] = refl
  digests_here i (e ∷ es) = λ j.
      (real.nodes.digest (S.text i e) ∙ ap sha256 (real.text i e)) j ∷ digests_here (suc i) es j

  -- a source's text of an entry is spelled
  spells_text : (c : List Entry) → IsGood limits c → (k : ℕ) → k < length c →
      (e : Entry) × Spells entry_form (k, e) (text_of S c k)
  spells_text c g k low =
      let text : text_of S c k ≡ entry_text k (entry_at c k)
      = ap (tree.entry_text S k) (slice_get-get_or c k null_entry low) ∙ real.text k (entry_at c k) in
      (entry_at c k, subst (Spells entry_form (k, entry_at c k)) (sym text) (spells_good limits n_small t_small c g k low))

  -- What was fetched, in a tree of as many levels as the service has

  module _ (A : List Entry) (good : IsGood limits A) (got : Gots) (b : Rebuilt) (h : HasFetched A got b) where
    levels : b.fetch.levels ≡ S.levels
    levels = same_levels b.fetch.levels S.levels
        (sym h.size ∙ ap length h.own ∙ length-digests_from 0 A ∙ size_of A good)

    own : b.fetch.own ≡ tree.digests S A
    own = h.own ∙ sym (digests_here 0 A)

    run : HasGot (begun b.fetch.own b.fetch.place S.levels b.root) got b.fetch
    run = subst (λ (l : ℕ). HasGot (begun b.fetch.own b.fetch.place l b.root) got b.fetch) levels h.leads

    pub inside : All (λ (g : Item × List ℕ). IsItem S g.0) got
    inside = got_inside S b.fetch.own b.fetch.place b.root got b.fetch run

    pub going : IsGoing S A b.root got
    going =
        let w = fetch_walks S real.nodes b.fetch.own b.fetch.place b.root got b.fetch run in
        (subst (λ (ds : List (List ℕ)). IsWalk S ds S.levels ((0, b.root) ∷ []) got) own w.0, w.1)

    pub whole : b.fetch.stand.rest ≡ [] → IsWholeWalk S (tree.digests S A) S.levels ((0, b.root) ∷ []) got
    whole none =
        let w = fetch_walks S real.nodes b.fetch.own b.fetch.place b.root got b.fetch run in
        subst (λ (ds : List (List ℕ)). IsWholeWalk S ds S.levels ((0, b.root) ∷ []) got) own (w.2.0 none)

    pub not_whole : IsSome (next_in b.fetch.stand) → IsWholeWalk S (tree.digests S A) S.levels ((0, b.root) ∷ []) got → ⊥
    not_whole some all =
        let w = fetch_walks S real.nodes b.fetch.own b.fetch.place b.root got b.fetch run in
        none_next b.fetch.stand (w.2.1
        (subst (λ (ds : List (List ℕ)). IsWholeWalk S ds S.levels ((0, b.root) ∷ []) got) (sym own) all)) some

    pub fits_next : (c : List Entry) → IsGood limits c → b.root ≡ root S c → AreApartFrom S c got →
        (x : Pair) (xs : List Pair) → b.fetch.stand.rest ≡ x ∷ xs →
        Fits b.fetch.stand.level x (item_text S c (item b.fetch.stand.level x.0))
    fits_next c fine e apart x xs rest =
        next_fits S laws real.nodes b.fetch.own (digest_at b.fetch.own) c (size_of c fine) (spells_text c fine) b.root got
        b.fetch.stand (run_of (begun b.fetch.own b.fetch.place S.levels b.root) got b.fetch run) e apart x xs rest

  -- A Fetch that the code made

  module _ (faults : Faults) (r n : ℕ) (m : Moment) (b : Fetching) (items : Gots) (end : FetchEnd)
      (good : AllGood S m.state) (live : (replica m.state r).condition ≡ Rebuilding b)
      (made : FetchMade limits faults r n m b items end) where
    abbrev aim : Fetching
    aim = aimed m.state.stable b

    abbrev got : Gots
    got = (aimed m.state.stable b).got ++ items

    abbrev last : Rebuilt
    last = made.last

    abbrev K : List ℕ → Type 0
    K = IsKept S m.state

    within_r : r < length m.state.replicas
    within_r = rebuilding_within m.state r b live

    good_here : S.good b.array
    good_here = subst (IsGoodIn S) live (good.arrays r gone within_r)

    good_b : IsGood limits b.array
    good_b = is_good b.array good_here

    same_aim : aim.array ≡ b.array
    same_aim = aimed_array m.state.stable b

    in_tree : All (λ (g : Item × List ℕ). IsItem S g.0) items
    in_tree = all_behind (λ (g : Item × List ℕ). IsItem S g.0) aim.got items
        (inside b.array good_b got last made.fetched)

    goes : IsGoing S aim.array m.state.root got
    goes = subst (λ (a : List Entry). IsGoing S a m.state.root got) (sym same_aim)
        (subst (λ (d : List ℕ). IsGoing S b.array d got) made.root (going b.array good_b got last made.fetched))

    is_whole : last.fetch.stand.rest ≡ [] → IsWholeWalk S (tree.digests S aim.array) S.levels ((0, m.state.root) ∷ []) got
    is_whole none =
        subst (λ (a : List Entry). IsWholeWalk S (tree.digests S a) S.levels ((0, m.state.root) ∷ []) got) (sym same_aim)
        (subst (λ (d : List ℕ). IsWholeWalk S (tree.digests S b.array) S.levels ((0, d) ∷ []) got) made.root
        (whole b.array good_b got last made.fetched none))

    isnt_whole : IsSome (next_in last.fetch.stand) →
        IsWholeWalk S (tree.digests S aim.array) S.levels ((0, m.state.root) ∷ []) got → ⊥
    isnt_whole some all = not_whole b.array good_b got last made.fetched some
        (subst (λ (d : List ℕ). IsWholeWalk S (tree.digests S b.array) S.levels ((0, d) ∷ []) got) (sym made.root)
        (subst (λ (a : List Entry). IsWholeWalk S (tree.digests S a) S.levels ((0, m.state.root) ∷ []) got) same_aim all))

    put_is : IsPut S aim.array got (changed last.fetch.changes b.array)
    put_is = subst (λ (a : List Entry). IsPut S a got (changed last.fetch.changes b.array)) (sym same_aim)
        (is_put b.array got last made.fetched S real)

    ends : (e : FetchEnd) → EndsSo limits b.array last e → IsEnded S m.state.root aim.array got e
    ends Missing some = isnt_whole some
    ends Forgets h = (
      is_whole (none_left last.fetch.stand h.0),
      λ a put fine. (let put' = subst (λ (x : List Entry). IsPut S x got a) same_aim put in
          let same = only_good limits n_small t_small b.array good_b got last made.fetched S real a (is_good a fine) put' in
          h.1 (subst (Valid limits) same (is_good a fine).valid)),
    )
    ends (Whole a) h =
        let fine = valid_good limits n_small t_small b.array good_b got last made.fetched
        (subst (Valid limits) h.1 h.2) in (
          is_whole (none_left last.fetch.stand h.0),
          good_is a (subst (IsGood limits) (sym h.1) fine),
          subst (IsPut S aim.array got) (sym h.1) put_is,
        )

    walked : IsWalked S m.state.root n aim items end
    walked = record { few = made.few; going = goes; ended = ends end made.ended }

    -- a true source's text is taken

    known_items : All (λ (x : Item × List ℕ). K x.1) items
    known_items = items_known S K m (kept_ready S laws m good) r items in_tree made.given

    known_aim : All (λ (x : Item × List ℕ). K x.1) aim.got
    known_aim = by (is_target m.state.stable b.target)
      where
        known : All (λ (x : Item × List ℕ). K x.1) b.got
        known = (known_in S laws m good r within_r (Rebuilding b) live good_here).1

        by : (t : Bool) → All (λ (x : Item × List ℕ). K x.1)
            (cond t b (record { array = b.array; target = Some m.state.stable; got = [] })).got
        by true = known
        by false = All-nil (λ (x : Item × List ℕ). K x.1)

    known_got : All (λ (x : Item × List ℕ). K x.1) got
    known_got = All-append (λ (x : Item × List ℕ). K x.1) aim.got items known_aim known_items

    gives_true : (c : List Entry) (l : Running) → Serves S m.state.stable m.state.root l c → (level k : ℕ) →
        given S m.state.stable l (item level k) ≡ Some (item_text S c (item level k))
    gives_true c l serves zero k =
        ap (λ (ls : List (Item × List ℕ)). lie_or (lookup_item (item 0 k) ls) (held_item S m.state.stable l 0 k)) serves.no_lie
        ∙ ap (λ (o : Option (List (List ℕ))). text_held o (held_text S l m.state.stable k)) serves.listed
        ∙ ap (λ (t : List ℕ). Some t) (serves.texts k)
    gives_true c l serves (suc level) k =
        ap (λ (ls : List (Item × List ℕ)). lie_or (lookup_item (item (suc level) k) ls)
        (held_item S m.state.stable l (suc level) k)) serves.no_lie
        ∙ ap (λ (o : Option (List (List ℕ))). node_held S level k o) serves.listed

    module _ (apart : IsApartNow S m.state) (j : ℕ) (c : List Entry) (within : j < length m.state.replicas) (other : j ≢ r)
        (serves_in : ServesIn S m.state.stable m.state.root c (replica m.state j).condition)
        (free : (stage : ℕ) → stage ≤ length items → faults stage j ≡ false) where
      refused : (x : Pair) (xs : List Pair) → last.fetch.stand.rest ≡ x ∷ xs → length items ≢ n → ⊥
      refused x xs rest fewer = by (replica m.state j).condition refl serves_in
          (made.asked fewer (some_next last.fetch.stand x xs rest) j within other free)
        where
          by : (k : Condition) → (replica m.state j).condition ≡ k → ServesIn S m.state.stable m.state.root c k →
              GivesNone S m.state.stable last.fetch k → ⊥
          by Down e s g = absurd s
          by (Rebuilding f) e s g = absurd s
          by (Live l) e s g =
              let level = last.fetch.stand.level in
              let text = item_text S c (item level x.0) in
              let in_c = in_source S laws m good j c l within e s in
              let separate : AreApartFrom S c got = All-weaker (λ (y : Item × List ℕ). K y.1) (λ (y : Item × List ℕ).
              (d k : ℕ) → d ≤ S.levels → k < 16 ^ (S.levels - d) → S.digest y.1 ≡ S.digest (item_at S c d k) →
              y.1 ≡ item_at S c d k)
              (λ y known d k high low same. apart y.1 (item_at S c d k) known (in_c d k high low) same) got known_got in
              g x xs text rest (gives_true c l s level x.0)
              (fits_next b.array good_b got last made.fetched c (is_good c s.good) (made.root ∙ sym s.has_root) separate
              x xs rest)

      reached : (n ≡ length items) ⊎ IsWholeWalk S (tree.digests S aim.array) S.levels ((0, m.state.root) ∷ []) got
      reached = by last.fetch.stand.rest refl
        where
          by : (rest : List Pair) → last.fetch.stand.rest ≡ rest →
              (n ≡ length items) ⊎ IsWholeWalk S (tree.digests S aim.array) S.levels ((0, m.state.root) ∷ []) got
          by [] e = inr (is_whole e)
          by (x ∷ xs) e = ⊎_elim
              (λ low. absurd (refused x xs e (λ same. omega (arith, low, same))))
              (λ high. inl (let few = made.few in omega (arith, high, few)))
              (cases_lt (length items) n)

    pub made_walked : IsWalkedFetch S faults r n m b items end
    made_walked = record {
      given = made.given;
      inside = in_tree;
      walked = walked;
      goes_on = reached;
    }
