-- Root words that are cast, and a place that becomes stable: what cluster and bench then stand for.
use Rattle.std.proofs.Common.{◌≡◌, ◌≢◌, ℕ, zero, suc, ◌<◌, Bool, true, false, cond, List, [], ◌∷◌, map, length, set, slice_get, Option, Some, None, inl, inr, refl, sym, ◌∙◌, ap, subst, arith}
use Rattle.std.specs.Prelude.{slice_index_or, option_map, ◌==◌, nat_le, nat_lt}
use Rattle.std.specs.Option.{option_and_then}
use Rattle.std.proofs.lemmas.Option.{slice_get_within, slice_get-get_or}
use Rattle.std.proofs.lemmas.Bool.{eqb-true, ltb-true}
use Rattle.std.proofs.lemmas.Bool.Decides.{nat_tests}
use Rattle.std.proofs.lemmas.List.{length-set, get_or-set_same, get_or-set_other, length-map}
use Rattle.nfs2_types.specs.declared.Limits.{Limits}
use Rattle.nfs2_types.specs.declared.Word.{Word}
use Rattle.nfs2_types.specs.declared.Word.TheVariants as words
use Rattle.server_trait.specs.Tree.{Server}
use Rattle.server_trait.specs.declared.ConfTable.{ConfTable}
use Rattle.server_trait.proofs.TreeLaws.{one_or_not}
use Rattle.cluster_model.specs.State.{Condition, State, Replica, lookup, has, is_word, is_digest, says_root}
use Rattle.cluster_model.specs.Moments.{Moment, gone, replica, put, adds_root, becomes_stable, sees_stable, drops_before, from_place, above, root_votes}
use Rattle.seats.specs.declared.Seat.{Seat}
use Rattle.seats.specs.declared.Seat.TheVariants.{Live as LiveSeat, Rebuilding as RebuildingSeat, Down as DownSeat}
use Rattle.reply_vote.specs.Ballots.{Ballot, word_at, votes_for, Casts, Drops}
use Rattle.recovery.specs.Rebuilt.{Rebuilt}
use Rattle.cluster.specs.OverBench.{Kept, IsAimed, IsSeat, IsState}
use Rattle.cluster.specs.Casting.{seat_sees, SeatsSee}
use Rattle.cluster.proofs.ListFacts.{read_is, count_same}
use Rattle.cluster.proofs.States.{root_of}

-- what is found among the pairs with keys above p
lookup-above : {X : Type 0} (p q : ℕ) (ws : List (ℕ × X)) →
    lookup q (above p ws) ≡ cond (nat_le q p) None (lookup q ws)
lookup-above p q [] = by (nat_le q p)
  where
    by : {X : Type 0} (u : Bool) → (let o : Option X = None in o) ≡ cond u None None
    by true = refl
    by false = refl
lookup-above {X} p q (w ∷ ws) = by (nat_lt p w.0) (w.0 == q) (nat_le q p) refl refl refl (lookup-above p q ws)
  where
    by : (b t u : Bool) → nat_lt p w.0 ≡ b → (w.0 == q) ≡ t → nat_le q p ≡ u →
        lookup q (above p ws) ≡ cond u None (lookup q ws) →
        lookup q (cond b (w ∷ above p ws) (above p ws)) ≡ cond u None (cond t (Some w.1) (lookup q ws))
    by true true true eb et eu rest = absurd
        (let same : w.0 ≡ q = eqb-true w.0 q et in let high : p < w.0 = ltb-true p w.0 eb in
        let no : nat_le q p ≡ false = grind (arith, nat_tests) in cc)
    by true true false eb et eu rest = ap (λ c. cond c (Some w.1) (lookup q (above p ws))) et
    by true false true eb et eu rest = ap (λ c. cond c (Some w.1) (lookup q (above p ws))) et ∙ rest
    by true false false eb et eu rest = ap (λ c. cond c (Some w.1) (lookup q (above p ws))) et ∙ rest
    by false true true eb et eu rest = rest
    by false true false eb et eu rest = absurd
        (let same : w.0 ≡ q = eqb-true w.0 q et in
        let yes : nat_lt p w.0 ≡ true = grind (arith, nat_tests) in cc)
    by false false true eb et eu rest = rest
    by false false false eb et eu rest = rest

-- a digest is the one that a word is of
digest_word : (d : List ℕ) (o : Option (List ℕ)) → is_digest d o ≡ is_word (words.Reply d) (option_map words.Reply o)
digest_word d None = refl
digest_word d (Some e) = refl

map_if : (b : Bool) (o : Option (List ℕ)) →
    (let reply : List ℕ → Word = words.Reply in option_map reply (cond b None o) ≡ cond b None (option_map reply o))
map_if true o = refl
map_if false o = refl

sees_at : (p k : ℕ) (xs : List Replica) →
    slice_index_or (map (sees_stable p) xs) k gone ≡ sees_stable p (slice_index_or xs k gone)
sees_at p k [] = refl
sees_at p zero (x ∷ xs) = refl
sees_at p (suc k) (x ∷ xs) = sees_at p k xs

-- what is read where each live replica has forgotten
seen_at : (p k : ℕ) (old new : List Seat) → SeatsSee p old new → k < length old →
    slice_index_or new k DownSeat ≡ seat_sees p (slice_index_or old k DownSeat)
seen_at p k old new h within =
    read_is new k (seat_sees p (slice_index_or old k DownSeat)) DownSeat
    (h.each k ∙ ap (option_map (seat_sees p)) (slice_get-get_or old k DownSeat within))

-- what is being rebuilt forgets nothing
rebuilding_seen : (p : ℕ) (o : Option Seat) (b : Rebuilt) → option_map (seat_sees p) o ≡ Some (RebuildingSeat b) →
    o ≡ Some (RebuildingSeat b)
rebuilding_seen p None b e = absurd (cc)
rebuilding_seen p (Some (LiveSeat k)) b e = absurd (cc)
rebuilding_seen p (Some (RebuildingSeat a)) b e = e
rebuilding_seen p (Some DownSeat) b e = absurd (cc)

-- what is aimed no higher than the stable place is aimed below a higher one
aimed_low : (old new : ℕ) (d e : List ℕ) (b : Rebuilt) → old < new → IsAimed old d b → IsAimed new e b
aimed_low old new d e b more h = record {
  low = λ p is. (let l = h.low p is in omega arith);
  root_is = λ is. (let l = h.low new is in absurd (omega arith));
}

module _ {X : Type 0} (state : X → Server) where
  seat_seen : (limits : Limits) (p : ℕ) (seat : Seat) (s : Option X) (t : Option ConfTable) (c : Condition) →
      IsSeat state limits seat s t c → IsSeat state limits (seat_sees p seat) s t (drops_before p c)
  seat_seen limits p DownSeat s t c h = ap (drops_before p) h
  seat_seen limits p (RebuildingSeat b) s t c h = record {
    fetching = h.fetching;
    is_rebuilding = ap (drops_before p) h.is_rebuilding;
    stands = h.stands;
    target = h.target;
    fetched = h.fetched;
  }
  seat_seen limits p (LiveSeat k) s t c h = record {
    live = record h.live { holds = from_place p h.live.holds };
    is_live = ap (drops_before p) h.is_live;
    stands = h.stands;
    keeps = record {
      place = h.keeps.place;
      believed = h.keeps.believed;
      told = h.keeps.told;
      holds = ap (from_place p) h.keeps.holds;
      lies = h.keeps.lies;
      harmed = h.keeps.harmed;
    };
  }

  -- a root word that is cast for a place above the stable one stands
  pub state_adds_root : (c : Kept) (roots' : List Ballot) (servers : List X) (tables : List ConfTable) (s : State)
      (r p : ℕ) (d : List ℕ) → IsState state c servers tables s → r < length c.seats →
      Casts r p (words.Reply d) c.roots roots' →
      IsState state (record c { roots = roots' }) servers tables (adds_root r p d s)
  state_adds_root c roots' servers tables s r p d h within cast =
      let x : Replica = record (replica s r) { roots = (p, d) ∷ (replica s r).roots } in
      let size : length (set s.replicas r x) ≡ length s.replicas = length-set s.replicas r x in
      let l : r < length s.replicas = (let e = h.size in omega arith) in
      let same : replica (put r x s) r ≡ x = get_or-set_same s.replicas r x gone l in
      let other : (k : ℕ) → k ≢ r → replica (put r x s) k ≡ replica s k =
      λ k ne. get_or-set_other s.replicas r k x gone ne in
      record {
        requests = h.requests;
        order = h.order;
        stable = h.stable;
        root = h.root;
        decisions = h.decisions;
        size = size ∙ h.size;
        voters = h.voters;
        root_voters = cast.size ∙ h.root_voters;
        conditions = λ k lk. elim (one_or_not k r) as (λ _. IsSeat state c.limits (slice_index_or c.seats k DownSeat)
            (slice_get servers k) (slice_get tables k) (replica (put r x s) k).condition) [
              | inl e ↦ subst (λ k. IsSeat state c.limits (slice_index_or c.seats k DownSeat) (slice_get servers k)
                  (slice_get tables k) (replica (put r x s) k).condition) (sym e)
                  (rw same (h.conditions r within))
              | inr ne ↦ rw (other k ne) (h.conditions k lk)
            ];
        aimed = h.aimed;
        words = λ k q lk. elim (one_or_not k r) as (λ _. lookup q (replica (put r x s) k).words
            ≡ cond (has (c.decisions q)) None (word_at c.ballots k q)) [
              | inl e ↦ subst (λ k. lookup q (replica (put r x s) k).words
                  ≡ cond (has (c.decisions q)) None (word_at c.ballots k q)) (sym e)
                  (ap (λ (y : Replica). lookup q y.words) same ∙ h.words r q within)
              | inr ne ↦ ap (λ (y : Replica). lookup q y.words) (other k ne) ∙ h.words k q lk
            ];
        roots = λ k q lk. elim (one_or_not k r) as (λ _. root_of q (replica (put r x s) k) ≡ word_at roots' k q) [
          | inl e ↦ subst (λ k. root_of q (replica (put r x s) k) ≡ word_at roots' k q) (sym e)
              (ap (root_of q) same ∙ mine q)
          | inr ne ↦ ap (root_of q) (other k ne) ∙ h.roots k q lk ∙ sym (cast.voters k q ne)
        ];
      }
    where
      mine : (q : ℕ) →
          option_map words.Reply (cond (p == q) (Some d) (lookup q (replica s r).roots)) ≡ word_at roots' r q
      mine q = elim (one_or_not q p) as (λ _. option_map words.Reply (cond (p == q) (Some d)
          (lookup q (replica s r).roots)) ≡ word_at roots' r q) [
            | inl e ↦ (let t : (p == q) ≡ true = grind (arith, nat_tests) in
                ap (λ b. option_map words.Reply (cond b (Some d) (lookup q (replica s r).roots))) t
                ∙ sym (ap (word_at roots' r) e ∙ cast.here))
            | inr ne ↦ (let t : (p == q) ≡ false = grind (arith, nat_tests) in
                ap (λ b. option_map words.Reply (cond b (Some d) (lookup q (replica s r).roots))) t
                ∙ h.roots r q within ∙ sym (cast.places q ne))
          ]

  -- a place becomes stable
  pub state_stable : (c : Kept) (seats' : List Seat) (roots' : List Ballot) (servers : List X)
      (tables : List ConfTable) (m : Moment) (p : ℕ) (d : List ℕ) → IsState state c servers tables m.state →
      c.stable < p → SeatsSee p c.seats seats' → Drops p c.roots roots' →
      IsState state (record c { seats = seats'; roots = roots'; stable = p; root = d }) servers tables
      (becomes_stable p d m).state
  state_stable c seats' roots' servers tables m p d h more seen drops =
      let s = m.state in
      let at : (k : ℕ) → replica (becomes_stable p d m).state k ≡ sees_stable p (replica s k) =
      λ k. sees_at p k s.replicas in
      let low : (k : ℕ) → k < length seats' → k < length c.seats = λ k lk. (let e = seen.size in omega arith) in
      record {
        requests = h.requests;
        order = h.order;
        stable = refl;
        root = refl;
        decisions = h.decisions;
        size = length-map s.replicas (sees_stable p) ∙ h.size ∙ sym seen.size;
        voters = h.voters ∙ sym seen.size;
        root_voters = drops.size ∙ h.root_voters ∙ sym seen.size;
        conditions = λ k lk. rw (at k, seen_at p k c.seats seats' seen (low k lk))
            (seat_seen c.limits p (slice_index_or c.seats k DownSeat) (slice_get servers k) (slice_get tables k)
            (replica s k).condition (h.conditions k (low k lk)));
        aimed = λ k b at. aimed_low c.stable p c.root d b more
            (h.aimed k b (rebuilding_seen p (slice_get c.seats k) b (sym (seen.each k) ∙ at)));
        words = λ k q lk. ap (λ (y : Replica). lookup q y.words) (at k) ∙ h.words k q (low k lk);
        roots = λ k q lk. ap (root_of q) (at k)
            ∙ ap (option_map words.Reply) (lookup-above p q (replica s k).roots)
            ∙ map_if (nat_le q p) (lookup q (replica s k).roots)
            ∙ ap (cond (nat_le q p) None) (h.roots k q (low k lk)) ∙ sym (drops.words k q);
      }

  -- the model's votes for a root are those that are kept
  pub root_votes_are : (c : Kept) (servers : List X) (tables : List ConfTable) (s : State) (p : ℕ) (d : List ℕ) →
      IsState state c servers tables s → root_votes p d s ≡ votes_for c.roots p (words.Reply d)
  root_votes_are c servers tables s p d h =
      count_same (says_root p d) (λ (v : Ballot). is_word (words.Reply d) (v p)) s.replicas c.roots
      (h.size ∙ sym h.root_voters) (λ k x v at_x at_v. by k x v at_x at_v)
    where
      by : (k : ℕ) (x : Replica) (v : Ballot) → slice_get s.replicas k ≡ Some x → slice_get c.roots k ≡ Some v →
          is_digest d (lookup p x.roots) ≡ is_word (words.Reply d) (v p)
      by k x v at_x at_v =
          let lk : k < length c.seats = (let e = slice_get_within c.roots k v at_v in let f = h.root_voters in
          omega arith) in
          let is : replica s k ≡ x = read_is s.replicas k x gone at_x in
          digest_word d (lookup p x.roots) ∙ ap (is_word (words.Reply d)) (ap (root_of p) (sym is) ∙ h.roots k p lk
          ∙ ap (λ o. option_and_then (λ (b : Ballot). b p) o) at_v)
