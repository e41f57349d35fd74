-- Small changes of a state, and what cluster and bench then stand for.
use Rattle.std.proofs.Common.{◌≡◌, ◌≢◌, ℕ, zero, suc, ◌<◌, true, false, cond, List, [], ◌∷◌, ◌++◌, map, length, set, slice_get, Option, Some, None, inl, inr, refl, sym, ◌∙◌, ap, subst, arith}
use Rattle.std.specs.Prelude.{slice_index_or, option_map, ◌==◌}
use Rattle.std.specs.Option.{option_and_then}
use Rattle.std.proofs.lemmas.Option.{slice_get_within}
use Rattle.std.proofs.lemmas.Bool.Decides.{nat_tests}
use Rattle.std.proofs.lemmas.List.{length-set, get_or-set_same, get_or-set_other, length-map}
use Rattle.nfs2_types.specs.declared.Word.{Word}
use Rattle.nfs2_types.specs.declared.Word.TheVariants as words
use Rattle.server_trait.specs.Tree.{Server}
use Rattle.server_trait.specs.declared.ConfTable.{ConfTable}
use Rattle.server_trait.proofs.TreeLaws.{one_or_not, some_same}
use Rattle.cluster_model.specs.Tree.{below}
use Rattle.cluster_model.specs.State.{Condition, State, Replica, lookup, has, is_word, says}
use Rattle.cluster_model.specs.Moments.{Moment, gone, replica, put, adds_word, decides, without, forgets_words, votes}
use Rattle.seats.specs.declared.Seat.{Seat}
use Rattle.seats.specs.declared.Seat.TheVariants.{Rebuilding as RebuildingSeat, Down as DownSeat}
use Rattle.recovery.specs.Rebuilt.{Rebuilt}
use Rattle.reply_vote.specs.Ballots.{Ballot, word_at, votes_for, Casts, Forgets}
use Rattle.seats.specs.Positions.{ChangesAt}
use Rattle.cluster.specs.OverBench.{Kept, IsAimed, IsSeat, IsState}
use Rattle.cluster.specs.Casting.{Decides}
use Rattle.cluster.proofs.ListFacts.{read_same, read_is, count_same, lookup-append_none, lookup-append_other, without_same, without_other}

-- the root word of a replica for a place, as the reply of its bytes
abbrev pub root_of : ℕ → Replica → Option Word
root_of p x = option_map words.Reply (lookup p x.roots)

forgets_at : (p k : ℕ) (xs : List Replica) →
    slice_index_or (map (forgets_words p) xs) k gone ≡ forgets_words p (slice_index_or xs k gone)
forgets_at p k [] = refl
forgets_at p zero (x ∷ xs) = refl
forgets_at p (suc k) (x ∷ xs) = forgets_at p k xs

module _ {X : Type 0} (state : X → Server) where
  -- one replica comes into a condition that its position stands for; all others stay
  pub state_put : (c : Kept) (seats : List Seat) (servers servers' : List X) (tables tables' : List ConfTable)
      (s : State) (r : ℕ) (seat : Seat) (now : Condition) →
      IsState state c servers tables s → r < length c.seats → ChangesAt r c.seats seats →
      slice_get seats r ≡ Some seat → ChangesAt r servers servers' → ChangesAt r tables tables' →
      IsSeat state c.limits seat (slice_get servers' r) (slice_get tables' r) now →
      ((b : Rebuilt) → seat ≡ RebuildingSeat b → IsAimed c.stable c.root b) →
      IsState state (record c { seats = seats }) servers' tables' (put r (record (replica s r) { condition = now }) s)
  state_put c seats servers servers' tables tables' s r seat now h within cs is_seat sv tb here aimed =
      let x : Replica = record (replica s r) { condition = now } in
      let size : length (set s.replicas r x) ≡ length s.replicas = length-set s.replicas r x in
      let l : r < length s.replicas = (let e = h.size in omega arith) in
      let same : replica (put r x s) r ≡ x = get_or-set_same s.replicas r x gone l in
      let other : (k : ℕ) → k ≢ r → replica (put r x s) k ≡ replica s k =
      λ k ne. get_or-set_other s.replicas r k x gone ne in
      record {
        requests = h.requests;
        order = h.order ∙ ap below (sym sv.size);
        stable = h.stable;
        root = h.root;
        decisions = h.decisions;
        size = size ∙ h.size ∙ sym cs.size;
        voters = h.voters ∙ sym cs.size;
        root_voters = h.root_voters ∙ sym cs.size;
        conditions = λ k lk. elim (one_or_not k r) as (λ _. IsSeat state c.limits (slice_index_or seats k DownSeat)
            (slice_get servers' k) (slice_get tables' k) (replica (put r x s) k).condition) [
              | inl e ↦ subst (λ k. IsSeat state c.limits (slice_index_or seats k DownSeat) (slice_get servers' k)
                  (slice_get tables' k) (replica (put r x s) k).condition) (sym e)
                  (rw (same, read_is seats r seat DownSeat is_seat) here)
              | inr ne ↦ rw (other k ne, read_same seats c.seats k DownSeat (cs.others k ne), sv.others k ne, tb.others k ne)
                  (h.conditions k (let e = cs.size in omega arith))
            ];
        aimed = λ k b at. elim (one_or_not k r) as (λ _. IsAimed c.stable c.root b) [
          | inl e ↦ aimed b (some_same is_seat (ap (slice_get seats) (sym e) ∙ at))
          | inr ne ↦ h.aimed k b (sym (cs.others k ne) ∙ at)
        ];
        words = λ k p lk. elim (one_or_not k r) as (λ _. lookup p (replica (put r x s) k).words
            ≡ cond (has (c.decisions p)) None (word_at c.ballots k p)) [
              | inl e ↦ subst (λ k. lookup p (replica (put r x s) k).words
                  ≡ cond (has (c.decisions p)) None (word_at c.ballots k p)) (sym e)
                  (ap (λ (y : Replica). lookup p y.words) same ∙ h.words r p within)
              | inr ne ↦ ap (λ (y : Replica). lookup p y.words) (other k ne)
                  ∙ h.words k p (let e = cs.size in omega arith)
            ];
        roots = λ k p lk. elim (one_or_not k r) as (λ _. root_of p (replica (put r x s) k) ≡ word_at c.roots k p) [
          | inl e ↦ subst (λ k. root_of p (replica (put r x s) k) ≡ word_at c.roots k p) (sym e)
              (ap (root_of p) same ∙ h.roots r p within)
          | inr ne ↦ ap (root_of p) (other k ne) ∙ h.roots k p (let e = cs.size in omega arith)
        ];
      }

  -- a word that is cast for an undecided place stands
  pub state_adds : (c : Kept) (ballots' : List Ballot) (servers : List X) (tables : List ConfTable) (s : State)
      (r p : ℕ) (w : Word) → IsState state c servers tables s → r < length c.seats → c.decisions p ≡ None →
      Casts r p w c.ballots ballots' →
      IsState state (record c { ballots = ballots' }) servers tables (adds_word r p w s)
  state_adds c ballots' servers tables s r p w h within none cast =
      let x : Replica = record (replica s r) { words = (p, w) ∷ (replica s r).words } in
      let size : length (set s.replicas r x) ≡ length s.replicas = length-set s.replicas r x in
      let l : r < length s.replicas = (let e = h.size in omega arith) in
      let same : replica (put r x s) r ≡ x = get_or-set_same s.replicas r x gone l in
      let other : (k : ℕ) → k ≢ r → replica (put r x s) k ≡ replica s k =
      λ k ne. get_or-set_other s.replicas r k x gone ne in
      record {
        requests = h.requests;
        order = h.order;
        stable = h.stable;
        root = h.root;
        decisions = h.decisions;
        size = size ∙ h.size;
        voters = cast.size ∙ h.voters;
        root_voters = h.root_voters;
        conditions = λ k lk. elim (one_or_not k r) as (λ _. IsSeat state c.limits (slice_index_or c.seats k DownSeat)
            (slice_get servers k) (slice_get tables k) (replica (put r x s) k).condition) [
              | inl e ↦ subst (λ k. IsSeat state c.limits (slice_index_or c.seats k DownSeat) (slice_get servers k)
                  (slice_get tables k) (replica (put r x s) k).condition) (sym e)
                  (rw same (h.conditions r within))
              | inr ne ↦ rw (other k ne) (h.conditions k lk)
            ];
        aimed = h.aimed;
        words = λ k q lk. elim (one_or_not k r) as (λ _. lookup q (replica (put r x s) k).words
            ≡ cond (has (c.decisions q)) None (word_at ballots' k q)) [
              | inl e ↦ subst (λ k. lookup q (replica (put r x s) k).words
                  ≡ cond (has (c.decisions q)) None (word_at ballots' k q)) (sym e)
                  (ap (λ (y : Replica). lookup q y.words) same ∙ mine q)
              | inr ne ↦ ap (λ (y : Replica). lookup q y.words) (other k ne) ∙ h.words k q lk
                  ∙ ap (cond (has (c.decisions q)) None) (sym (cast.voters k q ne))
            ];
        roots = λ k q lk. elim (one_or_not k r) as (λ _. root_of q (replica (put r x s) k) ≡ word_at c.roots k q) [
          | inl e ↦ subst (λ k. root_of q (replica (put r x s) k) ≡ word_at c.roots k q) (sym e)
              (ap (root_of q) same ∙ h.roots r q within)
          | inr ne ↦ ap (root_of q) (other k ne) ∙ h.roots k q lk
        ];
      }
    where
      mine : (q : ℕ) → cond (p == q) (Some w) (lookup q (replica s r).words)
          ≡ cond (has (c.decisions q)) None (word_at ballots' r q)
      mine q = elim (one_or_not q p) as (λ _. cond (p == q) (Some w) (lookup q (replica s r).words)
          ≡ cond (has (c.decisions q)) None (word_at ballots' r q)) [
            | inl e ↦ (let t : (p == q) ≡ true = grind (arith, nat_tests) in
                ap (λ b. cond b (Some w) (lookup q (replica s r).words)) t
                ∙ sym (ap (λ q. cond (has (c.decisions q)) None (word_at ballots' r q)) e
                ∙ ap (λ o. cond (has o) None (word_at ballots' r p)) none ∙ cast.here))
            | inr ne ↦ (let t : (p == q) ≡ false = grind (arith, nat_tests) in
                ap (λ b. cond b (Some w) (lookup q (replica s r).words)) t
                ∙ h.words r q within ∙ ap (cond (has (c.decisions q)) None) (sym (cast.places q ne)))
          ]

  -- a place is decided, and its words are forgotten
  pub state_decides : (c : Kept) (ballots' : List Ballot) (decisions' : ℕ → Option Word) (servers : List X)
      (tables : List ConfTable) (m : Moment) (p : ℕ) (w : Word) →
      IsState state c servers tables m.state → c.decisions p ≡ None → Decides p w c.decisions decisions' →
      Forgets p c.ballots ballots' →
      IsState state (record c { ballots = ballots'; decisions = decisions' }) servers tables (decides p w m).state
  state_decides c ballots' decisions' servers tables m p w h none d f =
      let s = m.state in
      let at : (k : ℕ) → replica (decides p w m).state k ≡ forgets_words p (replica s k) =
      λ k. forgets_at p k s.replicas in
      record {
        requests = h.requests;
        order = h.order;
        stable = h.stable;
        root = h.root;
        decisions = λ q. elim (one_or_not q p) as (λ _. lookup q (s.decisions ++ (p, w) ∷ []) ≡ decisions' q) [
          | inl e ↦ subst (λ q. lookup q (s.decisions ++ (p, w) ∷ []) ≡ decisions' q) (sym e)
              (lookup-append_none p w s.decisions (h.decisions p ∙ none) ∙ sym d.here)
          | inr ne ↦ lookup-append_other p q w s.decisions ne ∙ h.decisions q ∙ sym (d.others q ne)
        ];
        size = length-map s.replicas (forgets_words p) ∙ h.size;
        voters = f.size ∙ h.voters;
        root_voters = h.root_voters;
        conditions = λ k lk. rw (at k) (h.conditions k lk);
        aimed = h.aimed;
        words = λ k q lk. ap (λ (y : Replica). lookup q y.words) (at k) ∙ (elim (one_or_not q p) as
            (λ _. lookup q (without p (replica s k).words) ≡ cond (has (decisions' q)) None (word_at ballots' k q)) [
              | inl e ↦ subst (λ q. lookup q (without p (replica s k).words)
                  ≡ cond (has (decisions' q)) None (word_at ballots' k q)) (sym e)
                  (without_same p (replica s k).words ∙ sym (ap (λ o. cond (has o) None (word_at ballots' k p)) d.here))
              | inr ne ↦ without_other p q (replica s k).words ne ∙ h.words k q lk
                  ∙ ap (λ o. cond (has o) None (word_at c.ballots k q)) (sym (d.others q ne))
                  ∙ ap (cond (has (decisions' q)) None) (sym (f.places k q ne))
            ]);
        roots = λ k q lk. ap (root_of q) (at k) ∙ h.roots k q lk;
      }

  -- the model's votes for an undecided place are those that are kept
  pub votes_are : (c : Kept) (servers : List X) (tables : List ConfTable) (s : State) (p : ℕ) (w : Word) →
      IsState state c servers tables s → c.decisions p ≡ None → votes p w s ≡ votes_for c.ballots p w
  votes_are c servers tables s p w h none =
      count_same (says p w) (λ (v : Ballot). is_word w (v p)) s.replicas c.ballots (h.size ∙ sym h.voters)
      (λ k x v at_x at_v. by k x v at_x at_v)
    where
      by : (k : ℕ) (x : Replica) (v : Ballot) → slice_get s.replicas k ≡ Some x → slice_get c.ballots k ≡ Some v →
          is_word w (lookup p x.words) ≡ is_word w (v p)
      by k x v at_x at_v =
          let lk : k < length c.seats = (let e = slice_get_within c.ballots k v at_v in let f = h.voters in omega arith) in
          let is : replica s k ≡ x = read_is s.replicas k x gone at_x in
          ap (is_word w) (ap (λ (y : Replica). lookup p y.words) (sym is) ∙ h.words k p lk
          ∙ ap (λ o. cond (has o) None (word_at c.ballots k p)) none
          ∙ ap (λ o. option_and_then (λ (b : Ballot). b p) o) at_v)
