-- The words that a replica casts: what the code did is what the model does.
use Rattle.std.proofs.Common.{◌≡◌, ◌⊎◌, inl, inr, ℕ, ◌+◌, ◌*◌, ◌%◌, ◌<◌, Bool, true, false, cond, List, [], ◌∷◌, ◌++◌, length, Option, Some, None, refl, sym, ◌∙◌, ap, subst, arith, append_assoc}
use Rattle.std.specs.Prelude.{◌==◌, ◌||◌, nat_le, nat_lt}
use Rattle.std.proofs.lemmas.Bool.{eqb-true}
use Rattle.std.proofs.lemmas.Bool.Decides.{nat_tests}
use Rattle.std.proofs.lemmas.List.{append-nil}
use Rattle.nfs2_types.specs.declared.Limits.{Limits}
use Rattle.nfs2_types.specs.declared.Word.{Word}
use Rattle.abs_model.specs.declared.Entry.{Entry}
use Rattle.abs_model.specs.Valid.{Valid}
use Rattle.server_trait.specs.Tree.{Server}
use Rattle.server_trait.specs.declared.ConfTable.{ConfTable}
use Rattle.dispatch.specs.Answer.{answer}
use Rattle.log_format.specs.declared.Line.{Line}
use Rattle.log_format.specs.declared.Line.TheVariants as lines
use Rattle.cluster_model.specs.declared.Request.{Request}
use Rattle.cluster_model.specs.Service.{Service}
use Rattle.cluster_model.specs.Tree.{root_of}
use Rattle.cluster_model.specs.State.{Running, Lies, lookup, has, or_else}
use Rattle.cluster_model.specs.Moments.{Moment, adds_word, adds_root, decision_line, decides, becomes_stable, votes, root_votes, casts_word, casts_root, counts_word, counts_root, is_decided}
use Rattle.cluster_model.specs.Turns.{takes_checkpoint, ran, skipped, checked, is_checkpoint, casts_root_of}
use Rattle.service_laws.specs.Served.{IsSized, service}
use Rattle.partition_tree.specs.Digests.{IsRoot}
use Rattle.replica.specs.declared.Replica.{Replica as Runner}
use Rattle.replica.specs.declared.Cast.{Cast}
use Rattle.replica.specs.Replicas.{IsOver, IsRootWord, passed, checked as keeps_checked, skipped as keeps_skipped}
use Rattle.seats.specs.declared.Seat.{Seat}
use Rattle.reply_vote.specs.Ballots.{Ballot}
use Rattle.conf_map.specs.Stands.{AreWithin}
use Rattle.cluster.specs.OverBench.{Kept, IsKeptBy, IsState, is_size}
use Rattle.cluster.specs.Casting.{SameButWords, SameButRoots, CastCases, Late, Stood, Decided, RootCases, Low, Waits, IsStable, RootedIf, Voted}
use Rattle.cluster.proofs.States.{state_adds, state_decides, votes_are}
use Rattle.cluster.proofs.RootStates.{state_adds_root, state_stable, root_votes_are}
use Rattle.cluster.proofs.Checkpoints.{keeps_passed, keeps_passed_over, root_is}

-- what is known of the service
pub record IsService (S : Service) (limits : Limits) : Type 0 where
  pub f : S.f ≡ limits.f
  pub k : S.k ≡ limits.k
  pub next : (a : List Entry) (q : Request) → S.next a q ≡ (answer a limits q.time q.bytes).array
  pub word : (a : List Entry) (q : Request) → S.word a q ≡ (answer a limits q.time q.bytes).word
  -- a replica keeps what the model's has, after a request and the checkpoint that is due
  pub keeps : (l : Running) (k : Runner) (q : Request) → IsKeptBy k l → IsOver limits.n k → Valid limits l.array →
      IsKeptBy (passed limits l.array (answer l.array limits q.time q.bytes) k) (checked S (ran S q l))
  -- nor where a place is passed with no request
  pub keeps_over : (l : Running) (k : Runner) → IsKeptBy k l → IsOver limits.n k → Valid limits l.array →
      IsKeptBy (keeps_checked limits l.array (keeps_skipped k)) (checked S (skipped l))
  pub root : (ds : List (List ℕ)) (d : List ℕ) → length ds ≡ limits.n → IsRoot ds d → d ≡ root_of S ds

pub service_is : (limits : Limits) → IsSized limits → IsService (service limits) limits
unfolding service
service_is limits sized = record {
  f = refl;
  k = refl;
  next = λ a q. refl;
  word = λ a q. refl;
  keeps = λ l k q h over valid. keeps_passed limits l k q h over valid;
  keeps_over = λ l k h over valid. keeps_passed_over limits l k h over valid;
  root = λ ds d size is. root_is limits sized ds d size is;
}

pub service_k : (limits : Limits) → (service limits).k ≡ limits.k
unfolding service
service_k limits = refl

-- limits within their bounds with a size that a header may ask for
pub sized_of : (limits : Limits) → AreWithin limits → is_size limits.n ≡ true → IsSized limits
sized_of limits within size = record {
  entries = by (limits.n == 16) refl (limits.n == 256) refl (limits.n == 4096) refl size;
  space = (let most = within.3 in omega arith);
}
  where
    by : (a : Bool) → (limits.n == 16) ≡ a → (b : Bool) → (limits.n == 256) ≡ b → (e : Bool) →
        (limits.n == 4096) ≡ e → ((a || b) || e) ≡ true → (limits.n ≡ 16) ⊎ ((limits.n ≡ 256) ⊎ (limits.n ≡ 4096))
    by true x b y e z h = inl (eqb-true limits.n 16 x)
    by false x true y e z h = inr (inl (eqb-true limits.n 256 y))
    by false x false y true z h = inr (inr (eqb-true limits.n 4096 z))
    by false x false y false z h = absurd (cc)

kept_is : (c new : Kept) (ballots' : List Ballot) (decisions' : ℕ → Option Word) → SameButWords c new →
    new.ballots ≡ ballots' → new.decisions ≡ decisions' →
    new ≡ record c { ballots = ballots'; decisions = decisions' }
kept_is c new ballots' decisions' h v d = λ i. record {
  limits = h.limits i;
  requests = h.requests i;
  seats = h.seats i;
  ballots = v i;
  decisions = d i;
  roots = h.roots i;
  stable = h.stable i;
  root = h.root i;
  events = h.events i;
}

rooted_is : (c new : Kept) (seats' : List Seat) (roots' : List Ballot) (p : ℕ) (d : List ℕ) →
    SameButRoots c new → new.seats ≡ seats' → new.roots ≡ roots' → new.stable ≡ p → new.root ≡ d →
    new ≡ record c { seats = seats'; roots = roots'; stable = p; root = d }
rooted_is c new seats' roots' p d h a b e f = λ i. record {
  limits = h.limits i;
  requests = h.requests i;
  seats = a i;
  ballots = h.ballots i;
  decisions = h.decisions i;
  roots = b i;
  stable = e i;
  root = f i;
  events = h.events i;
}

-- the lines of a cast
abbrev pub cast_lines : {r p : ℕ} {w : Word} {old new : Kept} {ls ls' : List Line} →
    CastCases r p w old new ls ls' → List Line
cast_lines (Late v e vs ds l) = []
cast_lines (Stood e cast ds l few) = []
cast_lines {p = p} {w = w} (Decided e mid cast drop ds l enough) = decision_line p w ∷ []

pub lines_are : {r p : ℕ} {w : Word} {old new : Kept} {ls ls' : List Line} (k : CastCases r p w old new ls ls') →
    ls' ≡ ls ++ cast_lines k
lines_are {ls = ls} (Late v e vs ds l) = l ∙ sym (append-nil ls)
lines_are {ls = ls} (Stood e cast ds l few) = l ∙ sym (append-nil ls)
lines_are (Decided e mid cast drop ds l enough) = l

-- the lines of a root word's cast
abbrev pub root_lines : {r p : ℕ} {d : List ℕ} {old new : Kept} {ls ls' : List Line} →
    RootCases r p d old new ls ls' → List Line
root_lines (Low low roots stable root seats l) = []
root_lines (Waits high cast stable root seats l few) = []
root_lines {p = p} {d = d} (IsStable high mid cast drop stable root seen l enough) = lines.Stable p d ∷ []

root_lines_are : {r p : ℕ} {d : List ℕ} {old new : Kept} {ls ls' : List Line} (k : RootCases r p d old new ls ls') →
    ls' ≡ ls ++ root_lines k
root_lines_are {ls = ls} (Low low roots stable root seats l) = l ∙ sym (append-nil ls)
root_lines_are {ls = ls} (Waits high cast stable root seats l few) = l ∙ sym (append-nil ls)
root_lines_are (IsStable high mid cast drop stable root seen l enough) = l

-- the lines where there may be a root word
abbrev pub rooted_lines : (r p : ℕ) (o : Option (List ℕ)) (old new : Kept) (ls ls' : List Line) →
    RootedIf r p o old new ls ls' → List Line
rooted_lines r p None old new ls ls' h = []
rooted_lines r p (Some d) old new ls ls' h = root_lines h.cases

pub rooted_lines_are : (r p : ℕ) (o : Option (List ℕ)) (old new : Kept) (ls ls' : List Line)
    (h : RootedIf r p o old new ls ls') → ls' ≡ ls ++ rooted_lines r p o old new ls ls' h
rooted_lines_are r p None old new ls ls' h = h.1 ∙ sym (append-nil ls)
rooted_lines_are r p (Some d) old new ls ls' h = root_lines_are h.cases

-- the lines of all words of a place
abbrev pub vote_lines : (r : ℕ) (cast : Cast) (old new : Kept) (ls ls' : List Line) →
    Voted r cast old new ls ls' → List Line
vote_lines r cast old new ls ls' v =
    cast_lines v.replied.cases ++ rooted_lines r cast.place cast.root v.mid new v.between ls' v.rooted

pub vote_lines_are : (r : ℕ) (cast : Cast) (old new : Kept) (ls ls' : List Line) (v : Voted r cast old new ls ls') →
    ls' ≡ ls ++ vote_lines r cast old new ls ls' v
vote_lines_are r cast old new ls ls' v =
    let more = rooted_lines r cast.place cast.root v.mid new v.between ls' v.rooted in
    rooted_lines_are r cast.place cast.root v.mid new v.between ls' v.rooted
    ∙ ap (λ xs. xs ++ more) (lines_are v.replied.cases)
    ∙ append_assoc ls (cast_lines v.replied.cases) more

-- a checkpoint changes neither place nor array
pub checked_place : (S : Service) (l : Running) → (checked S l).place ≡ l.place
checked_place S l = by (is_checkpoint S l.place)
  where
    by : (b : Bool) → (cond b (takes_checkpoint S l) l).place ≡ l.place
    by true = refl
    by false = refl

pub checked_array : (S : Service) (l : Running) → (checked S l).array ≡ l.array
checked_array S l = by (is_checkpoint S l.place)
  where
    by : (b : Bool) → (cond b (takes_checkpoint S l) l).array ≡ l.array
    by true = refl
    by false = refl

module _ {X : Type 0} (state : X → Server) where
  -- casting a word
  pub state_cast : (S : Service) (c new : Kept) (servers : List X) (tables : List ConfTable) (r p : ℕ) (w : Word)
      (ls ls' : List Line) → S.f ≡ c.limits.f → r < length c.seats → SameButWords c new →
      (k : CastCases r p w c new ls ls') → (m : Moment) → IsState state c servers tables m.state →
      IsState state new servers tables (casts_word S r p w m).state
      × ((casts_word S r p w m).lines ≡ m.lines ++ cast_lines k)
  state_cast S c new servers tables r p w ls ls' f within same (Late v e vs ds l) m h =
      let t : is_decided p m.state ≡ true = ap has (h.decisions p ∙ e) in
      let is : casts_word S r p w m ≡ m =
      ap (λ b. cond b m (counts_word S p w (record m { state = adds_word r p w m.state }))) t in
      subst (λ (n : Moment). IsState state new servers tables n.state × (n.lines ≡ m.lines ++ [])) (sym is) (
        subst (λ (v : Kept). IsState state v servers tables m.state)
            (sym (kept_is c new c.ballots c.decisions same vs ds)) h,
        sym (append-nil m.lines),
      )
  state_cast S c new servers tables r p w ls ls' f within same (Stood e cast ds l few) m h =
      let n : Moment = record m { state = adds_word r p w m.state } in
      let t : is_decided p m.state ≡ false = ap has (h.decisions p ∙ e) in
      let h' : IsState state (record c { ballots = new.ballots }) servers tables n.state =
      state_adds state c new.ballots servers tables m.state r p w h within e cast in
      let count = votes_are state (record c { ballots = new.ballots }) servers tables n.state p w h' e in
      let low : nat_le (S.f + 1) (votes p w n.state) ≡ false = grind (arith, nat_tests) in
      let is : casts_word S r p w m ≡ n = ap (λ b. cond b m (counts_word S p w n)) t
      ∙ ap (λ b. cond b (decides p w n) n) low in
      subst (λ (n : Moment). IsState state new servers tables n.state × (n.lines ≡ m.lines ++ [])) (sym is) (
        subst (λ (v : Kept). IsState state v servers tables n.state)
            (sym (kept_is c new new.ballots c.decisions same refl ds)) h',
        sym (append-nil m.lines),
      )
  state_cast S c new servers tables r p w ls ls' f within same (Decided e mid cast drop ds l enough) m h =
      let n : Moment = record m { state = adds_word r p w m.state } in
      let t : is_decided p m.state ≡ false = ap has (h.decisions p ∙ e) in
      let h' : IsState state (record c { ballots = mid }) servers tables n.state =
      state_adds state c mid servers tables m.state r p w h within e cast in
      let count = votes_are state (record c { ballots = mid }) servers tables n.state p w h' e in
      let high : nat_le (S.f + 1) (votes p w n.state) ≡ true = grind (arith, nat_tests) in
      let is : casts_word S r p w m ≡ decides p w n = ap (λ b. cond b m (counts_word S p w n)) t
      ∙ ap (λ b. cond b (decides p w n) n) high in
      subst (λ (k : Moment). IsState state new servers tables k.state
      × (k.lines ≡ m.lines ++ decision_line p w ∷ [])) (sym is) (
        subst (λ (v : Kept). IsState state v servers tables (decides p w n).state)
            (sym (kept_is c new new.ballots new.decisions same refl refl))
            (state_decides state (record c { ballots = mid }) new.ballots new.decisions servers tables n p w h' e ds drop),
        refl,
      )

  -- casting a root word
  pub state_root : (S : Service) (c new : Kept) (servers : List X) (tables : List ConfTable) (r p : ℕ) (d : List ℕ)
      (ls ls' : List Line) → S.f ≡ c.limits.f → r < length c.seats → SameButRoots c new →
      (k : RootCases r p d c new ls ls') → (m : Moment) → IsState state c servers tables m.state →
      IsState state new servers tables (casts_root S r p d m).state
      × ((casts_root S r p d m).lines ≡ m.lines ++ root_lines k)
  state_root S c new servers tables r p d ls ls' f within same (Low low roots stable root seats l) m h =
      let t : nat_lt m.state.stable p ≡ false = (let z = h.stable in grind (arith, nat_tests)) in
      let is : casts_root S r p d m ≡ m =
      ap (λ b. cond b (counts_root S p d (record m { state = adds_root r p d m.state })) m) t in
      subst (λ (n : Moment). IsState state new servers tables n.state × (n.lines ≡ m.lines ++ [])) (sym is) (
        subst (λ (v : Kept). IsState state v servers tables m.state)
            (sym (rooted_is c new c.seats c.roots c.stable c.root same seats roots stable root)) h,
        sym (append-nil m.lines),
      )
  state_root S c new servers tables r p d ls ls' f within same (Waits high cast stable root seats l few) m h =
      let n : Moment = record m { state = adds_root r p d m.state } in
      let t : nat_lt m.state.stable p ≡ true = (let z = h.stable in grind (arith, nat_tests)) in
      let h' : IsState state (record c { roots = new.roots }) servers tables n.state =
      state_adds_root state c new.roots servers tables m.state r p d h within cast in
      let count = root_votes_are state (record c { roots = new.roots }) servers tables n.state p d h' in
      let low : nat_le (2 * S.f + 1) (root_votes p d n.state) ≡ false = grind (arith, nat_tests) in
      let is : casts_root S r p d m ≡ n = ap (λ b. cond b (counts_root S p d n) m) t
      ∙ ap (λ b. cond b (becomes_stable p d n) n) low in
      subst (λ (n : Moment). IsState state new servers tables n.state × (n.lines ≡ m.lines ++ [])) (sym is) (
        subst (λ (v : Kept). IsState state v servers tables n.state)
            (sym (rooted_is c new c.seats new.roots c.stable c.root same seats refl stable root)) h',
        sym (append-nil m.lines),
      )
  state_root S c new servers tables r p d ls ls' f within same (IsStable high mid cast drop stable root seen l enough)
      m h =
      let n : Moment = record m { state = adds_root r p d m.state } in
      let t : nat_lt m.state.stable p ≡ true = (let z = h.stable in grind (arith, nat_tests)) in
      let h' : IsState state (record c { roots = mid }) servers tables n.state =
      state_adds_root state c mid servers tables m.state r p d h within cast in
      let count = root_votes_are state (record c { roots = mid }) servers tables n.state p d h' in
      let yes : nat_le (2 * S.f + 1) (root_votes p d n.state) ≡ true = grind (arith, nat_tests) in
      let is : casts_root S r p d m ≡ becomes_stable p d n = ap (λ b. cond b (counts_root S p d n) m) t
      ∙ ap (λ b. cond b (becomes_stable p d n) n) yes in
      subst (λ (k : Moment). IsState state new servers tables k.state
      × (k.lines ≡ m.lines ++ lines.Stable p d ∷ [])) (sym is) (
        subst (λ (v : Kept). IsState state v servers tables (becomes_stable p d n).state)
            (sym (rooted_is c new new.seats new.roots p d same refl refl stable root))
            (state_stable state (record c { roots = mid }) new.seats new.roots servers tables n p d h' high seen drop),
        refl,
      )

  -- casting the root word of a replica that took the checkpoint due, or none
  pub state_rooted : (S : Service) (c new : Kept) (servers : List X) (tables : List ConfTable) (r p : ℕ)
      (o : Option (List ℕ)) (ls ls' : List Line) (l : Running) (k : Runner) → IsService S c.limits → r < length c.seats →
      IsKeptBy k l → length k.tree ≡ c.limits.n → p ≡ k.place → IsRootWord c.limits k o →
      (h : RootedIf r p o c new ls ls') → (m : Moment) → IsState state c servers tables m.state →
      IsState state new servers tables (casts_root_of S r l m).state
      × ((casts_root_of S r l m).lines ≡ m.lines ++ rooted_lines r p o c new ls ls' h)
  state_rooted S c new servers tables r p None ls ls' l k is within keeps size place root h m s =
      let none : is_checkpoint S l.place ≡ false =
      ap (λ n. n % S.k == 0) keeps.place ∙ ap (λ n. k.place % n == 0) is.k ∙ root in
      let same : casts_root_of S r l m ≡ m = ap (λ b. cond b (casts_root S r l.place
      (or_else (lookup l.place l.lies.roots) (root_of S l.believed)) m) m) none in
      subst (λ (n : Moment). IsState state new servers tables n.state × (n.lines ≡ m.lines ++ [])) (sym same) (
        subst (λ (v : Kept). IsState state v servers tables m.state) (sym h.0) s,
        sym (append-nil m.lines),
      )
  state_rooted S c new servers tables r p (Some d) ls ls' l k is within keeps size place root h m s =
      let due : is_checkpoint S l.place ≡ true =
      ap (λ n. n % S.k == 0) keeps.place ∙ ap (λ n. k.place % n == 0) is.k ∙ root.0 in
      let word : or_else (lookup l.place l.lies.roots) (root_of S l.believed) ≡ d =
      ap (λ (y : Lies). or_else (lookup l.place y.roots) (root_of S l.believed)) keeps.lies
      ∙ ap (λ n. or_else (lookup n k.lies.roots) (root_of S l.believed)) keeps.place
      ∙ ap (λ ds. or_else (lookup k.place k.lies.roots) (root_of S ds)) keeps.believed
      ∙ ap (or_else (lookup k.place k.lies.roots)) (sym (is.root k.tree root.1.0 size root.1.1)) ∙ sym root.1.2 in
      let same : casts_root_of S r l m ≡ casts_root S r p d m = ap (λ b. cond b (casts_root S r l.place
      (or_else (lookup l.place l.lies.roots) (root_of S l.believed)) m) m) due
      ∙ ap (λ x. casts_root S r l.place x m) word ∙ ap (λ n. casts_root S r n d m) (keeps.place ∙ sym place) in
      subst (λ (n : Moment). IsState state new servers tables n.state
      × (n.lines ≡ m.lines ++ root_lines h.cases)) (sym same)
      (state_root S c new servers tables r p d ls ls' is.f within h.same h.cases m s)
