-- The lines of replies are the decisions, and each stable line was the stable place with its root when it was printed.
use Rattle.std.proofs.Common.{◌≡◌, ℕ, suc, ◌+◌, ◌*◌, ◌⊎◌, Bool, true, false, cond, ◌||◌, ◌&&◌, List, [], ◌∷◌, ◌++◌, length, refl, sym, ◌∙◌, ap, subst, inl, inr, ⊎_elim}
use Rattle.std.specs.Prelude.{Option, Some, None, nat_le, nat_lt, ◌==◌}
use Rattle.std.proofs.lemmas.Grind.{flat_map-append}
use Rattle.std.proofs.lemmas.List.{append-nil, append_assoc}
use Rattle.abs_model.specs.declared.Entry.{Entry}
use Rattle.cluster_model.proofs.Tells.{told-decision, stable-decision, told-at, stable-at}
use Rattle.cluster_model.specs.declared.request.Request.{Request}
use Rattle.nfs2_types.specs.declared.Word.{Word}
use Rattle.log_format.specs.declared.Event.{Event}
use Rattle.log_format.specs.declared.Line.{Line}
use Rattle.log_format.specs.declared.Event.TheVariants.{Request as Ask, Run, RunAll, Reboot, Fetch, Rogue, Skip, Scratch, LieReply, LieRoot, LieItem, Wipe, Swap, End}
use Rattle.log_format.specs.declared.Line.TheVariants as lines
use Rattle.log_format.specs.declared.IdleCause.TheVariants.{NotLive, NotRebuilding, NoBytes}
use Rattle.cluster_model.specs.Service.{Service, array_at, request}
use Rattle.cluster_model.specs.Tree.{Item, root_of, item}
use Rattle.cluster_model.specs.State.{Condition, Live, Down, Rebuilding, Running, Fetching, Replica, lookup, or_else}
use Rattle.cluster_model.specs.Moments.{Moment, Faults, replica, print, becomes, fails, decision_line, casts_word, casts_root, becomes_stable, decides, adds_word, adds_root, votes, root_votes, is_decided}
use Rattle.cluster_model.specs.Turns.{Turn, Next, Not, fails_or, harm, turn, run_turn, rogue_turn, skip_turn, quiet_turn, slot_turn, slots, moments, last, begins, passes, runs, skips, skipped, ran, checked, is_checkpoint, casts_root_of}
use Rattle.cluster_model.specs.Step.{FetchEnd, Missing, Forgets, Whole, at_line, nodes_of, objects_of, harms, if_live, wiped, scratches, exchanged, swaps, withdraws, rebooted, if_rebuilding, stage_fault, stage_moments, stage_order, is_live, gets, ends_fetch, fetches, fetch_towards, end_towards, items_towards, aims, aimed, prints_ends, step, asks, lies_word, lies_root, lies_item}
use Rattle.cluster_model.specs.Loose.{LooseStep, LooseFetch}
use Rattle.cluster_model.specs.Run.{told_by, stable_of, replies, stables, start_fault}
use Rattle.cluster_model.proofs.Steps.{if_live_cases, if_rebuilding_cases}

-- the new lines are the old ones and more
pub record IsLonger (old new : List Line) : Type 0 where
  pub more : List Line
  pub is : new ≡ old ++ more

same_lines : (old new : List Line) → new ≡ old → IsLonger old new
same_lines old new e = record { more = []; is = e ∙ sym (append-nil old) }

longer_then : (xs ys zs : List Line) → IsLonger xs ys → IsLonger ys zs → IsLonger xs zs
longer_then xs ys zs h g =
    record { more = h.more ++ g.more; is = g.is ∙ ap (λ us. us ++ g.more) h.is ∙ append_assoc xs h.more g.more }

-- how lines and decisions go on together from m to n: with no stable place, or with one at the end
pub record Grows (m n : Moment) : Type 0 where
  pub told : replies m.lines ≡ m.state.decisions → replies n.lines ≡ n.state.decisions
  pub asked : (n.state.requests ≡ m.state.requests) ⊎ ((r : Request) × (n.state.requests ≡ m.state.requests ++ r ∷ []))
  pub kept : (stables n.lines ≡ stables m.lines) ⊎
      (stables n.lines ≡ stables m.lines ++ (n.state.stable, n.state.root) ∷ [])
  pub longer : IsLonger m.lines n.lines

-- nothing of these is changed
abbrev Quiet : Moment → Moment → Type 0
Quiet m n = (replies m.lines ≡ m.state.decisions → replies n.lines ≡ n.state.decisions)
    × (stables n.lines ≡ stables m.lines) × (n.state.requests ≡ m.state.requests) × IsLonger m.lines n.lines

quiet_grows : (m n : Moment) → Quiet m n → Grows m n
quiet_grows m n h = record { told = h.0; asked = inl h.2; kept = inl h.1; longer = h.3 }

quiet_then : (m n k : Moment) → Quiet m n → Grows n k → Grows m k
quiet_then m n k h g = record {
  told = λ e. g.told (h.0 e);
  asked = ⊎_elim (λ e. inl (e ∙ h.2)) (λ e. inr (e.0, e.1 ∙ ap (λ q. q ++ e.0 ∷ []) h.2)) g.asked;
  kept = ⊎_elim (λ e. inl (e ∙ h.1)) (λ e. inr (e ∙ ap (λ xs. xs ++ (k.state.stable, k.state.root) ∷ []) h.1)) g.kept;
  longer = longer_then m.lines n.lines k.lines h.3 g.longer;
}

then_quiet : (m n k : Moment) → Quiet m n → Quiet n k → Quiet m k
then_quiet m n k h g = ((λ e. g.0 (h.0 e)), g.1 ∙ h.1, g.2 ∙ h.2, longer_then m.lines n.lines k.lines h.3 g.3)

replies-print : (lines : List Line) (x : Line) → replies (lines ++ x ∷ []) ≡ replies lines ++ told_by x
replies-print lines x = flat_map-append told_by lines (x ∷ []) ∙ ap (λ ys. replies lines ++ ys) (append-nil (told_by x))

stables-print : (lines : List Line) (x : Line) → stables (lines ++ x ∷ []) ≡ stables lines ++ stable_of x
stables-print lines x = flat_map-append stable_of lines (x ∷ [])
    ∙ ap (λ ys. stables lines ++ ys) (append-nil (stable_of x))

-- a line that tells of neither
prints_quiet : (x : Line) (m : Moment) → told_by x ≡ [] → stable_of x ≡ [] → Quiet m (print x m)
prints_quiet x m es er = (
  (λ e. replies-print m.lines x ∙ ap (λ ys. replies m.lines ++ ys) es ∙ append-nil (replies m.lines) ∙ e),
  stables-print m.lines x ∙ ap (λ ys. stables m.lines ++ ys) er ∙ append-nil (stables m.lines),
  refl,
  record { more = x ∷ []; is = refl },
)

same_quiet : (m : Moment) → Quiet m m
same_quiet m = ((λ e. e), refl, refl, same_lines m.lines m.lines refl)

pub same_grows : (m : Moment) → Grows m m
same_grows m = quiet_grows m m (same_quiet m)

fails_quiet : (r : ℕ) (m : Moment) → Quiet m (fails r m)
fails_quiet r m = prints_quiet (lines.Down r) (becomes r Down m) refl refl

-- casting

word_quiet : (S : Service) (r p : ℕ) (w : Word) (m : Moment) → Quiet m (casts_word S r p w m)
word_quiet S r p w m = by (is_decided p m.state) (nat_le (S.f + 1) (votes p w (adds_word r p w m.state)))
  where
    by : (a b : Bool) → Quiet m
        (cond a m (cond b (decides p w (record m { state = adds_word r p w m.state }))
        (record m { state = adds_word r p w m.state })))
    by true b = same_quiet m
    by false false = ((λ e. e), refl, refl, same_lines _ _ refl)
    by false true = (
      (λ e. replies-print m.lines (decision_line p w) ∙ ap (λ ys. replies m.lines ++ ys) (told-decision p w)
          ∙ ap (λ ys. ys ++ (p, w) ∷ []) e),
      stables-print m.lines (decision_line p w) ∙ ap (λ ys. stables m.lines ++ ys) (stable-decision p w)
          ∙ append-nil (stables m.lines),
      refl,
      record { more = decision_line p w ∷ []; is = refl },
    )

root_grows : (S : Service) (r p : ℕ) (d : List ℕ) (m : Moment) → Grows m (casts_root S r p d m)
root_grows S r p d m = by (nat_lt m.state.stable p) (nat_le (2 * S.f + 1) (root_votes p d (adds_root r p d m.state)))
  where
    by : (a b : Bool) → Grows m
        (cond a (cond b (becomes_stable p d (record m { state = adds_root r p d m.state }))
        (record m { state = adds_root r p d m.state })) m)
    by false b = quiet_grows m m (same_quiet m)
    by true false = record { told = λ e. e; asked = inl refl; kept = inl refl; longer = same_lines _ _ refl }
    by true true = record {
      told = λ e. replies-print m.lines (lines.Stable p d) ∙ append-nil (replies m.lines) ∙ e;
      asked = inl refl;
      kept = inr (stables-print m.lines (lines.Stable p d));
      longer = record { more = lines.Stable p d ∷ []; is = refl };
    }

root_of_grows : (S : Service) (r : ℕ) (l : Running) (m : Moment) → Grows m (casts_root_of S r l m)
root_of_grows S r l m = by (is_checkpoint S l.place)
  where
    word : List ℕ
    word = or_else (lookup l.place l.lies.roots) (root_of S l.believed)

    by : (b : Bool) → Grows m (cond b (casts_root S r l.place word m) m)
    by true = root_grows S r l.place word m
    by false = quiet_grows m m (same_quiet m)

passes_grows : (S : Service) (r : ℕ) (l : Running) (w : Word) (m : Moment) → Grows m (passes S r l w m)
passes_grows S r l w m =
    let n = becomes r (Live l) m in
    let k = casts_word S r l.place (or_else (lookup l.place l.lies.words) w) n in
    quiet_then m k (casts_root_of S r l k) (word_quiet S r l.place (or_else (lookup l.place l.lies.words) w) n)
    (root_of_grows S r l k)

skips_grows : (S : Service) (r : ℕ) (l : Running) (m : Moment) → Grows m (skips S r l m)
skips_grows S r l m =
    let n = becomes r (Live (checked S (skipped l))) m in
    quiet_then m n (casts_root_of S r (checked S (skipped l)) n) ((λ e. e), refl, refl, same_lines _ _ refl)
    (root_of_grows S r (checked S (skipped l)) n)

or_grows : (fault : Bool) (r : ℕ) (does : Moment → Moment) (m : Moment) → Grows m (does m) →
    Grows m (fails_or fault r does m)
or_grows true r does m h = quiet_grows m (fails r m) (fails_quiet r m)
or_grows false r does m h = h

quiet_turn_grows : (S : Service) (fault : Bool) (r : ℕ) (t : Turn) (m : Moment) → Grows m (quiet_turn S fault r t m)
quiet_turn_grows S fault r (Next l q) m = or_grows fault r (runs S r l q) m
    (passes_grows S r (checked S (ran S q l)) (S.word l.array q) m)
quiet_turn_grows S fault r (Not c) m = quiet_grows m m (same_quiet m)

run_turn_grows : (S : Service) (fault : Bool) (r : ℕ) (t : Turn) (m : Moment) → Grows m (run_turn S fault r t m)
run_turn_grows S fault r (Next l q) m = or_grows fault r (runs S r l q) m
    (passes_grows S r (checked S (ran S q l)) (S.word l.array q) m)
run_turn_grows S fault r (Not c) m = quiet_grows m (print (lines.Idle r c) m)
    (prints_quiet (lines.Idle r c) m refl refl)

rogue_turn_grows : (S : Service) (fault : Bool) (r : ℕ) (q : Request) (t : Turn) (m : Moment) →
    Grows m (rogue_turn S fault r q t m)
rogue_turn_grows S fault r q (Next l _) m = or_grows fault r (runs S r (harm l) q) m
    (passes_grows S r (checked S (ran S q (harm l))) (S.word l.array q) m)
rogue_turn_grows S fault r q (Not c) m = quiet_grows m (print (lines.Idle r c) m)
    (prints_quiet (lines.Idle r c) m refl refl)

skip_turn_grows : (S : Service) (fault : Bool) (r : ℕ) (t : Turn) (m : Moment) → Grows m (skip_turn S fault r t m)
skip_turn_grows S fault r (Next l _) m = or_grows fault r (skips S r l) m (skips_grows S r l m)
skip_turn_grows S fault r (Not c) m = quiet_grows m (print (lines.Idle r c) m)
    (prints_quiet (lines.Idle r c) m refl refl)

-- Lists of moments

abbrev pub Chain : Moment → List Moment → Type 0
Chain m [] = Unit {0}
Chain m (n ∷ ms) = Grows m n × Chain n ms

pub chain_moments : {X : Type 0} (small : Moment → X → Moment) → ((m : Moment) (x : X) → Grows m (small m x)) →
    (m : Moment) (xs : List X) → Chain m (moments small m xs)
chain_moments small g m [] = tt
chain_moments small g m (x ∷ xs) = (g m x, chain_moments small g (small m x) xs)

pub chain_append : (m : Moment) (ms ns : List Moment) → Chain m ms → Chain (last m ms) ns → Chain m (ms ++ ns)
chain_append m [] ns h g = g
chain_append m (n ∷ ms) ns h g = (h.0, chain_append n ms ns h.1 g)

chain_from : (m n : Moment) (ms : List Moment) → Quiet m n → Chain n ms → Chain m ms
chain_from m n [] h g = tt
chain_from m n (k ∷ ms) h g = (quiet_then m n k h g.0, g.1)

one_chain : (m n : Moment) → Grows m n → Chain m (n ∷ [])
one_chain m n h = (h, tt)

module _ (S : Service) (faults : Faults) (r : ℕ) where
  stage_grows : (stage : ℕ) (m : Moment) (j : ℕ) → Grows m (stage_fault faults r stage m j)
  stage_grows stage m j = by (faults stage j && ((j == r) || is_live (replica m.state j).condition))
    where
      by : (b : Bool) → Grows m (cond b (fails j m) m)
      by true = quiet_grows m (fails j m) (fails_quiet j m)
      by false = quiet_grows m m (same_quiet m)

  ends_grows : (end : FetchEnd) (m : Moment) (b : Fetching) → Grows m (ends_fetch S r end m b)
  ends_grows Missing m b = quiet_grows m (ends_fetch S r Missing m b)
      (prints_quiet (lines.Fetching r m.state.stable (length b.got)) m refl refl)
  ends_grows Forgets m b =
      let n = becomes r (Rebuilding (record b { got = [] })) m in
      quiet_then m n (ends_fetch S r Forgets m b) ((λ e. e), refl, refl, same_lines _ _ refl)
      (quiet_grows n (ends_fetch S r Forgets m b) (prints_quiet (lines.Fetching r m.state.stable 0) n refl refl))
  ends_grows (Whole a) m b =
      let n = becomes r (Live (begins S m.state.stable a)) m in
      quiet_then m n (ends_fetch S r (Whole a) m b) ((λ e. e), refl, refl, same_lines _ _ refl)
      (quiet_grows n (ends_fetch S r (Whole a) m b)
      (prints_quiet (lines.Rebuilt r m.state.stable (nodes_of b.got) (objects_of b.got)) n refl refl))

  fetches_chain : (end : FetchEnd) (stage : ℕ) (items : List (Item × List ℕ)) (m : Moment) →
      Chain m (fetches S faults r end stage items m)
  fetches_chain end stage [] m =
      let ms = stage_moments faults r stage m in
      let k = last m ms in
      chain_append m ms (if_rebuilding k (replica k.state r).condition (λ b. ends_fetch S r end k b) ∷ [])
      (chain_moments (stage_fault faults r stage) (stage_grows stage) m (stage_order (length m.state.replicas) r))
      (one_chain k (if_rebuilding k (replica k.state r).condition (λ b. ends_fetch S r end k b))
      (if_rebuilding_cases S faults r k.state.requests k.state.stable (Grows k) k (replica k.state r).condition
      (λ b. ends_fetch S r end k b)
      (quiet_grows k k (same_quiet k)) (λ b live. ends_grows end k b)))
  fetches_chain end stage (x ∷ xs) m =
      let ms = stage_moments faults r stage m in
      let k = last m ms in
      chain_append m ms (if_rebuilding (k ∷ []) (replica k.state r).condition
      (λ b. fetches S faults r end (suc stage) xs (gets r x k b)))
      (chain_moments (stage_fault faults r stage) (stage_grows stage) m (stage_order (length m.state.replicas) r))
      (if_rebuilding_cases S faults r k.state.requests k.state.stable (Chain k) (k ∷ []) (replica k.state r).condition
      (λ b. fetches S faults r end (suc stage) xs (gets r x k b)) (one_chain k k (quiet_grows k k (same_quiet k)))
      (λ b live. chain_from k (gets r x k b) (fetches S faults r end (suc stage) xs (gets r x k b))
      ((λ e. e), refl, refl, same_lines _ _ refl)
      (fetches_chain end (suc stage) xs (gets r x k b))))

prints_ends_quiet : (r : ℕ) (xs : List Replica) (m : Moment) → Quiet m (prints_ends r xs m)
prints_ends_quiet r [] m = same_quiet m
prints_ends_quiet r (x ∷ xs) m = then_quiet m (print (at_line r x.condition) m)
    (prints_ends (suc r) xs (print (at_line r x.condition) m))
    (prints_quiet (at_line r x.condition) m (told-at r x.condition) (stable-at r x.condition))
    (prints_ends_quiet (suc r) xs (print (at_line r x.condition) m))

harms_grows : (r : ℕ) (how : Running → Running) (m : Moment) → Grows m (harms r how m)
harms_grows r how m = if_live_cases (Grows m) (print (lines.Idle r NotLive) m) (replica m.state r).condition
    (λ l. becomes r (Live (harm (how l))) m)
    (quiet_grows m (print (lines.Idle r NotLive) m) (prints_quiet (lines.Idle r NotLive) m refl refl))
    (λ l. quiet_grows m (becomes r (Live (harm (how l))) m) ((λ e. e), refl, refl, same_lines _ _ refl))

pub step_chain : (S : Service) (faults : Faults) (e : Event) (m : Moment) → Chain m (step S faults e m)
step_chain S faults (Ask client time bytes) m = one_chain m (asks (request time bytes) m)
    (record { told = λ e. e; asked = inr ((request time bytes), refl); kept = inl refl; longer = same_lines _ _ refl })
step_chain S faults (Run r) m = one_chain m (run_turn S (faults 0 r) r (turn S m.state r) m)
    (run_turn_grows S (faults 0 r) r (turn S m.state r) m)
step_chain S faults RunAll m =
    let ts = slots (length m.state.requests) (length m.state.replicas) in
    let ms = moments (slot_turn S faults) m ts in
    chain_append m ms (last m ms ∷ [])
    (chain_moments (slot_turn S faults)
    (λ n t. quiet_turn_grows S (faults t.round t.replica) t.replica (turn S n.state t.replica) n) m ts)
    (one_chain (last m ms) (last m ms) (quiet_grows (last m ms) (last m ms) (same_quiet (last m ms))))
step_chain S faults (Reboot r) m =
    let n = withdraws r m in
    let k = fails_or (faults 0 r) r (λ n. becomes r (rebooted S (replica m.state r).condition) n) n in
    one_chain m k (quiet_then m n k ((λ e. e), refl, refl, same_lines _ _ refl)
    (or_grows (faults 0 r) r (λ n. becomes r (rebooted S (replica m.state r).condition) n) n
    (quiet_grows n (becomes r (rebooted S (replica m.state r).condition) n)
    ((λ e. e), refl, refl, same_lines _ _ refl))))
step_chain S faults (Fetch r n) m =
    if_rebuilding_cases S faults r m.state.requests m.state.stable (Chain m) (print (lines.Idle r NotRebuilding) m ∷ [])
    (replica m.state r).condition
    (λ b. fetch_towards S faults r (array_at S m.state.requests m.state.stable) n m b)
    (one_chain m (print (lines.Idle r NotRebuilding) m)
    (quiet_grows m (print (lines.Idle r NotRebuilding) m) (prints_quiet (lines.Idle r NotRebuilding) m refl refl)))
    (λ b live. let c = array_at S m.state.requests m.state.stable in let aim = aimed m.state.stable b in
    chain_from m (aims r m b) (fetch_towards S faults r c n m b) ((λ e. e), refl, refl, same_lines _ _ refl)
    (fetches_chain S faults r (end_towards S c n aim) 0 (items_towards S c n aim) (aims r m b)))
step_chain S faults (Rogue r time bytes) m = one_chain m
    (rogue_turn S (faults 0 r) r (request time bytes) (turn S m.state r) m)
    (rogue_turn_grows S (faults 0 r) r (request time bytes) (turn S m.state r) m)
step_chain S faults (Skip r) m = one_chain m (skip_turn S (faults 0 r) r (turn S m.state r) m)
    (skip_turn_grows S (faults 0 r) r (turn S m.state r) m)
step_chain S faults (Scratch r i offset bytes) m =
    one_chain m (if_live (print (lines.Idle r NotLive) m) (replica m.state r).condition
    (λ l. fails_or (faults 0 r) r (scratches r l (S.scratched l.array i offset bytes)) m))
    (if_live_cases (Grows m) (print (lines.Idle r NotLive) m) (replica m.state r).condition
    (λ l. fails_or (faults 0 r) r (scratches r l (S.scratched l.array i offset bytes)) m)
    (quiet_grows m (print (lines.Idle r NotLive) m) (prints_quiet (lines.Idle r NotLive) m refl refl))
    (λ l. or_grows (faults 0 r) r (scratches r l (S.scratched l.array i offset bytes)) m
    (scratch l (S.scratched l.array i offset bytes))))
  where
    scratch : (l : Running) (o : Option (List Entry)) → Grows m (scratches r l o m)
    scratch l None = quiet_grows m (print (lines.Idle r NoBytes) m) (prints_quiet (lines.Idle r NoBytes) m refl refl)
    scratch l (Some a) = quiet_grows m (becomes r (Live (harm (record l { array = a }))) m)
        ((λ e. e), refl, refl, same_lines _ _ refl)
step_chain S faults (LieReply r p w) m = one_chain m (harms r (lies_word p w) m) (harms_grows r (lies_word p w) m)
step_chain S faults (LieRoot r p d) m = one_chain m (harms r (lies_root p d) m) (harms_grows r (lies_root p d) m)
step_chain S faults (LieItem r level number t) m = one_chain m (harms r (lies_item (item level number) t) m)
    (harms_grows r (lies_item (item level number) t) m)
step_chain S faults (Wipe r) m =
    one_chain m (if_live (print (lines.Idle r NotLive) m) (replica m.state r).condition
    (λ l. fails_or (faults 0 r) r (becomes r (Live (harm (wiped S l)))) m))
    (if_live_cases (Grows m) (print (lines.Idle r NotLive) m) (replica m.state r).condition
    (λ l. fails_or (faults 0 r) r (becomes r (Live (harm (wiped S l)))) m)
    (quiet_grows m (print (lines.Idle r NotLive) m) (prints_quiet (lines.Idle r NotLive) m refl refl))
    (λ l. or_grows (faults 0 r) r (becomes r (Live (harm (wiped S l)))) m
    (quiet_grows m (becomes r (Live (harm (wiped S l))) m) ((λ e. e), refl, refl, same_lines _ _ refl))))
step_chain S faults (Swap r spare) m = one_chain m (swaps S (faults 0 r) r spare (replica m.state r).condition m)
    (exchange (replica m.state r).condition)
  where
    exchange : (c : Condition) → Grows m (swaps S (faults 0 r) r spare c m)
    exchange (Live l) = quiet_then m (exchanged r spare m) (swaps S (faults 0 r) r spare (Live l) m)
        ((λ e. e), refl, refl, same_lines _ _ refl)
        (or_grows (faults 0 r) r (becomes r (Live (harm (wiped S l)))) (exchanged r spare m)
        (quiet_grows (exchanged r spare m) (becomes r (Live (harm (wiped S l))) (exchanged r spare m))
        ((λ e. e), refl, refl, same_lines _ _ refl)))
    exchange Down = quiet_grows m (exchanged r spare m) ((λ e. e), refl, refl, same_lines _ _ refl)
    exchange (Rebuilding b) = quiet_grows m (print (lines.Idle r NotLive) m)
        (prints_quiet (lines.Idle r NotLive) m refl refl)
step_chain S faults End m = one_chain m (prints_ends 0 m.state.replicas m)
    (quiet_grows m (prints_ends 0 m.state.replicas m) (prints_ends_quiet 0 m.state.replicas m))

fetch_chain : (S : Service) (faults : Faults) (r n : ℕ) (m : Moment) (c : Condition) (ms : List Moment) →
    LooseFetch S faults r n m c ms → Chain m ms
fetch_chain S faults r n m (Live l) ms loose = subst (Chain m) (sym loose)
    (one_chain m (print (lines.Idle r NotRebuilding) m)
    (quiet_grows m (print (lines.Idle r NotRebuilding) m) (prints_quiet (lines.Idle r NotRebuilding) m refl refl)))
fetch_chain S faults r n m Down ms loose = subst (Chain m) (sym loose)
    (one_chain m (print (lines.Idle r NotRebuilding) m)
    (quiet_grows m (print (lines.Idle r NotRebuilding) m) (prints_quiet (lines.Idle r NotRebuilding) m refl refl)))
fetch_chain S faults r n m (Rebuilding b) ms loose = subst (Chain m) (sym loose.3)
    (chain_from m (aims r m b) (fetches S faults r loose.1 0 loose.0 (aims r m b))
    ((λ e. e), refl, refl, same_lines _ _ refl) (fetches_chain S faults r loose.1 0 loose.0 (aims r m b)))

-- and so of each loose step
pub loose_chain : (S : Service) (faults : Faults) (e : Event) (m : Moment) (ms : List Moment) →
    LooseStep S faults e m ms → Chain m ms
loose_chain S faults (Fetch r n) m ms loose = fetch_chain S faults r n m (replica m.state r).condition ms loose
loose_chain S faults (Ask client time bytes) m ms loose = subst (Chain m) (sym loose)
    (step_chain S faults (Ask client time bytes) m)
loose_chain S faults (Run r) m ms loose = subst (Chain m) (sym loose) (step_chain S faults (Run r) m)
loose_chain S faults RunAll m ms loose = subst (Chain m) (sym loose) (step_chain S faults RunAll m)
loose_chain S faults (Reboot r) m ms loose = subst (Chain m) (sym loose) (step_chain S faults (Reboot r) m)
loose_chain S faults (Rogue r time bytes) m ms loose = subst (Chain m) (sym loose)
    (step_chain S faults (Rogue r time bytes) m)
loose_chain S faults (Skip r) m ms loose = subst (Chain m) (sym loose) (step_chain S faults (Skip r) m)
loose_chain S faults (Scratch r i o b) m ms loose = subst (Chain m) (sym loose)
    (step_chain S faults (Scratch r i o b) m)
loose_chain S faults (LieReply r p x) m ms loose = subst (Chain m) (sym loose) (step_chain S faults (LieReply r p x) m)
loose_chain S faults (LieRoot r p d) m ms loose = subst (Chain m) (sym loose) (step_chain S faults (LieRoot r p d) m)
loose_chain S faults (LieItem r level number t) m ms loose = subst (Chain m) (sym loose)
    (step_chain S faults (LieItem r level number t) m)
loose_chain S faults (Wipe r) m ms loose = subst (Chain m) (sym loose) (step_chain S faults (Wipe r) m)
loose_chain S faults (Swap r spare) m ms loose = subst (Chain m) (sym loose) (step_chain S faults (Swap r spare) m)
loose_chain S faults End m ms loose = subst (Chain m) (sym loose) (step_chain S faults End m)

pub start_fault_grows : (faults : Faults) (m : Moment) (r : ℕ) → Grows m (start_fault faults m r)
start_fault_grows faults m r = by (faults 0 r)
  where
    by : (b : Bool) → Grows m (cond b (fails r m) m)
    by true = quiet_grows m (fails r m) (fails_quiet r m)
    by false = quiet_grows m m (same_quiet m)
