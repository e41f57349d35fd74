-- The steps of a cluster, as lists of moments: one for each kind of record.
use Rattle.std.specs.Prelude.{ℕ, suc, Bool, true, false, cond, not, ◌&&◌, ◌||◌, List, [], ◌∷◌, ◌++◌, map, length, take, drop, Option, Some, None, ◌==◌, nat_le, nat_lt, filter, count_by, swap}
use Rattle.abs_model.specs.declared.Entry.{Entry}
use Rattle.cluster_model.specs.declared.request.Request.{Request}
use Rattle.nfs2_types.specs.declared.Word.{Word}
use Rattle.log_format.specs.declared.Event.{Event}
use Rattle.log_format.specs.declared.Event.TheVariants.{Request as Ask, Run, RunAll, Reboot, Fetch, Rogue, Skip, Scratch, LieReply, LieRoot, LieItem, Wipe, Swap, End}
use Rattle.log_format.specs.declared.Line.{Line}
use Rattle.log_format.specs.declared.Line.TheVariants as lines
use Rattle.log_format.specs.declared.IdleCause.TheVariants.{NotLive, NoBytes, NotRebuilding}
use Rattle.cluster_model.specs.Service.{Service, array_at, request}
use Rattle.cluster_model.specs.Tree.{Item, need, item_text, below, item}
use Rattle.cluster_model.specs.State.{Running, Fetching, Condition, Live, Down, Rebuilding, Replica}
use Rattle.cluster_model.specs.Moments.{Moment, Faults, replica, put, print, becomes, fails}
use Rattle.cluster_model.specs.Turns.{begins, harm, turn, fails_or, run_turn, rogue_turn, skip_turn, slots, slot_turn, moments, last}

-- Reboot

-- all standing words of replica r are withdrawn
abbrev pub withdraws : ℕ → Moment → Moment
withdraws r m = record m { state = put r (record (replica m.state r) { words = []; roots = [] }) m.state }

-- a replica after a reboot: it is being rebuilt, with its array, or with the empty one where it was down
abbrev pub rebooted : Service → Condition → Condition
rebooted S (Live l) = Rebuilding (record { array = l.array; target = None; got = [] })
rebooted S Down = Rebuilding (record { array = S.empty; target = None; got = [] })
rebooted S (Rebuilding b) = Rebuilding (record { array = b.array; target = None; got = [] })

-- Fetch

-- the target is place p
abbrev pub is_target : ℕ → Option ℕ → Bool
is_target p None = false
is_target p (Some t) = t == p

-- with the stable place as its target
abbrev pub aimed : ℕ → Fetching → Fetching
aimed p b = cond (is_target p b.target) b (record { array = b.array; target = Some p; got = [] })

-- how a Fetch ends: something is missing; what was got is forgotten; the replica is Live with this array
pub data FetchEnd : Type 0 where
  Missing : FetchEnd
  Forgets : FetchEnd
  Whole : List Entry → FetchEnd

-- how many nodes were got
abbrev pub nodes_of : List (Item × List ℕ) → ℕ
nodes_of got = count_by (λ g. nat_lt 0 g.0.level) got

-- how many entries were got
abbrev pub objects_of : List (Item × List ℕ) → ℕ
objects_of got = count_by (λ g. g.0.level == 0) got

-- what is done if r is still Rebuilding
abbrev pub if_rebuilding : {X : Type 0} → X → Condition → (Fetching → X) → X
if_rebuilding other (Live l) does = other
if_rebuilding other Down does = other
if_rebuilding other (Rebuilding b) does = does b

-- how a Fetch of r ends, and its line
abbrev pub ends_fetch : Service → ℕ → FetchEnd → Moment → Fetching → Moment
ends_fetch S r Missing m b = print (lines.Fetching r m.state.stable (length b.got)) m
ends_fetch S r Forgets m b = print (lines.Fetching r m.state.stable 0)
    (becomes r (Rebuilding (record b { got = [] })) m)
ends_fetch S r (Whole a) m b =
    print (lines.Rebuilt r m.state.stable (nodes_of b.got) (objects_of b.got))
    (becomes r (Live (begins S m.state.stable a)) m)

-- the replica is live
abbrev pub is_live : Condition → Bool
is_live (Live l) = true
is_live Down = false
is_live (Rebuilding b) = false

-- a replica's chance to fail at a stage of a Fetch of r: a source is Live, and r is Rebuilding until it
-- fails
abbrev pub stage_fault : Faults → ℕ → ℕ → Moment → ℕ → Moment
stage_fault faults r stage m j =
    cond (faults stage j && ((j == r) || is_live (replica m.state j).condition)) (fails j m) m

-- the sources of r, and r itself last
abbrev pub stage_order : ℕ → ℕ → List ℕ
stage_order n r = filter (λ j. not (j == r)) (below n) ++ r ∷ []

-- the moments in which the sources of r, and r at last, may fail at a stage
abbrev pub stage_moments : Faults → ℕ → ℕ → Moment → List Moment
stage_moments faults r stage m = moments (stage_fault faults r stage) m
    (stage_order (length m.state.replicas) r)

-- replica r gets an item with its text
abbrev pub gets : ℕ → Item × List ℕ → Moment → Fetching → Moment
gets r x m b = becomes r (Rebuilding (record b { got = b.got ++ x ∷ [] })) m

-- the rest of a Fetch of r from a stage on, in which these items are got if r does not fail
abbrev pub fetches : Service → Faults → ℕ → FetchEnd → ℕ → List (Item × List ℕ) → Moment → List Moment
fetches S faults r end stage [] m =
    let ms = stage_moments faults r stage m in
    let then = last m ms in
    ms ++ if_rebuilding then (replica then.state r).condition (λ b. ends_fetch S r end then b) ∷ []
fetches S faults r end stage (x ∷ xs) m =
    let ms = stage_moments faults r stage m in
    let then = last m ms in
    ms ++ if_rebuilding (then ∷ []) (replica then.state r).condition
    (λ b. fetches S faults r end (suc stage) xs (gets r x then b))

-- the items that are needed with their texts, but for those got
abbrev pub wanted : Service → List Entry → Fetching → List (Item × List ℕ)
wanted S c b = drop (length b.got) (map (λ i. (i, item_text S c i)) (need S b.array c))

-- a Fetch of at most n items towards the array c: which items are got, and how it ends
abbrev pub items_towards : Service → List Entry → ℕ → Fetching → List (Item × List ℕ)
items_towards S c n b = take n (wanted S c b)

-- how it ends
abbrev pub end_towards : Service → List Entry → ℕ → Fetching → FetchEnd
end_towards S c n b = cond (nat_le (length (wanted S c b)) n) (Whole c) Missing

-- replica r takes the stable place as its target
abbrev pub aims : ℕ → Moment → Fetching → Moment
aims r m b = becomes r (Rebuilding (aimed m.state.stable b)) m

-- the moments of a Fetch of r of at most n items towards the array c
abbrev pub fetch_towards : Service → Faults → ℕ → List Entry → ℕ → Moment → Fetching → List Moment
fetch_towards S faults r c n m b =
    fetches S faults r (end_towards S c n (aimed m.state.stable b)) 0
    (items_towards S c n (aimed m.state.stable b)) (aims r m b)

-- Harm

-- what is done if the replica is live
abbrev pub if_live : {X : Type 0} → X → Condition → (Running → X) → X
if_live other (Live l) does = does l
if_live other Down does = other
if_live other (Rebuilding b) does = other

-- r, which is Live, is harmed so; else the record is idle
abbrev pub harms : ℕ → (Running → Running) → Moment → Moment
harms r how m = if_live (print (lines.Idle r NotLive) m) (replica m.state r).condition
    (λ l. becomes r (Live (harm (how l))) m)

-- its server was wiped
abbrev pub wiped : Service → Running → Running
wiped S l = record l { array = S.empty }

-- bytes of a file were written past the procedures, or there are none such
abbrev pub scratches : ℕ → Running → Option (List Entry) → Moment → Moment
scratches r l None m = print (lines.Idle r NoBytes) m
scratches r l (Some a) m = becomes r (Live (harm (record l { array = a }))) m

-- the servers at two positions change places
abbrev pub exchanged : ℕ → ℕ → Moment → Moment
exchanged r spare m = record m { state = record m.state { bench = swap m.state.bench r spare } }

-- replica r gets the spare server, which is wiped where r is live
abbrev pub swaps : Service → Bool → ℕ → ℕ → Condition → Moment → Moment
swaps S fault r spare (Live l) m = fails_or fault r (becomes r (Live (harm (wiped S l))))
    (exchanged r spare m)
swaps S fault r spare Down m = exchanged r spare m
swaps S fault r spare (Rebuilding b) m = print (lines.Idle r NotLive) m

-- it will cast w for place p
abbrev pub lies_word : ℕ → Word → Running → Running
lies_word p w l = record l { lies = record l.lies { words = (p, w) ∷ l.lies.words } }

-- it will cast the root d for place p
abbrev pub lies_root : ℕ → List ℕ → Running → Running
lies_root p d l = record l { lies = record l.lies { roots = (p, d) ∷ l.lies.roots } }

-- it will serve the text t for item i
abbrev pub lies_item : Item → List ℕ → Running → Running
lies_item i t l = record l { lies = record l.lies { items = (i, t) ∷ l.lies.items } }

-- End

-- where a replica stands
abbrev pub at_line : ℕ → Condition → Line
at_line r (Live l) = lines.At r l.place
at_line r Down = lines.AtDown r
at_line r (Rebuilding b) = lines.AtRebuilding r

-- the line of each replica in rising order, the first of them having the number r
abbrev pub prints_ends : ℕ → List Replica → Moment → Moment
prints_ends r [] m = m
prints_ends r (x ∷ xs) m = prints_ends (suc r) xs (print (at_line r x.condition) m)

-- a request is appended; nothing is printed
abbrev pub asks : Request → Moment → Moment
asks q m = record m { state = record m.state { requests = m.state.requests ++ q ∷ [] } }

-- Step: the moments of an event that follows m, the last of them its end

-- the moments of a record that follow m, the last of them its end
abbrev pub step : Service → Faults → Event → Moment → List Moment
step S faults (Ask client time bytes) m = asks (request time bytes) m ∷ []
step S faults (Run r) m = run_turn S (faults 0 r) r (turn S m.state r) m ∷ []
step S faults RunAll m =
    let ms = moments (slot_turn S faults) m (slots (length m.state.requests) (length m.state.replicas)) in
    ms ++ last m ms ∷ []
step S faults (Reboot r) m = fails_or (faults 0 r) r
    (λ n. becomes r (rebooted S (replica m.state r).condition) n) (withdraws r m) ∷ []
step S faults (Fetch r n) m =
    if_rebuilding (print (lines.Idle r NotRebuilding) m ∷ []) (replica m.state r).condition
    (λ b. fetch_towards S faults r (array_at S m.state.requests m.state.stable) n m b)
step S faults (Rogue r time bytes) m = rogue_turn S (faults 0 r) r (request time bytes) (turn S m.state r) m
    ∷ []
step S faults (Skip r) m = skip_turn S (faults 0 r) r (turn S m.state r) m ∷ []
step S faults (Scratch r i offset bytes) m =
    if_live (print (lines.Idle r NotLive) m) (replica m.state r).condition
    (λ l. fails_or (faults 0 r) r (scratches r l (S.scratched l.array i offset bytes)) m) ∷ []
step S faults (LieReply r p w) m = harms r (lies_word p w) m ∷ []
step S faults (LieRoot r p d) m = harms r (lies_root p d) m ∷ []
step S faults (LieItem r level number t) m = harms r (lies_item (item level number) t) m ∷ []
step S faults (Wipe r) m =
    if_live (print (lines.Idle r NotLive) m) (replica m.state r).condition
    (λ l. fails_or (faults 0 r) r (becomes r (Live (harm (wiped S l)))) m) ∷ []
step S faults (Swap r spare) m = swaps S (faults 0 r) r spare (replica m.state r).condition m ∷ []
step S faults End m = prints_ends 0 m.state.replicas m ∷ []
