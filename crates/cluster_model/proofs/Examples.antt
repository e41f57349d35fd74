-- The definitions at work on a service of one entry, and on one of sixteen.
use Rattle.std.proofs.Common.{◌≡◌, ℕ, zero, suc, ◌*◌, ◌<◌, ◌≤◌, Bool, true, false, ◌&&◌, List, [], ◌∷◌, ◌++◌, length, get_or, take, drop, refl, sym, ◌∙◌, ap, subst, arith}
use Rattle.std.specs.Prelude.{Option, Some, None, slice_get, slice_set, replicate, nat_le}
use Rattle.std.specs.List.{All, flat_map, list_all, count_by}
use Rattle.std.proofs.lemmas.Bool.{leb-true}
use Rattle.std.proofs.lemmas.List.{length-set}
use Rattle.std.proofs.lemmas.List.Elements.{All-nil, All-cons, All-head, All-tail}
use Rattle.nfs2_types.specs.declared.Time.{Time}
use Rattle.nfs2_types.specs.declared.Word.TheVariants.{Reply}
use Rattle.abs_model.specs.declared.Attr.{Attr}
use Rattle.abs_model.specs.declared.Object.{Object}
use Rattle.abs_model.specs.declared.Object.TheVariants.{Null, File, Dir, Link}
use Rattle.abs_model.specs.declared.Entry.{Entry}
use Rattle.log_format.specs.declared.Event.{Event}
use Rattle.log_format.specs.declared.Event.TheVariants.{Request as Ask, Run, RunAll, Reboot, Fetch, Rogue, Scratch, LieReply, Wipe, End}
use Rattle.log_format.specs.declared.IdleCause.TheVariants.{AtEnd, NotRebuilding}
use Rattle.log_format.specs.declared.Line.{Line}
use Rattle.log_format.specs.declared.Line.TheVariants as lines
use Rattle.server_trait.specs.declared.FaultPoint.{FaultPoint}
use Rattle.cluster_model.specs.Service.{Service}
use Rattle.cluster_model.specs.Tree.{text_of}
use Rattle.cluster_model.specs.State.{is_unsound}
use Rattle.cluster_model.specs.Moments.{Moment}
use Rattle.cluster_model.specs.Fair.{IsFair}
use Rattle.cluster_model.specs.Right.{IsLawful, IsRight, is_told}
use Rattle.cluster_model.specs.Good.{FitsEvent}
use Rattle.cluster_model.specs.Run.{run, end_of, Always, Upto, IsApartIn}
use Rattle.cluster_model.proofs.RightSteps.{RightAt}
use Rattle.cluster_model.proofs.Runs.{run_right}

abbrev zero_time : Time
zero_time = record { secs = 0; micros = 0 }

abbrev nobody : Attr
nobody = record { mode = 0; uid = 0; gid = 0; atime = zero_time; mtime = zero_time; ctime = zero_time }

-- an entry that holds these bytes, and the bytes that an object holds
abbrev pub entry : List ℕ → Entry
entry bytes = record { generation = 0; object = Link nobody bytes }

abbrev pub bytes_in : Object → List ℕ
bytes_in Null = []
bytes_in (File attr bytes) = bytes
bytes_in (Dir attr names) = []
bytes_in (Link attr text) = text

abbrev pub IsOneEntry : List Entry → Type 0
IsOneEntry a = (bytes : List ℕ) × (a ≡ entry bytes ∷ [])

-- a request writes its bytes into the one entry, and is answered by them; one without bytes does nothing
abbrev pub write : List Entry → List ℕ → List Entry
write a [] = a
write a (b ∷ bs) = slice_set a 0 (entry (b ∷ bs))

abbrev pub told : List ℕ → List ℕ
told [] = []
told (b ∷ bs) = 0 ∷ []

some_same : {X : Type 0} {x y : X} → Some x ≡ Some y → x ≡ y
some_same {X} {x} e = ap (or_this x) e
  where
    or_this : X → Option X → X
    or_this d None = d
    or_this d (Some z) = z

-- digests that never meet: a list as a number, and zeros up to thirty-two

abbrev pub pair : ℕ → ℕ → ℕ
pair zero y = suc (2 * y)
pair (suc x) y = 2 * pair x y

abbrev pub number : List ℕ → ℕ
number [] = 0
number (x ∷ xs) = pair x (number xs)

abbrev pub digest : List ℕ → List ℕ
digest t = number t ∷ replicate 31 0

-- the sixteen digests of a node, one behind the other, and back
abbrev pub parts_of : ℕ → List ℕ → List (List ℕ)
parts_of zero t = []
parts_of (suc n) t = take 32 t ∷ parts_of n (drop 32 t)

abbrev pub service : ℕ → ℕ → Service
service f k = record {
  f = f;
  k = k;
  empty = entry [] ∷ [];
  next = λ a q. write a q.bytes;
  word = λ a q. Reply q.bytes;
  told = λ a q. told q.bytes;
  saving = λ a told. told;
  text = λ i e. bytes_in e.object;
  digest = digest;
  levels = 0;
  node = λ l k ds. flat_map (λ (d : List ℕ). d) ds;
  parts = parts_of 16;
  fits = λ q. Unit {0};
  good = IsOneEntry;
  scratched = λ a i offset bytes. Some (entry bytes ∷ []);
}

abbrev null : Event
null = Ask 0 zero_time []

abbrev ask : ℕ → Event
ask b = Ask 0 zero_time (b ∷ [])

abbrev printed : ℕ → ℕ → List FaultPoint → List Event → List Line
printed f k downs events = (end_of (service f k) 10 downs events).lines

-- f + 1 words decide, and a rogue word is outvoted
rogue : printed 1 4 [] (ask 7 ∷ Rogue 0 zero_time (8 ∷ []) ∷ Run 1 ∷ Run 2 ∷ []) ≡ lines.Reply 1 (7 ∷ []) ∷ []
rogue = refl

-- lies, withdrawal at a reboot, and a stable place
lies : printed 1 4 []
    (null ∷ null ∷ null ∷ null ∷ ask 5 ∷ LieReply 0 5 (Reply (9 ∷ [])) ∷ Run 0 ∷ Run 0 ∷ Run 0 ∷ Run 0 ∷ Run 0
    ∷ Reboot 0 ∷ Fetch 0 1
    ∷ LieReply 1 5 (Reply (9 ∷ [])) ∷ Run 1 ∷ Run 1 ∷ Run 1 ∷ Run 1 ∷ Run 1 ∷ Run 0 ∷ Run 0 ∷ Run 0 ∷ Run 0 ∷ Run 0
    ∷ Run 2 ∷ Run 2 ∷ Run 2 ∷ Run 2 ∷ Run 2 ∷ End ∷ [])
    ≡ lines.Rebuilt 0 0 0 1 ∷ lines.Reply 1 [] ∷ lines.Reply 2 [] ∷ lines.Reply 3 [] ∷ lines.Reply 4 []
    ∷ lines.Stable 4 (digest []) ∷ lines.Reply 5 (5 ∷ [])
    ∷ lines.At 0 5 ∷ lines.At 1 5 ∷ lines.At 2 5 ∷ lines.At 3 0 ∷ []
lies = refl

-- untold harm is found by a reboot, and mended
scratch : printed 1 2 []
    (ask 3 ∷ null ∷ RunAll ∷ Scratch 0 0 0 (6 ∷ []) ∷ null ∷ null ∷ RunAll ∷ Reboot 0 ∷ Fetch 0 1 ∷ [])
    ≡ lines.Reply 1 (3 ∷ []) ∷ lines.Reply 2 [] ∷ lines.Stable 2 (digest (3 ∷ [])) ∷ lines.Reply 3 [] ∷ lines.Reply 4 []
    ∷ lines.Stable 4 (digest (3 ∷ [])) ∷ lines.Rebuilt 0 4 0 1 ∷ []
scratch = refl

-- a server fails in the second round, and the others go on; a wiped server is fetched anew
fails : printed 1 2 (record { event = 3; stage = 2; replica = 1 } ∷ [])
    (ask 3 ∷ ask 4 ∷ RunAll ∷ Reboot 1 ∷ Fetch 1 1 ∷ RunAll ∷ [])
    ≡ lines.Reply 1 (3 ∷ []) ∷ lines.Down 1 ∷ lines.Reply 2 (4 ∷ []) ∷ lines.Stable 2 (digest (4 ∷ []))
    ∷ lines.Rebuilt 1 2 0 1 ∷ []
fails = refl

-- no replicas to spare: idle causes
idle : printed 0 4 [] (Run 0 ∷ Fetch 0 1 ∷ []) ≡ lines.Idle 0 AtEnd ∷ lines.Idle 0 NotRebuilding ∷ []
idle = refl

-- The laws hold of this service

pair_same : (x u y v : ℕ) → pair x y ≡ pair u v → (x ≡ u) × (y ≡ v)
pair_same zero zero y v e = (refl, omega (arith, e))
pair_same zero (suc u) y v e = absurd (let f : suc (2 * y) ≡ 2 * pair u v = e in omega arith)
pair_same (suc x) zero y v e = absurd (let f : 2 * pair x y ≡ suc (2 * v) = e in omega arith)
pair_same (suc x) (suc u) y v e =
    let f : 2 * pair x y ≡ 2 * pair u v = e in
    let g : pair x y ≡ pair u v = omega arith in
    let h = pair_same x u y v g in
    (ap suc h.0, h.1)

positive : (x y : ℕ) → 1 ≤ pair x y
positive zero y = omega arith
positive (suc x) y = let h : 1 ≤ pair x y = positive x y in omega arith

number_same : (xs ys : List ℕ) → number xs ≡ number ys → xs ≡ ys
number_same [] [] e = refl
number_same [] (y ∷ ys) e = absurd
    (let p : 1 ≤ pair y (number ys) = positive y (number ys) in let f : 0 ≡ pair y (number ys) = e in omega arith)
number_same (x ∷ xs) [] e = absurd
    (let p : 1 ≤ pair x (number xs) = positive x (number xs) in let f : pair x (number xs) ≡ 0 = e in omega arith)
number_same (x ∷ xs) (y ∷ ys) e =
    let h = pair_same x y (number xs) (number ys) e in
    let rest : xs ≡ ys = number_same xs ys h.1 in
    let here : x ≡ y = h.0 in cc

-- Apart holds of all texts
pub apart : (f k : ℕ) (T : List ℕ → Type 0) → IsApartIn (service f k) T
apart f k T a b ka kb e = number_same a b (ap (λ (d : List ℕ). get_or d 0 0) e)

take_front : (xs ys : List ℕ) → take (length xs) (xs ++ ys) ≡ xs
take_front [] ys = refl
take_front (x ∷ xs) ys = ap (λ zs. x ∷ zs) (take_front xs ys)

drop_front : (xs ys : List ℕ) → drop (length xs) (xs ++ ys) ≡ ys
drop_front [] ys = refl
drop_front (x ∷ xs) ys = drop_front xs ys

parts_back : (n : ℕ) (ds : List (List ℕ)) → length ds ≡ n → All (λ d. length d ≡ 32) ds →
    parts_of n (flat_map (λ (d : List ℕ). d) ds) ≡ ds
parts_back zero [] e h = refl
parts_back zero (d ∷ ds) e h = absurd (omega arith)
parts_back (suc n) [] e h = absurd (omega arith)
parts_back (suc n) (d ∷ ds) e h =
    let P : List ℕ → Type 0 = λ d. length d ≡ 32 in
    let long : length d ≡ 32 = All-head P d ds h in
    let rest = flat_map (λ (d : List ℕ). d) ds in
    let one : take 32 (d ++ rest) ≡ d = subst (λ n. take n (d ++ rest) ≡ d) long (take_front d rest) in
    let two : drop 32 (d ++ rest) ≡ rest = subst (λ n. drop n (d ++ rest) ≡ rest) long (drop_front d rest) in
    let more : parts_of n (drop 32 (d ++ rest)) ≡ ds = ap (parts_of n) two
    ∙ parts_back n ds (omega arith) (All-tail P d ds h) in
    cc (one, more)

long_written : (a : List Entry) (bytes : List ℕ) → length (write a bytes) ≡ length a
long_written a [] = refl
long_written a (b ∷ bs) = length-set a 0 (entry (b ∷ bs))

untold_written : (f k : ℕ) (a : List Entry) (bytes : List ℕ) (i : ℕ) → is_told i (told bytes) ≡ false →
    text_of (service f k) (write a bytes) i ≡ text_of (service f k) a i
untold_written f k a [] i e = refl
untold_written f k [] (b ∷ bs) i e = refl
untold_written f k (x ∷ a) (b ∷ bs) zero e = absurd (cc)
untold_written f k (x ∷ a) (b ∷ bs) (suc i) e = refl

told_within : (a : List Entry) (bytes : List ℕ) → length a ≡ 1 → All (λ i. i < length a) (told bytes)
told_within a [] e = All-nil (λ i. i < length a)
told_within a (b ∷ bs) e = All-cons (λ i. i < length a) 0 [] (omega arith) (All-nil (λ i. i < length a))

one_long : (a : List Entry) → IsOneEntry a → length a ≡ 1
one_long a g = ap length g.1

one_written : (a : List Entry) (bytes : List ℕ) → IsOneEntry a → IsOneEntry (write a bytes)
one_written a [] g = g
one_written a (b ∷ bs) g = (b ∷ bs, ap (λ (c : List Entry). write c (b ∷ bs)) g.1)

one_at : (a : List Entry) (i : ℕ) (x : Entry) → IsOneEntry a → slice_get a i ≡ Some x →
    (bytes : List ℕ) × (x ≡ entry bytes)
one_at a i x g e = at i (subst (λ (c : List Entry). slice_get c i ≡ Some x) g.1 e)
  where
    at : (j : ℕ) → slice_get (entry g.0 ∷ []) j ≡ Some x → (bytes : List ℕ) × (x ≡ entry bytes)
    at zero h = (g.0, sym (some_same h))
    at (suc j) h = absurd (cc)

spelled_apart : (a b : List Entry) → IsOneEntry a → IsOneEntry b → (i : ℕ) (x y : Entry) → slice_get a i ≡ Some x →
    slice_get b i ≡ Some y →
    bytes_in x.object ≡ bytes_in y.object → x ≡ y
spelled_apart a b ga gb i x y ea eb e =
    let x_is = one_at a i x ga ea in
    let y_is = one_at b i y gb eb in
    let bytes : x_is.0 ≡ y_is.0 = sym (ap (λ (z : Entry). bytes_in z.object) x_is.1) ∙ e
    ∙ ap (λ (z : Entry). bytes_in z.object) y_is.1 in
    x_is.1 ∙ ap entry bytes ∙ sym y_is.1

pub lawful : (f k : ℕ) → IsLawful (service f k)
lawful f k = record {
  orderly = record {
    as_long = λ a q. long_written a q.bytes;
    untold = λ a q i e. untold_written f k a q.bytes i e;
    saves_told = λ a told i e. e;
  };
  spelled = record {
    good_empty = ([], refl);
    good_next = λ a q fit g. one_written a q.bytes g;
    good_scratched = λ a b i offset bytes fit g e. (bytes, sym (some_same e));
    good_size = λ a g. one_long a g;
    saving_within = λ a q g. told_within a q.bytes (one_long a g);
    text_is = spelled_apart;
    digest_size = λ t. refl;
    parts_node = λ l k' ds e h. parts_back 16 ds e h;
  };
}

-- Runs with a lie and with a Fetch whose moments are all fair, so that what is promised of fair moments is promised of
-- each of them

abbrev fair_run : ℕ → ℕ → List FaultPoint → List Event → Bool
fair_run f k downs events = list_all (λ (m : Moment). nat_le (count_by is_unsound m.state.replicas) f)
    (run (service f k) 10 downs events)

fair_all : (f k : ℕ) (ms : List Moment) → list_all (λ (m : Moment). nat_le (count_by is_unsound m.state.replicas) f) ms
    ≡ true → Always (IsFair (service f k)) ms
fair_all f k [] h = tt
fair_all f k (m ∷ ms) h = by (nat_le (count_by is_unsound m.state.replicas) f) refl h (fair_all f k ms)
  where
    by : (b : Bool) → nat_le (count_by is_unsound m.state.replicas) f ≡ b →
        (b && list_all (λ (m : Moment). nat_le (count_by is_unsound m.state.replicas) f) ms) ≡ true →
        (list_all (λ (m : Moment). nat_le (count_by is_unsound m.state.replicas) f) ms ≡ true →
        Always (IsFair (service f k)) ms) → Always (IsFair (service f k)) (m ∷ ms)
    by true e g rest = (leb-true (count_by is_unsound m.state.replicas) f e, rest g)
    by false e g rest = absurd (cc)

always_upto : (P Q : Moment → Type 0) (ms : List Moment) → Always P ms → Upto P Q ms → Always Q ms
always_upto P Q [] h g = tt
always_upto P Q (m ∷ ms) h g = ((g h.0).0, always_upto P Q ms h.1 (g h.0).1)

-- the run of Step is right at each moment
pub all_right : (f k : ℕ) (downs : List FaultPoint) (events : List Event) → All (FitsEvent (service f k)) events →
    fair_run f k downs events ≡ true →
    Always (λ m. IsRight (service f k) m.state) (run (service f k) 10 downs events)
all_right f k downs events fits fair =
    let ms = run (service f k) 10 downs events in
    always_upto (IsFair (service f k)) (RightAt (service f k)) ms (fair_all f k ms fair)
    (run_right (service f k) (lawful f k).orderly 10 downs events fits)

-- a lie, and a word that outlives it
abbrev lying : List Event
lying = null ∷ null ∷ ask 5 ∷ LieReply 0 3 (Reply (9 ∷ [])) ∷ RunAll ∷ End ∷ []

lying_fair : fair_run 1 2 [] lying ≡ true
lying_fair = refl

lying_lines : printed 1 2 [] lying ≡ lines.Reply 1 [] ∷ lines.Reply 2 [] ∷ lines.Stable 2 (digest [])
    ∷ lines.Reply 3 (5 ∷ [])
    ∷ lines.At 0 3 ∷ lines.At 1 3 ∷ lines.At 2 3 ∷ lines.At 3 3 ∷ []
lying_lines = refl

-- untold harm, a failure of another server before it and its rebuild, and a rebuild of the harmed one
abbrev fetching : List Event
fetching = ask 3 ∷ null ∷ RunAll ∷ Reboot 1 ∷ Fetch 1 1 ∷ Scratch 0 0 0 (6 ∷ []) ∷ Reboot 0 ∷ Fetch 0 0 ∷ Fetch 0 1
    ∷ ask 4 ∷ RunAll ∷ End ∷ []

fetching_fair : fair_run 1 2 (record { event = 3; stage = 2; replica = 1 } ∷ []) fetching ≡ true
fetching_fair = refl

-- Sixteen entries under one node: a request of two bytes writes the second into the entry that the first names.

abbrev put_at : List Entry → List ℕ → List Entry
put_at a (i ∷ v ∷ rest) = slice_set a i (entry (v ∷ []))
put_at a _ = a

abbrev told_at : List ℕ → List ℕ
told_at (i ∷ v ∷ rest) = i ∷ []
told_at _ = []

abbrev sixteen : ℕ → ℕ → Service
sixteen f k = record {
  f = f;
  k = k;
  empty = replicate 16 (entry []);
  next = λ a q. put_at a q.bytes;
  word = λ a q. Reply q.bytes;
  told = λ a q. told_at q.bytes;
  saving = λ a told. told;
  text = λ i e. i ∷ bytes_in e.object;
  digest = λ t. t;
  levels = 1;
  node = λ l k ds. l ∷ k ∷ flat_map (λ (d : List ℕ). length d ∷ d) ds;
  parts = λ t. [];
  fits = λ q. Unit {0};
  good = λ a. Unit {0};
  scratched = λ a i offset bytes. Some (slice_set a i (entry bytes));
}

abbrev set_to : ℕ → ℕ → Event
set_to i v = Ask 0 zero_time (i ∷ v ∷ [])

abbrev fetched : List Line → List Line
fetched [] = []
fetched (lines.Fetching r p n ∷ xs) = lines.Fetching r p n ∷ fetched xs
fetched (lines.Rebuilt r p nodes objects ∷ xs) = lines.Rebuilt r p nodes objects ∷ fetched xs
fetched (lines.Down r ∷ xs) = lines.Down r ∷ fetched xs
fetched (_ ∷ xs) = fetched xs

abbrev fetches : ℕ → ℕ → List FaultPoint → List Event → List Line
fetches f k downs events = fetched (end_of (sixteen f k) 10 downs events).lines

-- untold harm is one node and one entry, got in two slices
slices : fetches 1 2 []
    (set_to 1 7 ∷ null ∷ RunAll ∷ Scratch 0 1 0 (6 ∷ []) ∷ null ∷ null ∷ RunAll ∷ Reboot 0 ∷ Fetch 0 1 ∷ Fetch 0 1 ∷ [])
    ≡ lines.Fetching 0 4 1 ∷ lines.Rebuilt 0 4 1 1 ∷ []
slices = refl

-- the stable place moves between slices
moving : fetches 1 2 []
    (set_to 1 7 ∷ set_to 2 8 ∷ RunAll ∷ Wipe 3 ∷ Reboot 3 ∷ Fetch 3 1 ∷ Fetch 3 1 ∷ set_to 4 9 ∷ null ∷ RunAll
    ∷ Fetch 3 1 ∷ Fetch 3 5 ∷ [])
    ≡ lines.Fetching 3 2 1 ∷ lines.Fetching 3 2 2 ∷ lines.Fetching 3 4 1 ∷ lines.Rebuilt 3 4 1 3 ∷ []
moving = refl

-- a source fails while it is asked for the second item, and the fetcher itself when it puts the items in
faulty : fetches 2 2 (record { event = 6; stage = 1; replica = 1 } ∷ record { event = 7; stage = 1; replica = 3 } ∷ [])
    (set_to 1 7 ∷ set_to 2 8 ∷ RunAll ∷ Wipe 3 ∷ Reboot 3 ∷ Fetch 3 2 ∷ Fetch 3 5 ∷ [])
    ≡ lines.Down 1 ∷ lines.Fetching 3 2 2 ∷ lines.Down 3 ∷ []
faulty = refl
