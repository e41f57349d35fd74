-- Held texts.
use Rattle.std.proofs.Common.{◌≡◌, ℕ, ◌+◌, ◌<◌, ◌≤◌, Bool, true, false, cond, List, [], ◌∷◌, ◌++◌, length, take, drop, get_or, reverse, refl, sym, ap, subst, ◌∙◌, Option, Some, None, IsSomeAnd, IfSome}
use Rattle.std.specs.Option.{option_or}
use Rattle.std.specs.Prelude.{◌==◌, ◌||◌, ◌&&◌, nat_le, nat_lt, is_some}
use Rattle.std.proofs.lemmas.List.{reverse-append, take-append-drop, take_more}
use Rattle.std.proofs.lemmas.Bool.{eqb-true, le-leb, lt-ltb}
use Rattle.abs_model.specs.declared.Entry.{Entry}
use Rattle.abs_model.specs.Array.{entry_at}
use Rattle.abs_text.specs.Text.{entry_text}
use Rattle.cluster_model.specs.State.{Checkpoint, lookup, or_else, holds_in, held_from}
use Rattle.cluster_model.specs.Loose.{held_digests}
use Rattle.cluster_model.specs.Right.{is_told}
use Rattle.conf_map.specs.Notice.{NoticedAll}
use Rattle.cow_checkpoint.specs.Store.{Store, saves, saves_newest, notices, all_noticed, held_text, IsCovered}
use Rattle.cow_checkpoint.specs.Held.{held_at, saved_in, saved_from}
use Rattle.cow_checkpoint.proofs.Saving.{saved_here, saved_other, saved_stays}

-- what is saved in several checkpoints

first_none : (o : Option (List ℕ)) → option_or o None ≡ o
first_none None = refl
first_none (Some t) = refl

first_assoc : (o p q : Option (List ℕ)) → option_or (option_or o p) q ≡ option_or o (option_or p q)
first_assoc None p q = refl
first_assoc (Some t) p q = refl

pub saved_from-append : (place i : ℕ) (cs ds : List Checkpoint) →
    saved_from place i (cs ++ ds) ≡ option_or (saved_from place i ds) (saved_from place i cs)
saved_from-append place i [] ds = sym (first_none (saved_from place i ds))
saved_from-append place i (c ∷ cs) ds =
    ap (λ (o : Option (List ℕ)). option_or o (saved_in place i c)) (saved_from-append place i cs ds)
    ∙ first_assoc (saved_from place i ds) (saved_from place i cs) (saved_in place i c)

-- the older ones are looked at first, from the oldest on
pub none_so_far : (place i : ℕ) (older : List Checkpoint) (j : ℕ) (c : Checkpoint) → j < length older →
    c ≡ get_or older j c → saved_from place i (reverse (take j older)) ≡ None →
    saved_from place i (reverse (take (j + 1) older)) ≡ saved_in place i c
none_so_far place i older j c lt is none =
    let more : take (j + 1) older ≡ take j older ++ c ∷ []
    = take_more older j c lt ∙ ap (λ (d : Checkpoint). take j older ++ d ∷ []) (sym is) in
    let turned : reverse (take (j + 1) older) ≡ c ∷ reverse (take j older)
    = ap reverse more ∙ reverse-append (take j older) (c ∷ []) in
    ap (saved_from place i) turned ∙ ap (λ (o : Option (List ℕ)). option_or o (saved_in place i c)) none

pub found_among : (place i : ℕ) (older : List Checkpoint) (j : ℕ) (t : List ℕ) →
    saved_from place i (reverse (take j older)) ≡ Some t → saved_from place i (reverse older) ≡ Some t
found_among place i older j t found =
    let parts : reverse older ≡ reverse (drop j older) ++ reverse (take j older)
    = ap reverse (sym (take-append-drop j older)) ∙ reverse-append (take j older) (drop j older) in
    ap (saved_from place i) parts
    ∙ saved_from-append place i (reverse (drop j older)) (reverse (take j older))
    ∙ ap (λ (o : Option (List ℕ)). option_or o (saved_from place i (reverse (drop j older)))) found

-- the held text is the one found, or else the present one

or_first : (o : Option (List ℕ)) (b : Bool) (p : Option (List ℕ)) (now : List ℕ) →
    or_else o (cond b (or_else p now) now) ≡ or_else (option_or o (cond b p None)) now
or_first (Some t) b p now = refl
or_first None true p now = refl
or_first None false p now = refl

pub held_is : (place i : ℕ) (holds : List Checkpoint) (now : List ℕ) →
    held_from place i holds now ≡ or_else (saved_from place i holds) now
held_is place i [] now = refl
held_is place i (c ∷ cs) now =
    held_is place i cs (cond (nat_le place c.place) (or_else (lookup i c.saved) now) now)
    ∙ or_first (saved_from place i cs) (nat_le place c.place) (lookup i c.saved) now

-- what is held of an index inside, at a place that is held
pub held_found : (place i : ℕ) (A : List Entry) (s : Store) (t : List ℕ) → holds_in place s.holds ≡ true → i < s.size →
    or_else (saved_from place i s.holds) (entry_text i (entry_at A i)) ≡ t → held_text place i A s ≡ Some t
held_found place i A s t holds inside is =
    let now = entry_text i (entry_at A i) in
    let held = held_from place i s.holds now in
    ap (λ (b : Bool). cond (b && nat_lt i s.size) (Some held) None) holds
    ∙ ap (λ (b : Bool). cond b (Some held) None) (lt-ltb i s.size inside)
    ∙ ap (λ (x : List ℕ). Some x) (held_is place i s.holds now ∙ is)

-- the checkpoint of a place, and its digests

pub holds_at : (place : ℕ) (holds : List Checkpoint) → is_some (held_at place holds) ≡ holds_in place holds
holds_at place [] = refl
holds_at place (c ∷ cs) = by (c.place == place) (holds_at place cs)
  where
    by : (b : Bool) → is_some (held_at place cs) ≡ holds_in place cs →
        is_some (cond b (Some c) (held_at place cs)) ≡ (b || holds_in place cs)
    by true e = refl
    by false e = e

abbrev pub digests_of : Option Checkpoint → Option (List (List ℕ))
digests_of None = None
digests_of (Some c) = Some c.digests

pub digests_at : (place : ℕ) (holds : List Checkpoint) → digests_of (held_at place holds) ≡ held_digests place holds
digests_at place [] = refl
digests_at place (c ∷ cs) = by (c.place == place) (digests_at place cs)
  where
    by : (b : Bool) → digests_of (held_at place cs) ≡ held_digests place cs →
        digests_of (cond b (Some c) (held_at place cs)) ≡ cond b (Some c.digests) (held_digests place cs)
    by true e = refl
    by false e = e

-- what is said of the digests of the checkpoint that was found
pub of_found : (place : ℕ) (holds : List Checkpoint) (c : Checkpoint) → Some c ≡ held_at place holds →
    held_digests place holds ≡ Some c.digests
of_found place holds c is = sym (digests_at place holds) ∙ sym (ap digests_of is)

pub of_none : (place : ℕ) (holds : List Checkpoint) → None ≡ held_at place holds → held_digests place holds ≡ None
of_none place holds is = sym (digests_at place holds) ∙ sym (ap digests_of is)

-- a fact of a value, of the option that is it
pub of_some : (o : Option (List (List ℕ))) (x : List (List ℕ)) (P : List (List ℕ) → Type 0) → o ≡ Some x → P x →
    IsSomeAnd o P
of_some o x P is p = subst (λ (v : Option (List (List ℕ))). IsSomeAnd v P) (sym is) p

pub to_some : (o : Option (List (List ℕ))) (x : List (List ℕ)) (P : List (List ℕ) → Type 0) → o ≡ Some x →
    IsSomeAnd o P → P x
to_some o x P is p = subst (λ (v : Option (List (List ℕ))). IsSomeAnd v P) is p

pub not_some : (o : Option (List (List ℕ))) (P : List (List ℕ) → Type 0) → o ≡ None → IsSomeAnd o P → ⊥
not_some o P is p = subst (λ (v : Option (List (List ℕ))). IsSomeAnd v P) is p

pub each_some : {X : Type 0} (o : Option X) (P Q : X → Type 0) → ((x : X) → P x → Q x) → IfSome o P → IfSome o Q
each_some None P Q f p = p
each_some (Some x) P Q f p = f x p

-- notices in turn

pub in_turn : (A : List Entry) (told : List ℕ) (s t : Store) →
    NoticedAll (λ old B i new. new ≡ notices B i old) A s told t → t ≡ all_noticed A told s
in_turn A [] s t n = n
in_turn A (i ∷ told) s t n = in_turn A told n.0 t n.2 ∙ ap (all_noticed A told) n.1

-- what is saved under one checkpoint by them
abbrev all_saved : List Entry → List ℕ → List (ℕ × List ℕ) → List (ℕ × List ℕ)
all_saved A [] saved = saved
all_saved A (i ∷ told) saved = all_saved A told (saves i (entry_text i (entry_at A i)) saved)

all_holds : (A : List Entry) (told : List ℕ) (s : Store) (c : Checkpoint) (cs : List Checkpoint) →
    s.holds ≡ c ∷ cs → (all_noticed A told s).holds ≡ record c { saved = all_saved A told c.saved } ∷ cs
all_holds A [] s c cs is = is
all_holds A (i ∷ told) s c cs is =
    let text = entry_text i (entry_at A i) in
    all_holds A told (notices A i s) (record c { saved = saves i text c.saved }) cs (ap (saves_newest i text) is)

all_stays : (A : List Entry) (told : List ℕ) (i : ℕ) (u : List ℕ) (saved : List (ℕ × List ℕ)) →
    lookup i saved ≡ Some u → lookup i (all_saved A told saved) ≡ Some u
all_stays A [] i u saved is = is
all_stays A (j ∷ told) i u saved is =
    let text = entry_text j (entry_at A j) in
    all_stays A told i u (saves j text saved) (saved_stays i j text u saved is)

-- what the newest checkpoint has for an index, or else the text then: the same before the notices and after the change
looks_same : (A : List Entry) (i : ℕ) (new : List ℕ) (told : List ℕ) (saved : List (ℕ × List ℕ)) →
    (is_told i told ≡ false → new ≡ entry_text i (entry_at A i)) →
    or_else (lookup i (all_saved A told saved)) new ≡ or_else (lookup i saved) (entry_text i (entry_at A i))
looks_same A i new [] saved same = ap (or_else (lookup i saved)) (same refl)
looks_same A i new (j ∷ told) saved same = by (j == i) refl (looks_same A i new told next)
  where
    old : List ℕ
    old = entry_text i (entry_at A i)

    next : List (ℕ × List ℕ)
    next = saves j (entry_text j (entry_at A j)) saved

    by : (b : Bool) → (j == i) ≡ b →
        ((is_told i told ≡ false → new ≡ old) →
        or_else (lookup i (all_saved A told next)) new ≡ or_else (lookup i next) old) →
        or_else (lookup i (all_saved A told next)) new ≡ or_else (lookup i saved) old
    by true e ih =
        let it : j ≡ i = eqb-true j i e in
        let here : lookup i next ≡ Some (or_else (lookup i saved) old)
        = subst (λ (k : ℕ). lookup i (saves k (entry_text k (entry_at A k)) saved)
        ≡ Some (or_else (lookup i saved) old)) (sym it) (saved_here i old saved) in
        ap (λ (o : Option (List ℕ)). or_else o new) (all_stays A told i (or_else (lookup i saved) old) next here)
    by false e ih =
        ih (λ h. same (rw e h))
        ∙ ap (λ (o : Option (List ℕ)). or_else o old) (saved_other i j (entry_text j (entry_at A j)) saved e)

pub texts_stay : (A B : List Entry) (told : List ℕ) (s : Store) (place index : ℕ) → IsCovered place s.holds →
    (is_told index told ≡ false → entry_text index (entry_at B index) ≡ entry_text index (entry_at A index)) →
    held_from place index (all_noticed A told s).holds (entry_text index (entry_at B index))
    ≡ held_from place index s.holds (entry_text index (entry_at A index))
texts_stay A B told s place index covered same = by s.holds refl covered
  where
    new : List ℕ
    new = entry_text index (entry_at B index)

    old : List ℕ
    old = entry_text index (entry_at A index)

    covers : (c : Checkpoint) (cs : List Checkpoint) (o : Option (List ℕ)) (now : List ℕ) → place ≤ c.place →
        held_from place index cs (cond (nat_le place c.place) (or_else o now) now)
        ≡ held_from place index cs (or_else o now)
    covers c cs o now le =
        ap (λ (b : Bool). held_from place index cs (cond b (or_else o now) now)) (le-leb place c.place le)

    by : (holds : List Checkpoint) → s.holds ≡ holds → IsCovered place holds →
        held_from place index (all_noticed A told s).holds new ≡ held_from place index holds old
    by [] is le = absurd le
    by (c ∷ cs) is le =
        ap (λ (h : List Checkpoint). held_from place index h new) (all_holds A told s c cs is)
        ∙ covers c cs (lookup index (all_saved A told c.saved)) new le
        ∙ ap (held_from place index cs) (looks_same A index new told c.saved same)
        ∙ sym (covers c cs (lookup index c.saved) old le)
