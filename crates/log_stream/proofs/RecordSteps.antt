-- A record from a source, piece by piece.
use Rattle.std.proofs.Common.{◌≡◌, ℕ, ◌≤◌, List, [], ◌++◌, length, Option, Some, None, Result, Ok, Err, refl, sym, ap, subst, ◌∙◌, length-append, arith}
use Rattle.std.specs.Prelude.{IfSome, IsErrAnd, OnErr}
use Rattle.std.specs.Io.KnownBytes.{Consumes, IsAtEnd}
use Rattle.std.proofs.lemmas.Result.{err_from_is_err_and}
use Rattle.std.proofs.lemmas.List.{append-nil, nil_from_length}
use Rattle.xdr_core.specs.Items.{IsBytes}
use Rattle.xdr_core.specs.Grammar.{Grammar, Spells}
use Rattle.xdr_cut.specs.Cut.{IsShort, IsNoStart, Begins, front_at}
use Rattle.xdr_cut.proofs.Scans.{taken_whole}
use Rattle.xdr_cut.proofs.Fronts.{front_again, front_wrong, front_short, front_fewer}
use Rattle.log_stream.specs.declared.fault.ReadErr.{ReadErr}
use Rattle.log_stream.specs.declared.fault.ReadErr.TheVariants.{Failed, NoMemory, Wrong}
use Rattle.log_stream.specs.Reading.{Refuses, Reads, FillOutcome, Fills, MoreOutcome, TakesMore, TakesPart}
use Rattle.log_stream.proofs.Taken.{Consumes-none, Consumes-then}

-- ---- bytes in hand

-- the bytes in hand were taken, and a value that begins them is all of them
pub record InHand {A : Type 0} (g : Grammar A) (old now : Option (List ℕ)) (bytes : List ℕ) : Type 0 where
  pub consumed : Consumes old now bytes
  pub whole : (value : A) (n : ℕ) → Begins g bytes value n → n ≡ length bytes
  pub part : TakesPart g old now
  pub small : length bytes ≤ 65556
  pub fits : IsBytes bytes

pub hand_none : {A : Type 0} (g : Grammar A) (left : Option (List ℕ)) → InHand g left left []
hand_none g left = record {
  consumed = Consumes-none left;
  whole = λ value n b. omega (arith, ap length b.3, length-append b.0 b.1, b.4);
  part = record { front = []; piece = []; consumed = Consumes-none left; within = λ some. absurd (some refl) };
  small = omega arith;
  fits = λ i. omega arith;
}

-- a piece behind the bytes in hand, of no more than they need
part_more : {A : Type 0} (g : Grammar A) (old mid new : Option (List ℕ)) (bytes piece : List ℕ) (need : ℕ) →
    Consumes old mid bytes → Consumes mid new piece → IsShort g bytes need → length (bytes ++ piece) ≤ need →
    TakesPart g old new
part_more g old mid new bytes piece need p q s le = record {
  front = bytes;
  piece = piece;
  consumed = Consumes-then old mid new bytes piece p q;
  within = λ some. (need, s, le);
}

-- the piece that was needed
pub hand_more : {A X : Type 0} (g : Grammar A) (old mid new : Option (List ℕ)) (bytes after : List ℕ) (need : ℕ)
    (x : X) → InHand g old mid bytes → IsShort g bytes need → need ≤ 65556 → IsBytes after →
    TakesMore {X = X} mid new bytes after need (Ok x) → InHand g old new after
hand_more g old mid new bytes after need x h s small fits t =
    let whole : length (bytes ++ t.piece) ≡ need = ap length (sym t.outcome.0) ∙ t.outcome.1 in
    record {
      consumed = subst (λ (b : List ℕ). Consumes old new b) (sym t.outcome.0)
          (Consumes-then old mid new bytes t.piece h.consumed t.consumed);
      whole = λ value n b. taken_whole g bytes t.piece need value n s whole
          (subst (λ (c : List ℕ). Begins g c value n) t.outcome.0 b) ∙ sym t.outcome.1;
      part = part_more g old mid new bytes t.piece need h.consumed t.consumed s (omega (arith, whole));
      small = omega (arith, t.outcome.1, small);
      fits = fits;
    }

-- fewer than were needed
at_end : {A : Type 0} (g : Grammar A) (taken : List ℕ) (left : Option (List ℕ)) → front_at g taken ≡ None →
    IsAtEnd left → IfSome left (λ more. front_at g (taken ++ more) ≡ None)
at_end g taken None none end = tt
at_end g taken (Some more) none end = rw (end, append-nil taken) none

refused_more : (X : Type 0) {A : Type 0} (g : Grammar A) (bytes after piece : List ℕ) (need : ℕ)
    (left : Option (List ℕ)) (e : ReadErr) → IsBytes bytes → IsShort g bytes need →
    MoreOutcome {X = X} bytes after piece need left (Err e) → Refuses (front_at g) (bytes ++ piece) left e
refused_more X g bytes after piece need left Failed fits s h = front_short g bytes piece need fits s h
refused_more X g bytes after piece need left NoMemory fits s h = tt
refused_more X g bytes after piece need left Wrong fits s h =
    let none = front_short g bytes piece need fits s h.0 in
    (none, at_end g (bytes ++ piece) left none h.1)

few_more : (X : Type 0) (bytes after piece : List ℕ) (need : ℕ) (left : Option (List ℕ)) (e : ReadErr) →
    MoreOutcome {X = X} bytes after piece need left (Err e) → length (bytes ++ piece) ≤ need
few_more X bytes after piece need left Failed h = omega (arith, h)
few_more X bytes after piece need left NoMemory h = h
few_more X bytes after piece need left Wrong h = omega (arith, h.0)

pub reads_cut : {A X Y : Type 0} (g : Grammar A) (view : Y → A) (old mid new : Option (List ℕ)) (bytes after : List ℕ)
    (need : ℕ) (e : ReadErr) → InHand g old mid bytes → IsShort g bytes need →
    TakesMore {X = X} mid new bytes after need (Err e) → Reads (front_at g) view old new (Err e)
reads_cut {X = X} g view old mid new bytes after need e h s t = record {
  taken = bytes ++ t.piece;
  consumed = Consumes-then old mid new bytes t.piece h.consumed t.consumed;
  outcome = refused_more X g bytes after t.piece need new e h.fits s t.outcome;
}

pub part_cut : {A X : Type 0} (g : Grammar A) (old mid new : Option (List ℕ)) (bytes after : List ℕ) (need : ℕ)
    (e : ReadErr) → InHand g old mid bytes → IsShort g bytes need → TakesMore {X = X} mid new bytes after need (Err e) →
    TakesPart g old new
part_cut {X = X} g old mid new bytes after need e h s t =
    part_more g old mid new bytes t.piece need h.consumed t.consumed s
    (few_more X bytes after t.piece need new e t.outcome)

-- ---- what the bytes in hand are

-- they are a value
pub hand_spells : {A : Type 0} (g : Grammar A) (old now : Option (List ℕ)) (bytes : List ℕ) (value : A) (n : ℕ) →
    InHand g old now bytes → Begins g bytes value n → Spells g value bytes
hand_spells g old now bytes value n h b =
    let size = h.whole value n b in
    let none : b.1 ≡ [] = nil_from_length b.1 (omega (arith, size, b.4, ap length b.3, length-append b.0 b.1)) in
    subst (λ (t : List ℕ). Spells g value t) (sym (b.3 ∙ ap (λ (t : List ℕ). b.0 ++ t) none ∙ append-nil b.0)) b.2

pub reads_whole : {A Y : Type 0} (g : Grammar A) (view : Y → A) (old now : Option (List ℕ)) (bytes : List ℕ) (y : Y) →
    IsBytes bytes → Consumes old now bytes → Spells g (view y) bytes → Reads (front_at g) view old now (Ok y)
reads_whole g view old now bytes y fits p s =
    record { taken = bytes; consumed = p; outcome = λ more. front_again g (view y) bytes more fits s }

-- they begin none
IfSome-all : (left : Option (List ℕ)) (P : List ℕ → Type 0) → ((more : List ℕ) → P more) → IfSome left P
IfSome-all None P h = tt
IfSome-all (Some xs) P h = h xs

pub reads_wrong : {A Y : Type 0} (g : Grammar A) (view : Y → A) (old now : Option (List ℕ)) (bytes : List ℕ) →
    IsBytes bytes → Consumes old now bytes → IsNoStart g bytes → Reads (front_at g) view old now (Err Wrong)
reads_wrong g view old now bytes fits p s = record {
  taken = bytes;
  consumed = p;
  outcome = (
    subst (λ (t : List ℕ). front_at g t ≡ None) (append-nil bytes) (front_wrong g bytes [] fits s),
    IfSome-all now (λ more. front_at g (bytes ++ more) ≡ None) (λ more. front_wrong g bytes more fits s),
  );
}

pub reads_wanted : {A Y : Type 0} (g : Grammar A) (view : Y → A) (old now : Option (List ℕ)) (bytes : List ℕ) →
    Consumes old now bytes → Reads (front_at g) view old now (Err NoMemory)
reads_wanted g view old now bytes p = record { taken = bytes; consumed = p; outcome = tt }

-- ---- a buffer of as many bytes as each value has

refused_fill : (X : Type 0) {A : Type 0} (g : Grammar A) (size : ℕ) (buf taken : List ℕ) (left : Option (List ℕ))
    (e : ReadErr) → ((value : A) (text : List ℕ) → Spells g value text → size ≤ length text) → length buf ≡ size →
    FillOutcome {X = X} buf taken left (Err e) → Refuses (front_at g) taken left e
refused_fill X g size buf taken left Failed least len h = front_fewer g size taken least (omega (arith, h, len))
refused_fill X g size buf taken left NoMemory least len h = absurd h
refused_fill X g size buf taken left Wrong least len h =
    let none = front_fewer g size taken least (omega (arith, h.0, len)) in
    (none, at_end g taken left none h.1)

pub reads_unfilled : {A X Y : Type 0} (g : Grammar A) (view : Y → A) (size : ℕ) (old new : Option (List ℕ))
    (buf : List ℕ) (e : ReadErr) → ((value : A) (text : List ℕ) → Spells g value text → size ≤ length text) →
    length buf ≡ size → Fills {X = X} old new buf (Err e) → Reads (front_at g) view old new (Err e)
reads_unfilled {X = X} g view size old new buf e least len f =
    record {
      taken = f.taken;
      consumed = f.consumed;
      outcome =
          refused_fill X g size buf f.taken new e least len f.outcome;
    }

-- ---- the exit of a `?`

pub reads_exit : {X Y : Type 0} {read : List ℕ → Option (Y × List ℕ)} {view : X →
    Y} {old new : Option (List ℕ)} {e : ReadErr} (r : Result X ReadErr) → IsErrAnd r (λ d. d ≡ e) →
    Reads read view old new (Err e) → Reads read view old new r
reads_exit r h q = let p = err_from_is_err_and r h in rw (p.1, p.2) q

pub part_exit : {A X : Type 0} {g : Grammar A} {old new : Option (List ℕ)} (e : ReadErr) (r : Result X ReadErr) →
    IsErrAnd r (λ d. d ≡ e) → TakesPart g old new → OnErr r (TakesPart g old new)
part_exit e r h t = let p = err_from_is_err_and r h in rw p.1 t
