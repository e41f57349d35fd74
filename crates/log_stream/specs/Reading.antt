-- What reading from a source takes from it.
use Rattle.std.specs.Prelude.{◌≡◌, ◌≢◌, ℕ, ◌++◌, List, [], Option, Some, None, Result, Ok, Err, IfSome, IsErrOf, ◌≤◌, ◌<◌, length}
use Rattle.std.specs.Io.KnownBytes.{Consumes, IsAtEnd}
use Rattle.outside.specs.Causes.{Rose}
use Rattle.xdr_core.specs.Grammar.{Grammar}
use Rattle.xdr_core.specs.Grammar as grammar
use Rattle.xdr_cut.specs.Cut.{IsShort}
use Rattle.log_stream.specs.declared.fault.ReadErr.{ReadErr}
use Rattle.log_stream.specs.declared.fault.ReadErr.TheVariants.{Failed, NoMemory, Wrong}

-- these bytes are read as y, whatever follows them
abbrev pub Spells : {Y : Type 0} → (List ℕ → Option (Y × List ℕ)) → List ℕ → Y → Type 0
Spells read taken y = (more : List ℕ) → read (taken ++ more) ≡ Some (y, more)

-- Why nothing was read: what was taken does not spell it, and where it is wrong, nor does it with
-- what the source has left.
abbrev pub Refuses : {Y : Type 0} → (List ℕ → Option (Y × List ℕ)) → List ℕ → Option (List ℕ)
    → ReadErr → Type 0
Refuses read taken left Failed = read taken ≡ None
Refuses read taken left NoMemory = Unit {0}
Refuses read taken left Wrong =
    (read taken ≡ None) × IfSome left (λ more. read (taken ++ more) ≡ None)

-- what a result says: what was taken spells the value that it stands for, or an error has its cause
abbrev pub Outcome : {X Y : Type 0} → (List ℕ → Option (Y × List ℕ)) → (X → Y) → List ℕ
    → Option (List ℕ) → Result X ReadErr → Type 0
Outcome read view taken left (Ok x) = Spells read taken (view x)
Outcome read view taken left (Err e) = Refuses read taken left e

-- A source with these bytes left handed out some, and was left with the others; the result is what
-- reading gives.
pub record Reads {X Y : Type 0} (read : List ℕ → Option (Y × List ℕ)) (view : X → Y)
    (old new : Option (List ℕ)) (result : Result X ReadErr) : Type 0 where
  pub taken : List ℕ
  pub consumed : Consumes old new taken
  pub outcome : Outcome read view taken new result

-- What filling a buffer takes from a source: it ends with these bytes, or too few were got.
abbrev pub FillOutcome : {X : Type 0} → List ℕ → List ℕ → Option (List ℕ) → Result X ReadErr
    → Type 0
FillOutcome buf taken left (Ok x) = taken ≡ buf
FillOutcome buf taken left (Err Failed) = length taken < length buf
FillOutcome buf taken left (Err Wrong) = (length taken < length buf) × IsAtEnd left
FillOutcome buf taken left (Err NoMemory) = ⊥

-- a source handed out some bytes to a buffer, which now is `buf`
pub record Fills {X : Type 0} (old new : Option (List ℕ)) (buf : List ℕ) (result : Result X ReadErr)
    : Type 0 where
  pub taken : List ℕ
  pub consumed : Consumes old new taken
  pub outcome : FillOutcome buf taken new result

-- What taking more bytes from a source leaves: so many in hand, or fewer.
abbrev pub MoreOutcome : {X : Type 0} → List ℕ → List ℕ → List ℕ → ℕ → Option (List ℕ) → Result X ReadErr
    → Type 0
MoreOutcome before after piece need left (Ok x) = (after ≡ before ++ piece) × (length after ≡ need)
MoreOutcome before after piece need left (Err Failed) = length (before ++ piece) < need
MoreOutcome before after piece need left (Err Wrong) = (length (before ++ piece) < need) × IsAtEnd left
MoreOutcome before after piece need left (Err NoMemory) = length (before ++ piece) ≤ need

-- a source handed out a piece, which stands behind the bytes in hand
pub record TakesMore {X : Type 0} (old new : Option (List ℕ)) (before after : List ℕ) (need : ℕ)
    (result : Result X ReadErr) : Type 0 where
  pub piece : List ℕ
  pub consumed : Consumes old new piece
  pub outcome : MoreOutcome before after piece need new result

-- A source handed out no more than a value needs: all but the last piece begin a value, and none that begins
-- so is shorter than all of them.
pub record TakesPart {A : Type 0} (g : Grammar A) (old new : Option (List ℕ)) : Type 0 where
  pub front : List ℕ
  pub piece : List ℕ
  pub consumed : Consumes old new (front ++ piece)
  pub within : piece ≢ [] → (need : ℕ) × IsShort g front need × (length (front ++ piece) ≤ need)

-- what a source handed out is the value's text, and not a byte more
pub record TakesText {A : Type 0} (g : Grammar A) (old new : Option (List ℕ)) (value : A) (text : List ℕ)
    : Type 0 where
  pub consumed : Consumes old new text
  pub spells : grammar.Spells g value text

-- the count never falls, and a failure comes only where it rose
pub record ReadHasCause {T : Type 0} (before now : ℕ) (result : Result T ReadErr) : Type 0 where
  pub later : before ≤ now
  pub failed : IsErrOf result Failed → Rose before now
