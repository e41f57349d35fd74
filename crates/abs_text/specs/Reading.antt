-- What a reader of entries owes, whose errors are a place or want of memory.
use Rattle.std.specs.Prelude.{◌≡◌, Result, IsErrAnd}
use Rattle.xdr_core.specs.Grammar.{Cursor, Stop, GivesBy, GivesAllBy}
use Rattle.abs_text.specs.declared.error.EntryErr.{EntryErr}
use Rattle.abs_text.specs.declared.error.EntryErr.TheVariants.{Text, NoMemory}

-- the reading stopped at this place, unless memory ran out
abbrev pub FailsAs : {Y : Type 0} → EntryErr → Result Y Stop → Type 0
FailsAs (Text at) read = IsErrAnd read (λ stop. stop.at ≡ at)
FailsAs NoMemory read = Unit {0}

-- what a function returned, seen by view, and the reader after it, are what reading gives, unless memory ran out
abbrev pub GivesAt : {X Y : Type 0} → (X → Y) → Result X EntryErr → Cursor → Result (Y × Cursor) Stop → Type 0
GivesAt view result after read = GivesBy FailsAs view result after read

-- the same of all of the bytes
abbrev pub GivesWhole : {X : Type 0} → Result X EntryErr → Result X Stop → Type 0
GivesWhole result read = GivesAllBy FailsAs (λ x. x) result read
