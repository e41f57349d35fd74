-- What a reader gives that may want memory.
use Rattle.std.specs.Prelude.{◌≡◌, ℕ, List, length, Some, Result, Ok, Err, IfOk}
use Rattle.xdr_core.specs.declared.error.XdrErr.{XdrErr}
use Rattle.xdr_core.specs.Grammar.{Cursor, Stop, Spells, FailsAt, GivesBy, GivesAllBy, IsFirstWrong}
use Rattle.nfs2_types.specs.declared.results.NfsResult.{NfsResult}
use Rattle.nfs2_results.specs.declared.error.ResErr.{ResErr}
use Rattle.nfs2_results.specs.declared.error.ResErr.TheVariants.{Xdr, NoMemory}
use Rattle.nfs2_results.specs.Forms.{result_form}

-- the first wrong item, unless memory ran out
abbrev pub FailsAs : {Y : Type 0} → ResErr → Result Y Stop → Type 0
FailsAs (Xdr e) read = FailsAt e read
FailsAs NoMemory read = Unit {0}

-- what a function returned, seen by view, and the reader after it, are what reading gives, unless memory ran out
abbrev pub GivesAt : {X Y : Type 0} → (X → Y) → Result X ResErr → Cursor → Result (Y × Cursor) Stop → Type 0
GivesAt view result after read = GivesBy FailsAs view result after read

-- the same of all of the bytes
abbrev pub GivesWhole : {X : Type 0} → Result X ResErr → Result X Stop → Type 0
GivesWhole result read = GivesAllBy FailsAs (λ x. x) result read

-- this value, unless memory ran out
abbrev pub IsOkOrNoMemory : {X : Type 0} → Result X ResErr → X → Type 0
IsOkOrNoMemory (Ok x) value = x ≡ value
IsOkOrNoMemory (Err (Xdr e)) value = ⊥
IsOkOrNoMemory (Err NoMemory) value = Unit {0}

-- the bytes spell a result of the procedure: some limit of entries is enough
abbrev pub SpellsResult : ℕ → NfsResult → List ℕ → Type 0
SpellsResult proc r bytes = (limit : ℕ) × Spells (result_form limit proc) r bytes

-- a function gives exactly the results of a procedure that all of the bytes spell, and else the first wrong item,
-- unless memory runs out; of entries there are never more than bytes
pub record IsResultOf (proc : ℕ) (bytes : List ℕ) (result : Result NfsResult ResErr) : Type 0 where
  pub found : IfOk result (λ r. SpellsResult proc r bytes)
  pub only : (r : NfsResult) → SpellsResult proc r bytes → IsOkOrNoMemory result r
  pub wrong : (e : XdrErr) → result ≡ Err (Xdr e)
      → IsFirstWrong (result_form (length bytes) proc) bytes (record { at = e.at; why = Some e.kind })
