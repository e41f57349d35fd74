-- A loop that reads a list ends with the error of its round.
use Rattle.std.proofs.Common.{ℕ, ◌<◌, List, []}
use Rattle.std.proofs.lemmas.Result.{err_from_is_err_and}
use Rattle.xdr_core.specs.Grammar.{Cursor, Grammar, reads, listed, Repeats}
use Rattle.xdr_core.proofs.Loops.{stops}
use Rattle.abs_text.specs.declared.error.EntryErr.{EntryErr}
use Rattle.abs_text.specs.declared.error.EntryErr.TheVariants.{Text, NoMemory}
use Rattle.abs_text.specs.Reading.{FailsAs}

pub list_fails : {A : Type 0} (g : List A → Grammar A) (n : ℕ) (start : Cursor) (i : ℕ) (front : List A) (c : Cursor)
    (e : EntryErr) → i < n → FailsAs e (reads (g front) c) → Repeats g n start i front c →
    FailsAs e (reads (listed g n []) start)
list_fails g n start i front c (Text at) lt h so_far =
    let p = err_from_is_err_and (reads (g front) c) h in
    rw (stops g n start i front c p.0 lt p.1 so_far) p.2
list_fails g n start i front c NoMemory lt h so_far = tt
