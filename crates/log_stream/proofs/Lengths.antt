-- How many bytes are taken where a record is read.
use Rattle.std.proofs.Common.{◌≡◌, ℕ, List, [], ◌++◌, length, ap, arith}
use Rattle.std.proofs.lemmas.List.{append-nil}
use Rattle.xdr_cut.proofs.Fronts.{front_spelled}
use Rattle.log_format.specs.declared.Event.{Event}
use Rattle.log_format.specs.Records.{record_at, event_form}
use Rattle.log_format.specs.Spelling.{record_len}
use Rattle.log_format.proofs.EventTexts.{len_told}
use Rattle.log_stream.specs.Reading.{Spells as SpelledAs}

-- the bytes that spell a record are as many as it takes
pub length_spelled : (f servers : ℕ) (taken : List ℕ) (e : Event) → SpelledAs (record_at f servers) taken e →
    length taken ≡ record_len e
length_spelled f servers taken e h =
    let s = front_spelled (event_form f servers) (taken ++ []) [] e (h []) in
    omega (arith, s.len, ap length (append-nil taken), len_told f servers e s.text s.spells)
