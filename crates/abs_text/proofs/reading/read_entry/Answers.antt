use Rattle.std.proofs.Common.{ℕ, arith}
use Rattle.xdr_core.proofs.Formats.{is_reading_by}
use Rattle.abs_model.specs.declared.Entry.{Entry}
use Rattle.abs_text.specs.Forms.{entry_form}
use Rattle.abs_text.specs.Reading.{FailsAs}
use Rattle.abs_text.proofs.reading.read_entry.Goals as goal

abbrev same : ℕ × Entry → ℕ × Entry
same x = x

pub returns : goal.returns
returns c = is_reading_by FailsAs same entry_form c.args.bytes.now c.whole_entry.result
    (λ i. omega (arith, c.type_inv.bytes i)) c.whole_entry.ensures
