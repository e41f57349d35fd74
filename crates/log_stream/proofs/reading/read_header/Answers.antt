use Rattle.std.proofs.Common.{◌≡◌, ℕ, List, subst, length, arith}
use Rattle.std.specs.Io.KnownBytes.{Consumes}
use Rattle.std.proofs.lemmas.Grind.{common_steps}
use Rattle.log_format.specs.Records.{header_form}
use Rattle.log_format.proofs.HeaderTexts.{header_len, header_no_start}
use Rattle.log_stream.proofs.RecordSteps.{reads_unfilled, reads_whole, reads_wrong, reads_exit}
use Rattle.log_stream.proofs.reading.read_header.Goals as goal

pub returns-in_err-fill-clause-bytes : goal.returns-in_err-fill-clause-bytes
returns-in_err-fill-clause-bytes g c =
    reads_exit _ c.from_residual.ensures.1
    (reads_unfilled header_form (λ h. h) 24 _ _ c.fill.new.buf _ (λ h text s. omega (arith, header_len h text s))
    (grind (arith, common_steps)) c.in_err-fill.ensures.bytes)

pub returns-in-Ok-clause-bytes : goal.returns-in-Ok-clause-bytes
returns-in-Ok-clause-bytes g c =
    let all = c.in_ok-fill.ensures.bytes in
    reads_whole header_form (λ h. h) _ _ c.fill.new.buf c.in-Ok.header c.in_ok-fill.ensures.fits
    (subst (λ (t : List ℕ). Consumes (g.S.Source.left c.args.input.now)
    (g.S.Source.left c.fill.new.input) t) all.outcome all.consumed) c.in-Ok.ensures.found

pub returns-in-Err-Wrong-clause-bytes : goal.returns-in-Err-Wrong-clause-bytes
returns-in-Err-Wrong-clause-bytes g c =
    let all = c.in_ok-fill.ensures.bytes in
    let len : length c.fill.new.buf ≡ 24 = grind (arith, common_steps) in
    reads_wrong header_form (λ h. h) _ _ c.fill.new.buf c.in_ok-fill.ensures.fits
    (subst (λ (t : List ℕ). Consumes (g.S.Source.left c.args.input.now)
    (g.S.Source.left c.fill.new.input) t) all.outcome all.consumed)
    (header_no_start c.fill.new.buf len (λ h s. c.in-Err-Wrong.ensures.only h s))
