use Rattle.std.proofs.Common.{◌≡◌, ℕ, true, Result, Ok, Err, arith}
use Rattle.std.specs.Prelude.{IfOk}
use Rattle.xdr_core.specs.declared.error.XdrErr.{XdrErr}
use Rattle.xdr_core.specs.Grammar.{IsReading}
use Rattle.xdr_core.proofs.Formats.{is_reading}
use Rattle.nfs2_types.specs.declared.args.Args.{Args}
use Rattle.nfs2_types.specs.Call.{call_of, call_fits}
use Rattle.nfs2_args.specs.Forms.{args_form}
use Rattle.nfs2_args.specs.Spelling.{number_of, call_fields_fit}
use Rattle.nfs2_args.proofs.Bounds.{Within, read_within_bounds}
use Rattle.nfs2_args.proofs.reading.read_args.Goals as goal

record All (proc : ℕ) (r : Result Args XdrErr) : Type 0 where
  fits : IfOk r (λ a. call_fits (call_of a) ≡ true)
  fields : IfOk r (λ a. call_fields_fit (call_of a) ≡ true)
  number : IfOk r (λ a. number_of (call_of a) ≡ proc)

parts : (proc : ℕ) (r : Result Args XdrErr) → IfOk r (λ a. Within proc (call_of a)) → All proc r
parts proc (Ok a) h = record { fits = h.fits; fields = h.fields; number = h.number }
parts proc (Err e) h = record { fits = tt; fields = tt; number = tt }

pub returns : goal.returns
returns c =
    let r = c.all_arguments.result in
    let bytes = c.args.bytes.now in
    let read : IsReading call_of (args_form c.args.proc) bytes r =
    is_reading call_of (args_form c.args.proc) bytes r (λ i. omega (
      arith,
      c.type_inv.bytes i,
    )) c.all_arguments.ensures in
    let all = parts c.args.proc r (read_within_bounds c.args.proc bytes r c.requires read.found) in
    record { read = read; all = c.all_arguments.ensures; fits = all.fits; fields = all.fields; number = all.number }
