use Rattle.std.proofs.Common.{arith}
use Rattle.xdr_core.specs.Grammar.{IsReading}
use Rattle.xdr_core.proofs.Formats.{is_reading}
use Rattle.mount1_proto.specs.Calls.{call_of}
use Rattle.mount1_proto.specs.Forms.{mount_form}
use Rattle.mount1_proto.proofs.Numbers.{number_read}
use Rattle.mount1_proto.proofs.reading.read_mount.Goals as goal

pub returns : goal.returns
returns c =
    let r = c.all_arguments.result in
    let bytes = c.args.bytes.now in
    let read : IsReading call_of (mount_form c.args.proc) bytes r = is_reading call_of (mount_form c.args.proc) bytes r (λ i. omega (arith, c.type_inv.bytes i)) c.all_arguments.ensures in
    record { read = read; all = c.all_arguments.ensures; number = number_read c.args.proc bytes r c.requires read.found }
