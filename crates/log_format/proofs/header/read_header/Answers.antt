use Rattle.std.proofs.Common.{arith}
use Rattle.log_format.proofs.HeaderTexts.{header_found, header_same, header_none}
use Rattle.log_format.proofs.header.read_header.Goals as goal

pub returns-in-Some-clause-found : goal.returns-in-Some-clause-found
returns-in-Some-clause-found c = header_found c.args.bytes.now c.in-Some.h
    (λ i. omega (arith, c.type_inv.bytes i)) c.requires c.in-Some.ensures.read

pub returns-in-Some-clause-only : goal.returns-in-Some-clause-only
returns-in-Some-clause-only c = λ h s. header_same c.args.bytes.now c.in-Some.h h c.in-Some.ensures.read s

pub returns-in-None-clause-only : goal.returns-in-None-clause-only
returns-in-None-clause-only c = λ h s. header_none c.args.bytes.now h c.in-None.ensures.read s
