use Rattle.std.proofs.Common.{arith}
use Rattle.log_format.specs.Records.{event_plan}
use Rattle.xdr_cut.proofs.Scans.{is_scan}
use Rattle.log_format.proofs.KindPlans.{event_is_plan}
use Rattle.log_format.proofs.reading.front.Goals as goal

pub returns : goal.returns
returns c = is_scan (λ x. (x.0, x.1)) (event_plan c.args.f c.args.servers) c.args.bytes.now c.scan.result
    (event_is_plan c.args.f c.args.servers c.requires c.ranges.servers.fits)
    (λ i. omega (arith, c.type_inv.bytes i)) c.scan.ensures
