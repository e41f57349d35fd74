use Rattle.std.proofs.Common.{sym}
use Rattle.basefs.proofs.Benches.{refuses_few, refuses_small, refuses_none}
use Rattle.basefs.proofs.bench.refusal.Goals as goal

pub returns-then-servers-need : goal.returns-then-servers-need
returns-then-servers-need g c = refuses_few _ c.args.header.now c.args.servers.now c.if-servers-need.true

pub returns-in-Some : goal.returns-in-Some
returns-in-Some g c = refuses_small _ c.args.header.now c.args.servers.now c.in-Some.server c.if-servers-need.false (sym c.in-Some.ensures)

pub returns-in-None : goal.returns-in-None
returns-in-None g c = refuses_none _ c.args.header.now c.args.servers.now c.if-servers-need.false (sym c.in-None.ensures)
