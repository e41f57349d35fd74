use Rattle.recovery.proofs.Fetching.{begun_over}
use Rattle.recovery.proofs.rebuild.Rebuild.begin.Goals as goal

pub returns : goal.returns
returns c A is = begun_over A c.args.own c.root-root.result c.in_ok-fetcher.fetcher c.root-root.ensures c.in_ok-fetcher.ensures is
