use Rattle.std.proofs.Common.{rules, length, arith}
use Rattle.state_transfer.proofs.Counting.{changes_small, counts_small}
use Rattle.state_transfer.proofs.fetcher.Fetcher.counts.Goals as goal

pub overflow_cast-result : goal.overflow_cast-result
overflow_cast-result c =
    let small = changes_small c.self.inside.walk c.self.invariant.1 in
    let many = c.self.inside.walk.changes.ok in
    let is = c.len.ensures in
    search (rules, small, is, many)

pub returns-clause-few : goal.returns-clause-few
returns-clause-few c =
    let small = counts_small c.self.inside.walk c.self.invariant.1 in
    let is = c.len.ensures in
    omega (arith, small, is)
