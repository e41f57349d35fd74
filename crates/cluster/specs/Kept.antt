-- What contracts see of a cluster.
use Rattle.std.specs.Ordering.{nat_cmp}
use Rattle.std.specs.BTreeMap as ordered
use Rattle.reply_vote.specs.Ballots.{ballots}
use Rattle.cluster.specs.declared.cluster.state.Cluster.{Cluster}
use Rattle.cluster.specs.OverBench.{Kept}

-- what a cluster keeps
abbrev pub kept : Cluster → Kept
kept c = record {
  limits = c.limits;
  requests = c.requests.items;
  seats = c.seats.items;
  ballots = ballots c.votes;
  decisions = λ p. ordered.get nat_cmp c.decisions p;
  roots = ballots c.roots;
  stable = c.stable;
  root = c.root;
  events = c.events;
}
