use Rattle.cluster.specs.Kept.{kept}
use Rattle.cluster.proofs.cluster.state.Cluster.vote.Goals as goal

pub returns : goal.returns
returns c = record {
  voted = record {
    mid = kept c.cast.new.self;
    between = c.cast.new.lines.items;
    replied = c.in_ok-cast.ensures.cast;
    rooted = c.in_ok-vote_root.ensures.rooted;
  };
}
