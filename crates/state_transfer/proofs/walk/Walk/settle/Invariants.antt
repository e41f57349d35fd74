use Rattle.std.proofs.Common.{◌≡◌}
use Rattle.state_transfer.specs.Stand.{settled}
use Rattle.state_transfer.specs.Walk.{stand_of, IsSound}
use Rattle.state_transfer.proofs.walk.Walk.settle.Given as goal

-- it settles where it would have settled at first
abbrev pub invariant-loop-self : goal.invariant-loop-self
invariant-loop-self l = record {
  sound : IsSound l.self;
  stand : settled l.self.level (stand_of l.self).rest l.self.lower.items ≡
      settled l.fn.self.level (stand_of l.fn.self).rest l.fn.self.lower.items;
  levels : l.self.levels ≡ l.fn.self.levels;
  nodes : l.self.nodes ≡ l.fn.self.nodes;
  changes : l.self.changes.items ≡ l.fn.self.changes.items;
}

abbrev pub decreases-loop-self : goal.decreases-loop-self
decreases-loop-self l = l.self.level
