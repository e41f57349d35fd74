use Rattle.std.proofs.Common.{◌≡◌, ◌<◌, ◌+◌, drop, ◌∙◌, arith}
use Rattle.partition_tree.specs.Digests.{digest_at}
use Rattle.state_transfer.proofs.Passing.{node_form, node_stand, node_counted, node_adds}
use Rattle.state_transfer.proofs.walk.Walk.pass.Goals as goal

pub returns-then-self-eq0-clause-passes : goal.returns-then-self-eq0-clause-passes
returns-then-self-eq0-clause-passes c = c.pass_entry.ensures.passes (digest_at c.args.own.now)

pub returns-in-Ok-clause-passes : goal.returns-in-Ok-clause-passes
returns-in-Ok-clause-passes c =
    let f = c.args.self.now in
    let text = c.args.bytes.now in
    let ne = c.if-self-eq0.false in
    let some : 0 < f.level = omega (arith, ne) in
    record {
      form = node_form f.level c.args.number text some (c.is_node_text.ensures.0 c.if-not-is_node_text.false);
      stand = c.in-Ok.ensures.stand
          ∙ node_stand (digest_at c.args.own.now) f.level c.args.number (drop (f.next + 1) f.wanted.items) f.lower.items
          text some;
      nodes = c.in-Ok.ensures.nodes ∙ node_counted f.level f.nodes some;
      changes = node_adds f.level c.args.number text f.changes.items c.take_node.new.self.changes.items some
          c.take_node.ensures.changes;
    }
