use Rattle.std.proofs.Common.{◌≤◌, arith}
use Rattle.partition_tree.specs.Digests.{digest_at}
use Rattle.state_transfer.proofs.Gathering.{wanting_begins, wanting_more}
use Rattle.state_transfer.proofs.children.want_below.Goals as goal

pub loop-place-init : goal.loop-place-init
loop-place-init c = record {
  wanting = wanting_begins (digest_at c.args.own.now) c.args.level c.args.number c.args.text.now c.args.lower.now.items;
  room = omega arith;
}

pub loop-place-preserved : goal.loop-place-preserved
loop-place-preserved c =
    let inv = c.loop-place.invariant in
    let grown = c.in-Ok.ensures.room in
    let before = inv.room in
    record {
      wanting = wanting_more (digest_at c.args.own.now) c.args.level c.args.number c.args.text.now c.args.lower.now.items
          c.loop-place.lower.items c.want.new.wanted.items c.loop-place.place c.digest_in.result c.loop-place-test.true
          c.digest_in.ensures c.in-Ok.ensures.ok inv.wanting;
      room = omega (arith, grown, before);
    }
