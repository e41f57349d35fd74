use Rattle.std.proofs.Common.{◌≡◌, ◌∙◌, ◌+◌, ◌-◌, ◌%◌, ◌/◌, ℕ, refl, sym, ap, rules, arith, length}
use Rattle.pointer_tree.specs.Tree.{Content, block}
use Rattle.pointer_tree.specs.Bytes.{bytes_from}
use Rattle.pointer_tree.proofs.Pieces.{nothing_read, piece, read_more}
use Rattle.pointer_tree.proofs.read.read_bytes.Goals as goal

pub loop-at-init : goal.loop-at-init
loop-at-init g c =
    let blocks = block c.args.area (g.M.Medium.content c.args.medium.now) c.args.depth c.args.top in
    let none : c.args.from - c.args.from ≡ 0 = omega arith in
    record {
      from_in = omega arith;
      to_in = c.requires.from_in;
      read = c.new-out.ensures.items ∙ nothing_read blocks c.args.from ∙ ap (λ (n : ℕ). bytes_from blocks c.args.from
          n) (sym none);
      content = refl;
      size = refl;
      faults = refl;
    }

pub loop-at-preserved : goal.loop-at-preserved
loop-at-preserved g c =
    let inv = c.loop-at.invariant in
    let content = g.M.Medium.content c.args.medium.now in
    let blocks = block c.args.area content c.args.depth c.args.top in
    let node_is : c.in_ok-node.node ≡ blocks (c.loop-at.at / 512) =
    c.in_ok-node.ensures.bytes ∙ ap (λ (x : Content). block c.args.area x c.args.depth c.args.top
    (c.loop-at.at / 512)) inv.content in
    let len : length c.in_ok-node.node ≡ 512 = search rules in
    let stop = c.stop-end.ensures in
    let next = c.loop-at.at + (c.stop-end.result - c.loop-at.at % 512) in
    let taken : c.stop-end.result - c.loop-at.at % 512 ≡ next - c.loop-at.at = omega arith in
    let part = piece blocks c.in_ok-node.node c.loop-at.at c.stop-end.result node_is len (omega (arith, stop.past))
    stop.within
    ∙ ap (λ (n : ℕ). bytes_from blocks c.loop-at.at n) taken in
    record {
      from_in = omega (arith, inv.from_in);
      to_in = omega (arith, stop.most, stop.past, c.loop-at-test.true);
      read = read_more blocks c.args.from c.loop-at.at next c.loop-at.out.items _ c.extend_from_slice.new.self.items
          inv.from_in (omega arith) inv.read part c.in-Ok.ensures.items;
      content = c.get_block.ensures.content ∙ inv.content;
      size = c.get_block.ensures.size ∙ inv.size;
      faults = c.in_ok-node.ensures.cause.ok ∙ inv.faults;
    }
