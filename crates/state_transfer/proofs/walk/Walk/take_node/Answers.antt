use Rattle.std.proofs.Common.{rules, length, ◌++◌, ◌<◌, ◌-◌, ◌*◌, ap, sym, subst, arith, All, length-append}
use Rattle.std.proofs.lemmas.List.Elements.{All-append}
use Rattle.abs_text.specs.Text.{node_parts}
use Rattle.partition_tree.specs.Digests.{digest_at}
use Rattle.partition_tree.specs.Levels.{width}
use Rattle.partition_tree.proofs.Places.{width_small}
use Rattle.state_transfer.specs.Stand.{differing, expected}
use Rattle.state_transfer.proofs.Settling.{Item}
use Rattle.state_transfer.proofs.Gathering.{step_up, inside_below, differing_small, differing_few}
use Rattle.state_transfer.proofs.Counting.{nodes_small}
use Rattle.state_transfer.proofs.walk.Walk.take_node.Goals as goal

pub want_below-requires-clause-number : goal.want_below-requires-clause-number
want_below-requires-clause-number c =
    let f = c.args.self.now in
    let most = width_small f.levels f.level c.requires.sound.most in
    let low = c.requires.number in
    omega (arith, most, low)

pub want_below-requires-clause-inside : goal.want_below-requires-clause-inside
want_below-requires-clause-inside c =
    let f = c.args.self.now in
    inside_below (length c.args.own.now) f.levels f.level c.args.number c.requires.size c.requires.level
    c.requires.sound.level c.requires.number

pub overflow_add-self-2 : goal.overflow_add-self-2
overflow_add-self-2 c =
    let small = nodes_small c.args.self.now c.requires.sound in
    search (rules, small)

pub settle-requires : goal.settle-requires
settle-requires c =
    let f = c.args.self.now in
    let s = c.requires.sound in
    let own = digest_at c.args.own.now in
    let add = differing own (f.level - 1) (expected c.args.number c.args.text.now) in
    let items = c.in-Ok.ensures.ok in
    let low = c.requires.number in
    let some = c.requires.some in
    let wide = step_up f.levels f.level c.requires.level s.level in
    let long = ap length items in
    let both = length-append f.lower.items add in
    let few = differing_few own (f.level - 1) (16 * c.args.number) 16 (node_parts c.args.text.now) in
    let lower_few = s.lower_few in
    let nodes = s.nodes in
    let changes = s.changes in
    let room = s.lower_room in
    let grown = c.in-Ok.ensures.room in
    record {
      most = s.most;
      level = s.level;
      within = omega (arith, some);
      small = s.small;
      lower_small = subst (All (λ (w : Item). w.0 < width f.levels (f.level - 1))) (sym items)
          (All-append (λ (w : Item). w.0 < width f.levels (f.level - 1)) f.lower.items add s.lower_small
          (differing_small own (f.level - 1) (16 * c.args.number) 16 (width f.levels (f.level - 1))
          (node_parts c.args.text.now) (omega (arith, low, wide))));
      bottom = λ e. absurd (let lt = c.requires.level in omega (arith, lt, e));
      few = s.few;
      lower_few = omega (arith, long, both, few, lower_few);
      nodes = omega (arith, nodes);
      changes = omega (arith, changes);
      none = s.none;
      room = s.room;
      lower_room = omega (arith, room, grown);
    }
