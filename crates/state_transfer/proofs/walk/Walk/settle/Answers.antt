use Rattle.std.proofs.Common.{rules, length, drop, ◌≡◌, ◌<◌, ◌≢◌, ◌-◌, ◌*◌, ◌+◌, ◌≤◌, ap, sym, ◌∙◌, arith, subst, [], All}
use Rattle.std.specs.Vec.{vec_capacity}
use Rattle.std.proofs.lemmas.List.Elements.{All-nil}
use Rattle.partition_tree.specs.Levels.{width}
use Rattle.state_transfer.specs.Stand.{settled}
use Rattle.state_transfer.proofs.Settling.{Item, drop_all, drop_some, goes_down, stays_put}
use Rattle.state_transfer.proofs.Gathering.{step_up}
use Rattle.state_transfer.proofs.Counting.{next_small}
use Rattle.state_transfer.proofs.walk.Walk.settle.Goals as goal

pub loop-self-preserved : goal.loop-self-preserved
loop-self-preserved c =
    let inv = c.loop-self.invariant in
    let f = c.loop-self.self in
    let some = c.loop-self-test.true in
    let at_end : f.next ≡ length f.wanted.items = search (rules, c.if-self-len.true, c.len.ensures) in
    let none = drop_all f.wanted.items f.next at_end in
    let x = ap (λ v. v.items) c.swap.ensures.x_after in
    let wide = step_up f.levels f.level some inv.sound.level in
    let low = inv.sound.lower_few in
    let few = inv.sound.few in
    let small = next_small f inv.sound in
    let nodes = inv.sound.nodes in
    let empty : f.changes.items ≡ [] = inv.sound.none some in
    let no_changes = ap length empty in
    let long = ap length x in
    let room_x = ap vec_capacity c.swap.ensures.x_after in
    let room_y = ap vec_capacity c.swap.ensures.y_after in
    let room_c = c.clear.ensures.capacity in
    let room_1 = inv.sound.room in
    let room_2 = inv.sound.lower_room in
    let cleared = ap length c.clear.ensures.items in
    record {
      sound = record {
        most = inv.sound.most;
        level = (let le = inv.sound.level in omega (arith, le));
        within = omega arith;
        small = subst (All (λ (w : Item). w.0 < width f.levels (f.level - 1))) (sym x) inv.sound.lower_small;
        lower_small = subst (All (λ (w : Item). w.0 < width f.levels (f.level - 1 - 1))) (sym c.clear.ensures.items)
            (All-nil (λ (w : Item). w.0 < width f.levels (f.level - 1 - 1)));
        bottom = λ _. c.clear.ensures.items;
        few = omega (arith, long, low, at_end, few, wide);
        lower_few = omega (arith, cleared);
        nodes = omega (arith, nodes, small, some);
        changes = omega (arith, no_changes);
        none = λ _. empty;
        room = omega (arith, room_x, room_2);
        lower_room = omega (arith, room_y, room_c, room_1);
      };
      stand = ap (λ ws. settled (f.level - 1) ws c.clear.new.self.items) x
          ∙ ap (settled (f.level - 1) f.lower.items) c.clear.ensures.items
          ∙ sym (goes_down f.level _ f.lower.items some none) ∙ inv.stand;
      levels = inv.levels;
      nodes = inv.nodes;
      changes = inv.changes;
    }

pub returns-else-self-len-clause-stand : goal.returns-else-self-len-clause-stand
returns-else-self-len-clause-stand c =
    let inv = c.loop-self.invariant in
    let f = c.loop-self.self in
    let ne = c.if-self-len.false in
    let len = c.len.ensures in
    let within = inv.sound.within in
    let below : f.next < length f.wanted.items = search (rules, ne, len, within) in
    let some : f.level ≢ 0 = (let lt = c.loop-self-test.true in omega (arith, lt)) in
    sym (stays_put f.level _ f.lower.items some (drop_some f.wanted.items f.next below)) ∙ inv.stand
