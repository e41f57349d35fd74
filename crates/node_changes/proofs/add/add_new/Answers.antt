use Rattle.std.proofs.Common.{◌+◌, arith, ap, refl}
use Rattle.node_changes.proofs.AddLaws.{can_lack, can_hold, rows_few, new_counts, new_unshared, new_added}
use Rattle.node_changes.proofs.add.add_new.Goals as goal

pub make_node-requires-clause-lacks : goal.make_node-requires-clause-lacks
make_node-requires-clause-lacks g c = can_lack _ c.args.table.now c.requires.0 c.args.name.now _ c.args.place.now
    c.requires.1

pub make_node-requires-clause-room : goal.make_node-requires-clause-room
make_node-requires-clause-room g c = can_hold _ c.args.table.now c.requires.0 c.args.name.now _ c.args.place.now
    c.requires.1

pub add_row-requires-clause-unshared : goal.add_row-requires-clause-unshared
add_row-requires-clause-unshared g c = new_unshared _ c.args.table.now c.requires.0 c.args.name.now _ c.args.place.now
    c.requires.1
    _ c.args.attr.now c.in_ok-node.node.handle c.in_ok-node.node.number c.in_ok-node.ensures.made

pub returns-in-Ok-clause-added : goal.returns-in-Ok-clause-added
returns-in-Ok-clause-added g c A can = new_added _ c.args.table.now A c.args.name.now _ c.args.place.now can
    _ c.args.attr.now c.in_ok-node.node.handle c.in_ok-node.node.number c.in_ok-node.ensures.made
    c.add_row.new.table _ c.args.generation _ refl refl refl
    (record { number = refl; mode = refl; uid = refl; gid = refl; atime = refl; mtime = refl; ctime = refl })
    c.in-Ok.ensures.added _ (ap (λ n. 512 + n) c.bytes_of-comes.ensures) c.in-Ok.ensures.tally

pub overflow_add-comes : goal.overflow_add-comes
overflow_add-comes g c =
    let few = (new_counts _ c.args.table.now c.requires.0 c.args.name.now _ c.args.place.now c.requires.1 _ refl).fits in
    let space = c.requires.1.space in
    let most = c.requires.1.within.3 in
    let is = c.bytes_of-comes.ensures in
    omega (arith, space, most, is)

pub add_row-requires-clause-size : goal.add_row-requires-clause-size
add_row-requires-clause-size g c =
    rows_few _ c.args.table.now c.requires.0 c.args.name.now _ c.args.place.now c.requires.1

pub add_row-requires-clause-none_below : goal.add_row-requires-clause-none_below
add_row-requires-clause-none_below g c = c.requires.1.tallied.none_below

pub add_row-requires-clause-count : goal.add_row-requires-clause-count
add_row-requires-clause-count g c = new_counts _ c.args.table.now c.requires.0 c.args.name.now _ c.args.place.now
    c.requires.1 _ (ap (λ n. 512 + n) c.bytes_of-comes.ensures)
