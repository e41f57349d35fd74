use Rattle.std.proofs.Common.{◌≡◌, true, false, rules, arith}
use Rattle.log_segments.specs.Record.{key_of}
use Rattle.log_index.specs.Memory.{memory_of}
use Rattle.log_mount.specs.Told.{among_nodes, is_node_key}
use Rattle.log_mount.proofs.Keys.{next_fits, next_node}
use Rattle.log_mount.proofs.NodeTurns.{turn_skip, turn_read}
use Rattle.log_mount.proofs.nodes.tell_node.Goals as goal

pub is_of_node-requires : goal.is_of_node-requires
is_of_node-requires g c =
    let e = c.in_ok-block.ensures in
    let f = next_fits among_nodes _ c.args.place c.in-Some.block _ c.requires.placed c.requires.told
    (rw c.in-Some.is at e.whole) (rw c.in-Some.is at e.live) in
    omega (arith, f.long)

pub returns-then-not-is_of_node-clause-told : goal.returns-then-not-is_of_node-clause-told
returns-then-not-is_of_node-clause-told g c =
    let other : is_node_key (key_of c.in-Some.block) ≡ false = search rules in
    turn_skip _ c.args.place c.in-Some.block _ (rw c.in-Some.is at c.in_ok-block.ensures.live) other c.requires.told

pub read_id-id-requires : goal.read_id-id-requires
read_id-id-requires g c =
    let e = c.in_ok-block.ensures in
    let f = next_fits among_nodes _ c.args.place c.in-Some.block _ c.requires.placed c.requires.told
    (rw c.in-Some.is at e.whole) (rw c.in-Some.is at e.live) in
    f.long

pub read_node-node-requires : goal.read_node-node-requires
read_node-node-requires g c =
    let e = c.in_ok-block.ensures in
    let holds : is_node_key (key_of c.in-Some.block) ≡ true = search rules in
    let f = next_node among_nodes _ c.args.place c.in-Some.block _ c.requires.placed c.requires.told
    (rw c.in-Some.is at e.whole) (rw c.in-Some.is at e.live) holds in
    f.room

pub returns-clause-told : goal.returns-clause-told
returns-clause-told g c =
    let e = c.in_ok-block.ensures in
    let next = rw c.in-Some.is at e.live in
    let holds : is_node_key (key_of c.in-Some.block) ≡ true = search rules in
    let f = next_node among_nodes _ c.args.place c.in-Some.block _ c.requires.placed c.requires.told
    (rw c.in-Some.is at e.whole) next holds in
    turn_read _ c.args.place c.in-Some.block c.read_id-id.result (memory_of c.args.index.now)
    (memory_of c.add_node.new.self) c.read_node-node.result c.in_ok-size.size f next c.read_id-id.ensures
    c.read_node-node.ensures (rw c.in-Some.is at e.stands)
    (rw (e.reads.content_is, e.reads.size_is) at c.in_ok-size.ensures.size) c.in_ok-add_node.ensures c.requires.told
