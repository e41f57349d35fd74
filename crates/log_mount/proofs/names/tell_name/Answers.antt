use Rattle.std.proofs.Common.{◌≡◌, true, false, rules, arith}
use Rattle.log_segments.specs.Record.{key_of}
use Rattle.log_index.specs.Memory.{memory_of}
use Rattle.log_mount.specs.Told.{among_names, is_name_key}
use Rattle.log_mount.proofs.Keys.{id_in, next_fits, next_name}
use Rattle.log_mount.proofs.NameTurns.{turn_skip, turn_name, dir_kept, child_kept}
use Rattle.log_mount.proofs.names.tell_name.Goals as goal

pub is_of_name-requires : goal.is_of_name-requires
is_of_name-requires g c =
    let e = c.in_ok-block.ensures in
    let f = next_fits among_names _ c.args.place c.in-Some.block _ c.requires.placed c.requires.told
    (rw c.in-Some.is at e.whole) (rw c.in-Some.is at e.live) in
    omega (arith, f.long)

pub returns-then-not-is_of_name-clause-told : goal.returns-then-not-is_of_name-clause-told
returns-then-not-is_of_name-clause-told g c =
    let other : is_name_key (key_of c.in-Some.block) ≡ false = search rules in
    turn_skip _ c.args.place c.in-Some.block _ (rw c.in-Some.is at c.in_ok-block.ensures.live) other c.requires.told

pub read_id-dir-requires : goal.read_id-dir-requires
read_id-dir-requires g c =
    let e = c.in_ok-block.ensures in
    let f = next_fits among_names _ c.args.place c.in-Some.block _ c.requires.placed c.requires.told
    (rw c.in-Some.is at e.whole) (rw c.in-Some.is at e.live) in
    f.long

pub read_child-child-requires : goal.read_child-child-requires
read_child-child-requires g c =
    let e = c.in_ok-block.ensures in
    let holds : is_name_key (key_of c.in-Some.block) ≡ true = search rules in
    let f = next_name among_names _ c.args.place c.in-Some.block _ c.requires.placed c.requires.told
    (rw c.in-Some.is at e.whole) (rw c.in-Some.is at e.live) holds in
    f.room

pub add_name-requires-clause-dir : goal.add_name-requires-clause-dir
add_name-requires-clause-dir g c =
    let e = c.in_ok-block.ensures in
    let next = rw c.in-Some.is at e.live in
    let holds : is_name_key (key_of c.in-Some.block) ≡ true = search rules in
    let f = next_name among_names _ c.args.place c.in-Some.block _ c.requires.placed c.requires.told
    (rw c.in-Some.is at e.whole) next holds in
    rw c.read_id-dir.ensures (dir_kept _ c.args.place c.in-Some.block (id_in c.in-Some.block) f.name
    (memory_of c.args.index.now) c.requires.placed c.requires.tied next f.eight f.key f.long
    (rw c.in-Some.is at e.stands) c.requires.told)

pub add_name-requires-clause-child : goal.add_name-requires-clause-child
add_name-requires-clause-child g c =
    let e = c.in_ok-block.ensures in
    let next = rw c.in-Some.is at e.live in
    let holds : is_name_key (key_of c.in-Some.block) ≡ true = search rules in
    let f = next_name among_names _ c.args.place c.in-Some.block _ c.requires.placed c.requires.told
    (rw c.in-Some.is at e.whole) next holds in
    rw c.read_child-child.ensures (child_kept _ c.args.place c.in-Some.block (id_in c.in-Some.block) f.name
    (memory_of c.args.index.now) c.requires.placed c.requires.tied next f.eight f.key f.long
    (rw c.in-Some.is at e.stands) c.requires.told)

pub returns-clause-told : goal.returns-clause-told
returns-clause-told g c =
    let e = c.in_ok-block.ensures in
    let next = rw c.in-Some.is at e.live in
    let holds : is_name_key (key_of c.in-Some.block) ≡ true = search rules in
    let f = next_name among_names _ c.args.place c.in-Some.block _ c.requires.placed c.requires.told
    (rw c.in-Some.is at e.whole) next holds in
    turn_name _ c.args.place c.in-Some.block (id_in c.in-Some.block) f.name (memory_of c.args.index.now)
    c.requires.placed c.requires.tied next f.eight f.key f.long (rw c.in-Some.is at e.stands) c.requires.told
    (memory_of c.add_name.new.self)
    (rw (c.read_id-dir.ensures, c.read_child-child.ensures) at c.in_ok-add_name.ensures)
