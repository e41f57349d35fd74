use Rattle.std.proofs.Common.{sym, subst, arith}
use Rattle.log_segments.specs.Segments.{records}
use Rattle.log_tree.specs.Held.{handle_of}
use Rattle.log_store.specs.Store.{live_in, medium_of}
use Rattle.log_index.specs.Memory.{memory_of}
use Rattle.log_held.specs.Room.{IsLarge}
use Rattle.log_changes.specs.Kept.{log_tree}
use Rattle.log_changes.proofs.DirLaws.{kept_there, target_of}
use Rattle.log_changes.proofs.NameChanges.{name_goes}
use Rattle.log_changes.proofs.RoomLaws.{has_room}
use Rattle.log_changes.proofs.tree.LogTree.drop_name.Goals as goal

pub drop_name-requires-clause-room : goal.drop_name-requires-clause-room
drop_name-requires-clause-room g c =
    let t = c.args.self.now in
    let m = medium_of t.store in
    let blocks = g.M.Medium.size m in
    let room = has_room t.limits (records (g.M.Medium.content m) blocks) blocks c.requires.kept.sound c.requires.kept.large in
    omega arith

pub drop_name-requires-2-clause-dir : goal.drop_name-requires-2-clause-dir
drop_name-requires-2-clause-dir g c =
    let t = c.args.self.now in
    let tree = log_tree g.M.Medium.content g.M.Medium.size t in
    let f = target_of t.limits (live_in g.M.Medium.content g.M.Medium.size t.store) (handle_of c.args.dir.now)
    c.args.name.now (handle_of c.args.child.now) c.requires.kept.sound c.requires.leads in
    kept_there tree (memory_of t.index) c.args.dir.now f.dir c.requires.kept.indexed c.told-dir f.is_dir

pub drop_name-requires-2-clause-child : goal.drop_name-requires-2-clause-child
drop_name-requires-2-clause-child g c =
    let t = c.args.self.now in
    let tree = log_tree g.M.Medium.content g.M.Medium.size t in
    let f = target_of t.limits (live_in g.M.Medium.content g.M.Medium.size t.store) (handle_of c.args.dir.now)
    c.args.name.now (handle_of c.args.child.now) c.requires.kept.sound c.requires.leads in
    kept_there tree (memory_of t.index) c.args.child.now f.child c.requires.kept.indexed c.told-child f.is_child

pub returns-clause-kept : goal.returns-clause-kept
returns-clause-kept g c =
    let t = c.args.self.now in
    let a = c.args in
    let live = live_in g.M.Medium.content g.M.Medium.size in
    let f = target_of t.limits (live t.store) (handle_of a.dir.now) a.name.now (handle_of a.child.now)
    c.requires.kept.sound c.requires.leads in
    let e = c.in_ok-drop_name.ensures in
    let done = name_goes t.limits (live t.store) (live c.drop_name.new.self) a.dir.now a.child.now a.name.now f.dir f.child
    f.names (memory_of t.index) (memory_of c.drop_name-2.new.self) c.requires.kept.sound c.requires.kept.indexed c.told-dir
    c.told-child c.requires.short f.is_dir f.has f.leads f.is_child e.unnamed e.others c.in_ok-drop_name-2.ensures in
    record {
      store = e.writes.store;
      sound = done.sound;
      indexed = done.indexed;
      large = subst (IsLarge t.limits) (sym e.writes.size_is) c.requires.kept.large;
    }
