use Rattle.std.proofs.Common.{◌≡◌, None, sym, subst, arith}
use Rattle.std.specs.FinMap.{get}
use Rattle.server_trait.specs.Tree.{names_at, node_at}
use Rattle.server_trait.proofs.SoftLaws.{some_of}
use Rattle.server_trait.proofs.TreeLaws.{some_and}
use Rattle.log_segments.specs.Segments.{records}
use Rattle.log_tree.specs.Held.{handle_of}
use Rattle.log_store.specs.Store.{live_in, medium_of}
use Rattle.log_index.specs.Memory.{memory_of}
use Rattle.log_held.specs.Room.{IsLarge}
use Rattle.log_changes.specs.Kept.{log_tree}
use Rattle.log_changes.proofs.DirLaws.{dir_of, free_dir, kept_there}
use Rattle.log_changes.proofs.NameChanges.{name_comes}
use Rattle.log_changes.proofs.RoomLaws.{has_room_placed}
use Rattle.log_changes.proofs.tree.LogTree.add_name.Goals as goal

pub put_name-requires-clause-room : goal.put_name-requires-clause-room
put_name-requires-clause-room g c =
    let t = c.args.self.now in
    let m = medium_of t.store in
    let blocks = g.M.Medium.size m in
    let s = c.requires.kept.sound in
    let room = has_room_placed t.limits (records (g.M.Medium.content m) blocks) blocks s.placed s.few_nodes s.few_bytes
    c.requires.kept.large in
    omega arith

pub add_name-requires-clause-dir : goal.add_name-requires-clause-dir
add_name-requires-clause-dir g c =
    let t = c.args.self.now in
    let tree = log_tree g.M.Medium.content g.M.Medium.size t in
    let m = some_and (names_at tree (handle_of c.args.dir.now)) (λ m. get m c.args.name.now ≡ None) c.requires.new in
    let d = dir_of tree (handle_of c.args.dir.now) m.0 m.1 in
    kept_there tree (memory_of t.index) c.args.dir.now d.node c.requires.kept.indexed c.told-dir d.is_node

pub add_name-requires-clause-child : goal.add_name-requires-clause-child
add_name-requires-clause-child g c =
    let t = c.args.self.now in
    let tree = log_tree g.M.Medium.content g.M.Medium.size t in
    let n = some_of (node_at tree (handle_of c.args.child.now)) c.requires.there in
    kept_there tree (memory_of t.index) c.args.child.now n.0 c.requires.kept.indexed c.told-child n.1

pub returns-clause-kept : goal.returns-clause-kept
returns-clause-kept g c =
    let t = c.args.self.now in
    let a = c.args in
    let live = live_in g.M.Medium.content g.M.Medium.size in
    let tree = log_tree g.M.Medium.content g.M.Medium.size t in
    let m = some_and (names_at tree (handle_of a.dir.now)) (λ m. get m a.name.now ≡ None) c.requires.new in
    let d = dir_of tree (handle_of a.dir.now) m.0 m.1 in
    let n = some_of (node_at tree (handle_of a.child.now)) c.requires.there in
    let e = c.in_ok-put_name.ensures in
    let done = name_comes t.limits (live t.store) (live c.put_name.new.self) a.dir.now a.child.now a.name.now d.node n.0 m.0
    (memory_of t.index) (memory_of c.add_name.new.self) c.requires.kept.sound c.requires.kept.indexed c.told-dir
    c.told-child c.requires.short d.is_node d.has m.2 n.1 (free_dir tree a.child.now n.0 n.1 c.requires.free)
    c.requires.room e.named e.others c.in_ok-add_name.ensures in
    record {
      store = e.writes.store;
      sound = done.sound;
      indexed = done.indexed;
      large = subst (IsLarge t.limits) (sym e.writes.size_is) c.requires.kept.large;
    }
