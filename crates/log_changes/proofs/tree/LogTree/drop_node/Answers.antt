use Rattle.std.proofs.Common.{◌∙◌, sym, ap, subst, arith}
use Rattle.server_trait.specs.Tree.{node_at}
use Rattle.server_trait.proofs.SoftLaws.{some_of}
use Rattle.log_segments.specs.Segments.{half_size, records}
use Rattle.log_tree.specs.Held.{handle_of}
use Rattle.log_store.specs.Store.{live_in, medium_of}
use Rattle.log_files.specs.Chunked.{IsChunked}
use Rattle.log_held.specs.Room.{IsLarge}
use Rattle.log_index.specs.Memory.{memory_of}
use Rattle.log_changes.specs.Kept.{log_tree}
use Rattle.log_changes.proofs.DirLaws.{bare_dir}
use Rattle.log_changes.proofs.KeptLaws.{are_kept, info_of}
use Rattle.log_changes.proofs.NodeGoes.{tree_goes, goes_sound, goes_indexed}
use Rattle.log_changes.proofs.RoomLaws.{has_room_placed}
use Rattle.log_changes.proofs.tree.LogTree.drop_node.Goals as goal

pub resize_bytes-requires-clause-room : goal.resize_bytes-requires-clause-room
resize_bytes-requires-clause-room g c =
    let t = c.args.self.now in
    let m = medium_of t.store in
    let blocks = g.M.Medium.size m in
    let s = c.requires.kept.sound in
    let room = has_room_placed t.limits (records (g.M.Medium.content m) blocks) blocks s.placed s.few_nodes s.few_bytes
    c.requires.kept.large in
    omega arith

pub resize_bytes-requires-clause-room_after : goal.resize_bytes-requires-clause-room_after
resize_bytes-requires-clause-room_after g c =
    let t = c.args.self.now in
    let m = medium_of t.store in
    let blocks = g.M.Medium.size m in
    let s = c.requires.kept.sound in
    let room = has_room_placed t.limits (records (g.M.Medium.content m) blocks) blocks s.placed s.few_nodes s.few_bytes
    c.requires.kept.large in
    omega arith

pub resize_bytes-requires-clause-chunked : goal.resize_bytes-requires-clause-chunked
resize_bytes-requires-clause-chunked g c =
    let t = c.args.self.now in
    let live = live_in g.M.Medium.content g.M.Medium.size t.store in
    let tree = log_tree g.M.Medium.content g.M.Medium.size t in
    let id = c.args.id.now in
    let n = some_of (node_at tree (handle_of id)) c.requires.there in
    let says = info_of tree id n.0 (memory_of t.index) c.in-Some.info c.requires.kept.indexed c.told-id n.1
    (sym c.in-Some.is ∙ c.get.ensures) in
    let kept = are_kept live id n.0 c.in-Some.info c.requires.kept.sound.placed c.told-id n.1 says
    (bare_dir tree (handle_of id) n.0 n.1 c.requires.bare) in
    subst (IsChunked live id) (sym c.bytes_kept-bytes.ensures) kept.chunked

pub drop_node-requires-clause-room : goal.drop_node-requires-clause-room
drop_node-requires-clause-room g c =
    let t = c.args.self.now in
    let m = medium_of t.store in
    let blocks = g.M.Medium.size m in
    let s = c.requires.kept.sound in
    let room = has_room_placed t.limits (records (g.M.Medium.content m) blocks) blocks s.placed s.few_nodes s.few_bytes
    c.requires.kept.large in
    let few = c.in_ok-resize_bytes.ensures.resized.few in
    let half = ap half_size c.in_ok-resize_bytes.ensures.works.size_is in
    omega arith

pub returns-clause-gone : goal.returns-clause-gone
returns-clause-gone g c =
    let t = c.args.self.now in
    let live = live_in g.M.Medium.content g.M.Medium.size in
    let tree = log_tree g.M.Medium.content g.M.Medium.size t in
    let id = c.args.id.now in
    let n = some_of (node_at tree (handle_of id)) c.requires.there in
    let r = c.in_ok-resize_bytes.ensures.resized in
    let e = c.in_ok-drop_node.ensures in
    tree_goes t.limits (live t.store) (live c.resize_bytes.new.store) (live c.drop_node.new.self) id n.0 c.requires.kept.sound
    c.told-id n.1 c.requires.unlinked (bare_dir tree (handle_of id) n.0 n.1 c.requires.bare) c.requires.apart r.others
    r.chunked e.gone e.none e.others

pub returns-clause-kept : goal.returns-clause-kept
returns-clause-kept g c =
    let t = c.args.self.now in
    let live = live_in g.M.Medium.content g.M.Medium.size in
    let tree = log_tree g.M.Medium.content g.M.Medium.size t in
    let id = c.args.id.now in
    let n = some_of (node_at tree (handle_of id)) c.requires.there in
    let bare = bare_dir tree (handle_of id) n.0 n.1 c.requires.bare in
    let says = info_of tree id n.0 (memory_of t.index) c.in-Some.info c.requires.kept.indexed c.told-id n.1
    (sym c.in-Some.is ∙ c.get.ensures) in
    let kept = are_kept (live t.store) id n.0 c.in-Some.info c.requires.kept.sound.placed c.told-id n.1 says bare in
    let r = c.in_ok-resize_bytes.ensures.resized in
    let e = c.in_ok-drop_node.ensures in
    record {
      store = e.writes.store;
      sound = goes_sound t.limits (live t.store) (live c.resize_bytes.new.store) (live c.drop_node.new.self) id n.0
          c.requires.kept.sound c.told-id n.1 c.requires.unlinked bare c.requires.apart r.others r.chunked e.gone e.none
          e.others;
      indexed = goes_indexed t.limits (live t.store) (live c.resize_bytes.new.store) (live c.drop_node.new.self) id n.0
          c.requires.kept.sound c.told-id n.1 c.requires.unlinked bare c.requires.apart r.others r.chunked e.gone e.none
          e.others (memory_of t.index) (memory_of c.drop_node-2.new.self) c.bytes_kept-bytes.result
          c.requires.kept.indexed (c.bytes_kept-bytes.ensures ∙ kept.uses) c.drop_node-2.ensures;
      large = subst (IsLarge t.limits) (sym (e.writes.size_is ∙ c.in_ok-resize_bytes.ensures.works.size_is))
          c.requires.kept.large;
    }
