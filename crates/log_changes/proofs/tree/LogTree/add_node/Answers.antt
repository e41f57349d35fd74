use Rattle.std.proofs.Common.{◌∙◌, sym, ap, subst, arith}
use Rattle.log_segments.specs.Segments.{half_size, records}
use Rattle.log_tree.specs.Held.{root_id}
use Rattle.log_store.specs.Store.{live_in, medium_of}
use Rattle.log_held.specs.Room.{IsLarge}
use Rattle.log_index.specs.Memory.{memory_of}
use Rattle.log_changes.proofs.ButLaws.{fresh_chunks, not_root}
use Rattle.log_changes.proofs.NodeComes.{tree_comes, comes_sound, comes_indexed, unlinked_made}
use Rattle.log_changes.proofs.RoomLaws.{has_room}
use Rattle.log_changes.proofs.tree.LogTree.add_node.Goals as goal

pub put_text-requires-clause-room : goal.put_text-requires-clause-room
put_text-requires-clause-room g c =
    let t = c.args.self.now in
    let m = medium_of t.store in
    let blocks = g.M.Medium.size m in
    let room = has_room t.limits (records (g.M.Medium.content m) blocks) blocks c.requires.kept.sound c.requires.kept.large in
    omega arith

pub put_text-requires-clause-chunked : goal.put_text-requires-clause-chunked
put_text-requires-clause-chunked g c =
    fresh_chunks (live_in g.M.Medium.content g.M.Medium.size c.args.self.now.store) c.fresh_id-id.result
    c.requires.kept.sound.placed c.fresh_id-id.ensures.long c.fresh_id-id.ensures.absent

pub put_node-requires-clause-room : goal.put_node-requires-clause-room
put_node-requires-clause-room g c =
    let t = c.args.self.now in
    let m = medium_of t.store in
    let blocks = g.M.Medium.size m in
    let room = has_room t.limits (records (g.M.Medium.content m) blocks) blocks c.requires.kept.sound c.requires.kept.large in
    let few = c.in_ok-put_text.ensures.put.few in
    let short = c.requires.text in
    let half = ap half_size c.in_ok-put_text.ensures.works.size_is in
    omega arith

pub returns-clause-made : goal.returns-clause-made
returns-clause-made g c =
    let t = c.args.self.now in
    let a = c.args in
    let live = live_in g.M.Medium.content g.M.Medium.size in
    let id = c.fresh_id-id.result in
    let p = c.in_ok-put_text.ensures.put in
    let e = c.in_ok-put_node.ensures in
    record {
      absent = c.fresh_id-id.ensures.absent;
      number = c.fresh_id-id.ensures.number;
      not_root = not_root (live t.store) id c.requires.kept.sound c.fresh_id-id.ensures.long c.fresh_id-id.ensures.absent;
      tree = tree_comes t.limits (live t.store) (live c.put_text.new.store) (live c.put_node.new.self) id a.text.now root_id
          a.kind c.requires.kept.sound c.fresh_id-id.ensures.long c.fresh_id-id.ensures.absent c.requires.plain p.others p.alone p.chunked
          p.bytes_are e.puts e.here e.others c.requires.nodes c.requires.room;
      unlinked = unlinked_made t.limits (live t.store) (live c.put_text.new.store) (live c.put_node.new.self) id a.text.now
          root_id a.kind c.requires.kept.sound c.fresh_id-id.ensures.long c.fresh_id-id.ensures.absent c.requires.plain p.others p.alone
          p.chunked p.bytes_are e.puts e.here e.others c.requires.nodes c.requires.room;
    }

pub returns-clause-kept : goal.returns-clause-kept
returns-clause-kept g c =
    let t = c.args.self.now in
    let a = c.args in
    let live = live_in g.M.Medium.content g.M.Medium.size in
    let id = c.fresh_id-id.result in
    let p = c.in_ok-put_text.ensures.put in
    let e = c.in_ok-put_node.ensures in
    record {
      store = e.writes.store;
      sound = comes_sound t.limits (live t.store) (live c.put_text.new.store) (live c.put_node.new.self) id a.text.now root_id
          a.kind c.requires.kept.sound c.fresh_id-id.ensures.long c.fresh_id-id.ensures.absent c.requires.plain p.others p.alone p.chunked
          p.bytes_are e.puts e.here e.others c.requires.nodes c.requires.room;
      indexed = comes_indexed t.limits (live t.store) (live c.put_text.new.store) (live c.put_node.new.self) id a.text.now
          root_id a.kind c.requires.kept.sound c.fresh_id-id.ensures.long c.fresh_id-id.ensures.absent c.requires.plain p.others p.alone
          p.chunked p.bytes_are e.puts e.here e.others c.requires.nodes c.requires.room (memory_of t.index)
          (memory_of c.add_node.new.self) c.requires.kept.indexed c.in_ok-add_node.ensures;
      large = subst (IsLarge t.limits) (sym (e.writes.size_is ∙ c.in_ok-put_text.ensures.works.size_is))
          c.requires.kept.large;
    }
