use Rattle.std.proofs.Common.{◌∙◌, sym, subst, arith}
use Rattle.log_segments.specs.Segments.{records}
use Rattle.log_store.specs.Store.{live_in, medium_of}
use Rattle.log_index.specs.Memory.{memory_of}
use Rattle.log_held.specs.Room.{IsLarge}
use Rattle.log_changes.proofs.AttrLaws.{attrs_set}
use Rattle.log_changes.proofs.RoomLaws.{has_room}
use Rattle.log_changes.proofs.tree.LogTree.set_attr.Goals as goal

pub put_node-requires-clause-room : goal.put_node-requires-clause-room
put_node-requires-clause-room g c =
    let t = c.args.self.now in
    let m = medium_of t.store in
    let blocks = g.M.Medium.size m in
    let room = has_room t.limits (records (g.M.Medium.content m) blocks) blocks c.requires.kept.sound c.requires.kept.large in
    omega arith

pub returns-clause-set : goal.returns-clause-set
returns-clause-set g c =
    let a = c.args in
    let live = live_in g.M.Medium.content g.M.Medium.size in
    let e = c.in_ok-put_node.ensures in
    (attrs_set a.self.now.limits (live a.self.now.store) (live c.put_node.new.self) a.id.now (memory_of a.self.now.index)
    (memory_of c.set_attr.new.self) c.in-Some.info a.mode a.uid a.gid c.requires.kept.sound c.requires.kept.indexed
    c.told-id c.requires.there (sym c.in-Some.is ∙ c.get.ensures) e.puts e.here e.others c.in_ok-set_attr.ensures).tree

pub returns-clause-kept : goal.returns-clause-kept
returns-clause-kept g c =
    let a = c.args in
    let live = live_in g.M.Medium.content g.M.Medium.size in
    let e = c.in_ok-put_node.ensures in
    let done = attrs_set a.self.now.limits (live a.self.now.store) (live c.put_node.new.self) a.id.now
    (memory_of a.self.now.index) (memory_of c.set_attr.new.self) c.in-Some.info a.mode a.uid a.gid
    c.requires.kept.sound c.requires.kept.indexed c.told-id c.requires.there (sym c.in-Some.is ∙ c.get.ensures)
    e.puts e.here e.others c.in_ok-set_attr.ensures in
    record {
      store = e.writes.store;
      sound = done.sound;
      indexed = done.indexed;
      large = subst (IsLarge a.self.now.limits) (sym e.writes.size_is) c.requires.kept.large;
    }
