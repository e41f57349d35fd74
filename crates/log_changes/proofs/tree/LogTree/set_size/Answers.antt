use Rattle.std.proofs.Common.{◌∙◌, ◌+◌, ◌-◌, ◌≤◌, ℕ, length, sym, subst, arith}
use Rattle.server_trait.specs.Tree.{bytes_at, used}
use Rattle.server_trait.proofs.TreeLaws.{some_and}
use Rattle.log_segments.specs.Segments.{records}
use Rattle.log_tree.specs.Held.{handle_of}
use Rattle.log_store.specs.Store.{live_in, medium_of}
use Rattle.log_held.specs.Room.{IsLarge}
use Rattle.log_index.specs.Memory.{memory_of}
use Rattle.log_changes.specs.Kept.{log_tree}
use Rattle.log_changes.proofs.BytesLaws.{sized, size_done}
use Rattle.log_changes.proofs.RoomLaws.{has_room, has_room_after}
use Rattle.log_changes.proofs.tree.LogTree.set_size.Goals as goal

pub resize_bytes-requires-clause-room : goal.resize_bytes-requires-clause-room
resize_bytes-requires-clause-room g c =
    let t = c.args.self.now in
    let m = medium_of t.store in
    let blocks = g.M.Medium.size m in
    let room = has_room t.limits (records (g.M.Medium.content m) blocks) blocks c.requires.kept.sound
    c.requires.kept.large in
    omega arith

pub resize_bytes-requires-clause-room_after : goal.resize_bytes-requires-clause-room_after
resize_bytes-requires-clause-room_after g c =
    let t = c.args.self.now in
    let a = c.args in
    let m = medium_of t.store in
    let blocks = g.M.Medium.size m in
    let live = live_in g.M.Medium.content g.M.Medium.size t.store in
    let tree = log_tree g.M.Medium.content g.M.Medium.size t in
    let b = some_and (bytes_at tree (handle_of a.id.now)) (λ b. (used tree - length b) + a.size ≤ t.limits.bytes)
    c.requires.room in
    let z = sized t.limits live a.id.now b.0 (memory_of t.index) c.in-Some.info c.requires.kept.sound
    c.requires.kept.indexed c.told-id b.1 (sym c.in-Some.is ∙ c.get.ensures) in
    let size = z.size_is in
    let fits : (used tree - c.in-Some.info.size) + a.size ≤ t.limits.bytes =
    subst (λ (n : ℕ). (used tree - n) + a.size ≤ t.limits.bytes) (sym size) b.2 in
    let room = has_room_after t.limits (records (g.M.Medium.content m) blocks) blocks c.in-Some.info.size a.size
    c.requires.kept.sound c.requires.kept.large fits in
    omega arith

pub resize_bytes-requires-clause-chunked : goal.resize_bytes-requires-clause-chunked
resize_bytes-requires-clause-chunked g c =
    let t = c.args.self.now in
    let a = c.args in
    let live = live_in g.M.Medium.content g.M.Medium.size t.store in
    let tree = log_tree g.M.Medium.content g.M.Medium.size t in
    let b = some_and (bytes_at tree (handle_of a.id.now)) (λ b. (used tree - length b) + a.size ≤ t.limits.bytes)
    c.requires.room in
    (sized t.limits live a.id.now b.0 (memory_of t.index) c.in-Some.info c.requires.kept.sound c.requires.kept.indexed
    c.told-id b.1 (sym c.in-Some.is ∙ c.get.ensures)).chunked

pub returns-clause-sized : goal.returns-clause-sized
returns-clause-sized g c =
    let t = c.args.self.now in
    let a = c.args in
    let live = live_in g.M.Medium.content g.M.Medium.size in
    let tree = log_tree g.M.Medium.content g.M.Medium.size t in
    let b = some_and (bytes_at tree (handle_of a.id.now)) (λ b. (used tree - length b) + a.size ≤ t.limits.bytes)
    c.requires.room in
    (size_done t.limits (live t.store) (live c.resize_bytes.new.store) a.id.now b.0 (memory_of t.index)
    (memory_of c.resize.new.self) c.in-Some.info a.size c.requires.kept.sound c.requires.kept.indexed c.told-id b.1
    (sym c.in-Some.is ∙ c.get.ensures) b.2 c.in_ok-resize_bytes.ensures.resized c.in_ok-resize.ensures).tree

pub returns-clause-kept : goal.returns-clause-kept
returns-clause-kept g c =
    let t = c.args.self.now in
    let a = c.args in
    let live = live_in g.M.Medium.content g.M.Medium.size in
    let tree = log_tree g.M.Medium.content g.M.Medium.size t in
    let b = some_and (bytes_at tree (handle_of a.id.now)) (λ b. (used tree - length b) + a.size ≤ t.limits.bytes)
    c.requires.room in
    let done = size_done t.limits (live t.store) (live c.resize_bytes.new.store) a.id.now b.0 (memory_of t.index)
    (memory_of c.resize.new.self) c.in-Some.info a.size c.requires.kept.sound c.requires.kept.indexed c.told-id b.1
    (sym c.in-Some.is ∙ c.get.ensures) b.2 c.in_ok-resize_bytes.ensures.resized c.in_ok-resize.ensures in
    let works = c.in_ok-resize_bytes.ensures.works in
    record {
      store = works.store;
      sound = done.sound;
      indexed = done.indexed;
      large = subst (IsLarge t.limits) (sym works.size_is) c.requires.kept.large;
    }
