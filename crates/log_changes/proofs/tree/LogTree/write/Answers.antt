use Rattle.std.proofs.Common.{◌≡◌, ◌∙◌, ◌+◌, ◌-◌, ◌≤◌, ℕ, List, length, sym, subst, arith}
use Rattle.std.specs.Prelude.{max}
use Rattle.server_trait.specs.Tree.{bytes_at, used}
use Rattle.server_trait.proofs.TreeLaws.{some_and, some_same}
use Rattle.log_segments.specs.Segments.{records}
use Rattle.log_tree.specs.Held.{handle_of}
use Rattle.log_store.specs.Store.{live_in, medium_of}
use Rattle.log_held.specs.Room.{IsLarge}
use Rattle.log_index.specs.Memory.{memory_of}
use Rattle.log_index.specs.Changes.{ResizesNode}
use Rattle.log_changes.specs.Kept.{log_tree}
use Rattle.log_changes.proofs.BytesLaws.{sized, write_done}
use Rattle.log_changes.proofs.RoomLaws.{has_room}
use Rattle.log_changes.proofs.tree.LogTree.write.Goals as goal

pub write_bytes-requires-clause-room : goal.write_bytes-requires-clause-room
write_bytes-requires-clause-room g c =
    let t = c.args.self.now in
    let m = medium_of t.store in
    let blocks = g.M.Medium.size m in
    let room = has_room t.limits (records (g.M.Medium.content m) blocks) blocks c.requires.kept.sound
    c.requires.kept.large in
    omega arith

pub write_bytes-requires-clause-chunked : goal.write_bytes-requires-clause-chunked
write_bytes-requires-clause-chunked g c =
    let t = c.args.self.now in
    let a = c.args in
    let live = live_in g.M.Medium.content g.M.Medium.size t.store in
    let tree = log_tree g.M.Medium.content g.M.Medium.size t in
    let b = some_and (bytes_at tree (handle_of a.id.now)) (λ b. a.offset ≤ length b) c.requires.among in
    (sized t.limits live a.id.now b.0 (memory_of t.index) c.in-Some.info c.requires.kept.sound c.requires.kept.indexed
    c.told-id b.1 (sym c.in-Some.is ∙ c.get.ensures)).chunked

pub write_bytes-requires-clause-among : goal.write_bytes-requires-clause-among
write_bytes-requires-clause-among g c =
    let t = c.args.self.now in
    let a = c.args in
    let live = live_in g.M.Medium.content g.M.Medium.size t.store in
    let tree = log_tree g.M.Medium.content g.M.Medium.size t in
    let b = some_and (bytes_at tree (handle_of a.id.now)) (λ b. a.offset ≤ length b) c.requires.among in
    let z = sized t.limits live a.id.now b.0 (memory_of t.index) c.in-Some.info c.requires.kept.sound
    c.requires.kept.indexed c.told-id b.1 (sym c.in-Some.is ∙ c.get.ensures) in
    let size = z.size_is in
    let among = b.2 in
    omega arith

pub returns-clause-wrote : goal.returns-clause-wrote
returns-clause-wrote g c =
    let t = c.args.self.now in
    let a = c.args in
    let live = live_in g.M.Medium.content g.M.Medium.size in
    let tree = log_tree g.M.Medium.content g.M.Medium.size t in
    let file = bytes_at tree (handle_of a.id.now) in
    let b = some_and file (λ b. a.offset ≤ length b) c.requires.among in
    let r = some_and file (λ b. (used tree - length b) + max (length b) (a.offset + length a.piece.now) ≤ t.limits.bytes)
    c.requires.room in
    let fits : (used tree - length b.0) + max (length b.0) (a.offset + length a.piece.now) ≤ t.limits.bytes =
    subst (λ (l : List ℕ). (used tree - length l) + max (length l) (a.offset + length a.piece.now) ≤ t.limits.bytes)
    (some_same r.1 b.1) r.2 in
    let size : c.max-size.result ≡ max c.in-Some.info.size (a.offset + c.in_ok-count.count) = c.max-size.ensures in
    let sets : ResizesNode (memory_of t.index) a.id.now (max c.in-Some.info.size (a.offset + c.in_ok-count.count))
    (memory_of c.resize.new.self) =
    subst (λ (n : ℕ). ResizesNode (memory_of t.index) a.id.now n (memory_of c.resize.new.self)) size
    c.in_ok-resize.ensures in
    (write_done t.limits (live t.store) (live c.write_bytes.new.store) a.id.now b.0 (memory_of t.index)
    (memory_of c.resize.new.self) c.in-Some.info a.offset c.in_ok-count.count a.piece.now c.requires.kept.sound
    c.requires.kept.indexed c.told-id b.1 (sym c.in-Some.is ∙ c.get.ensures) b.2 fits
    c.in_ok-count.ensures.wrote sets).wrote

pub returns-clause-kept : goal.returns-clause-kept
returns-clause-kept g c =
    let t = c.args.self.now in
    let a = c.args in
    let live = live_in g.M.Medium.content g.M.Medium.size in
    let tree = log_tree g.M.Medium.content g.M.Medium.size t in
    let file = bytes_at tree (handle_of a.id.now) in
    let b = some_and file (λ b. a.offset ≤ length b) c.requires.among in
    let r = some_and file (λ b. (used tree - length b) + max (length b) (a.offset + length a.piece.now) ≤ t.limits.bytes)
    c.requires.room in
    let fits : (used tree - length b.0) + max (length b.0) (a.offset + length a.piece.now) ≤ t.limits.bytes =
    subst (λ (l : List ℕ). (used tree - length l) + max (length l) (a.offset + length a.piece.now) ≤ t.limits.bytes)
    (some_same r.1 b.1) r.2 in
    let size : c.max-size.result ≡ max c.in-Some.info.size (a.offset + c.in_ok-count.count) = c.max-size.ensures in
    let sets : ResizesNode (memory_of t.index) a.id.now (max c.in-Some.info.size (a.offset + c.in_ok-count.count))
    (memory_of c.resize.new.self) =
    subst (λ (n : ℕ). ResizesNode (memory_of t.index) a.id.now n (memory_of c.resize.new.self)) size
    c.in_ok-resize.ensures in
    let done = write_done t.limits (live t.store) (live c.write_bytes.new.store) a.id.now b.0 (memory_of t.index)
    (memory_of c.resize.new.self) c.in-Some.info a.offset c.in_ok-count.count a.piece.now c.requires.kept.sound
    c.requires.kept.indexed c.told-id b.1 (sym c.in-Some.is ∙ c.get.ensures) b.2 fits
    c.in_ok-count.ensures.wrote sets in
    let writes = c.in_ok-count.ensures.writes in
    record {
      store = writes.store;
      sound = done.sound;
      indexed = done.indexed;
      large = subst (IsLarge t.limits) (sym writes.size_is) c.requires.kept.large;
    }
