use Rattle.std.proofs.Common.{◌≡◌, ◌≤◌, ◌∙◌, ◌+◌, ◌-◌, ℕ, List, length, take, drop, arith, ap}
use Rattle.std.proofs.lemmas.List.{take_all, length-drop, length-take-le}
use Rattle.std.specs.Option.{option_map}
use Rattle.nfs2_types.specs.Bytes.{overwritten}
use Rattle.inode_store.specs.Files.{with_bytes}
use Rattle.inode_store.specs.Inodes.{file_at}
use Rattle.inode_slots.proofs.ChangeLaws.{becomes_twice, becomes_same, long_enough}
use Rattle.inode_slots.proofs.OverwriteLaws.{overwritten-twice}
use Rattle.inode_slots.proofs.slots.put_slot.Goals as goal

pub returns-then-count-eq288-clause-file : goal.returns-then-count-eq288-clause-file
returns-then-count-eq288-clause-file g c =
    let s = c.args.store.now in
    let all : take c.in_ok-count.count c.args.bytes.now ≡ c.args.bytes.now =
    take_all c.in_ok-count.count c.args.bytes.now (omega arith) in
    becomes_same c.write.new.self.area c.write.new.self.inodes _ c.args.dir _ _ _ _ _ c.in_ok-count.ensures.file
    (ap (λ (p : List ℕ). option_map (with_bytes (overwritten c.args.offset p))
    (file_at s.area (g.M.Medium.content s.medium) c.args.dir)) all)

pub write-requires-2-clause-inside : goal.write-requires-2-clause-inside
write-requires-2-clause-inside g c f is =
    let s = c.args.store.now in
    let count = c.in_ok-count.count in
    let long = long_enough (file_at s.area (g.M.Medium.content s.medium) c.args.dir)
    (file_at c.write.new.self.area (g.M.Medium.content c.write.new.self.medium) c.args.dir) c.args.offset
    (take count c.args.bytes.now) c.in_ok-count.ensures.file.changes.here c.requires.inside f is in
    let part = length-take-le count c.args.bytes.now (omega (arith, c.in_ok-count.ensures.count)) in
    omega (arith, long, part)

pub returns-clause-file : goal.returns-clause-file
returns-clause-file g c =
    let s = c.args.store.now in
    let t = c.write.new.self in
    let u = c.write-2.new.self in
    let offset = c.args.offset in
    let count = c.in_ok-count.count in
    let bytes = c.args.bytes.now in
    let most : count ≤ length bytes = omega (arith, c.in_ok-count.ensures.count) in
    let rest = length-drop count bytes in
    let piece = take (length bytes - count) (drop count bytes) in
    let whole : piece ≡ drop count bytes = take_all (length bytes - count) (drop count bytes) (omega (arith, rest)) in
    let size = ap length whole in
    let last = c.in_ok-write.field-0 in
    let all : take last piece ≡ drop count bytes =
    take_all last piece (omega (arith, c.in_ok-write.ensures.count, c.in_ok-count.ensures.count, size, rest)) ∙ whole in
    becomes_twice s.area t.area u.area t.inodes u.inodes (g.M.Medium.size t.medium) (g.M.Medium.size u.medium) c.args.dir
    (overwritten offset (take count bytes)) (overwritten (offset + count) (drop count bytes)) (overwritten offset bytes)
    (g.M.Medium.content s.medium) (g.M.Medium.content t.medium) (g.M.Medium.content u.medium) t.map u.map
    c.in_ok-count.ensures.file
    (becomes_same u.area u.inodes (g.M.Medium.size u.medium) c.args.dir _ _ (g.M.Medium.content t.medium)
    (g.M.Medium.content u.medium) u.map c.in_ok-write.ensures.file
    (ap (λ (p : List ℕ). option_map (with_bytes (overwritten (offset + count) p))
    (file_at t.area (g.M.Medium.content t.medium) c.args.dir)) all))
    c.in_ok-write.ensures.area c.in_ok-write.ensures.inodes
    (λ x is. overwritten-twice offset count bytes x.bytes (c.requires.inside x is) most)
