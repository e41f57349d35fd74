use Rattle.std.proofs.Common.{◌≡◌, ◌-◌, ◌*◌, ◌∙◌, ℕ, List, length, Some, arith, ap, sym}
use Rattle.nfs2_types.specs.Bytes.{resized, overwritten}
use Rattle.inode_dirs.specs.Files.{slots_at}
use Rattle.inode_dirs.specs.SlotBytes.{slot_in}
use Rattle.inode_store.specs.Inodes.{file_at}
use Rattle.inode_slots.specs.Directory.{without_slot}
use Rattle.inode_slots.proofs.ChangeLaws.{becomes_from, becomes_twice, file_on, slot_of, slot_end, slots_less, slots_end, last_slot}
use Rattle.inode_slots.proofs.slots.drop_slot.Goals as goal
use Rattle.inode_slots.proofs.slots.drop_slot.Goals.{After-drop-bytes-2}
use Rattle.inode_slots.proofs.slots.drop_slot.Given.{Over}

pub overflow_mul-slot : goal.overflow_mul-slot
overflow_mul-slot g c =
    let s = c.args.store.now in
    let end = slot_end s.area s.inodes (g.M.Medium.size s.medium) c.args.dir (g.M.Medium.content s.medium) s.map
    c.requires.kept c.requires.within c.args.slot c.requires.there in
    omega (arith, end)

pub put_slot-requires-clause-end : goal.put_slot-requires-clause-end
put_slot-requires-clause-end g c =
    let s = c.args.store.now in
    slot_end s.area s.inodes (g.M.Medium.size s.medium) c.args.dir (g.M.Medium.content s.medium) s.map
    c.requires.kept c.requires.within c.args.slot c.requires.there

pub overflow_mul-rest : goal.overflow_mul-rest
overflow_mul-rest g c =
    let s = c.args.store.now in
    let rest = c.in_ok-rest.field-0 - 1 in
    let end = slot_end s.area s.inodes (g.M.Medium.size s.medium) c.args.dir (g.M.Medium.content s.medium) s.map
    c.requires.kept c.requires.within rest (omega (arith, c.requires.there, c.in_ok-rest.ensures.count)) in
    omega (arith, end)

pub set_size-requires-clause-end : goal.set_size-requires-clause-end
set_size-requires-clause-end g c =
    let s = c.args.store.now in
    let rest = c.in_ok-rest.field-0 - 1 in
    let end = slot_end s.area s.inodes (g.M.Medium.size s.medium) c.args.dir (g.M.Medium.content s.medium) s.map
    c.requires.kept c.requires.within rest (omega (arith, c.requires.there, c.in_ok-rest.ensures.count)) in
    omega (arith, end)

-- the bytes of the last slot, as they were read
read : (g : Over) (c : After-drop-bytes-2 g) →
    let o = file_at c.args.store.now.area (g.M.Medium.content c.args.store.now.medium) c.args.dir in
    slot_of (length (slots_at o) - 1) o ≡ Some c.in_ok-bytes.bytes.items
read g c =
    let s = c.args.store.now in
    let t = c.count_slots.new.store in
    let r = c.in_ok-rest.ensures in
    let o = file_at s.area (g.M.Medium.content s.medium) c.args.dir in
    ap (λ (n : ℕ). slot_of (n - 1) o) (sym r.count)
    ∙ ap (slot_of (c.in_ok-rest.field-0 - 1))
    (sym (file_on s.area t.area (g.M.Medium.content s.medium) (g.M.Medium.content t.medium) c.args.dir r.area r.content))
    ∙ c.in_ok-bytes.ensures.bytes

pub returns-clause-file : goal.returns-clause-file
returns-clause-file g c =
    let s = c.args.store.now in
    let t = c.slot_bytes_at.new.store in
    let u = c.put_slot.new.store in
    let v = c.set_size.new.self in
    let r = c.in_ok-rest.ensures in
    let b = c.in_ok-bytes.ensures in
    let bytes = c.in_ok-bytes.bytes.items in
    let rest = c.in_ok-rest.field-0 - 1 in
    let offset = 288 * c.args.slot in
    let o = file_at s.area (g.M.Medium.content s.medium) c.args.dir in
    let first = becomes_from u.area s.area t.area u.inodes (g.M.Medium.size u.medium) c.args.dir
    (overwritten offset c.deref-2.result.now) (overwritten offset bytes) (g.M.Medium.content s.medium)
    (g.M.Medium.content t.medium) (g.M.Medium.content u.medium) u.map (b.area ∙ r.area) (b.content ∙ r.content)
    c.in_ok-put_slot.ensures.file
    (λ x is. ap (λ (p : List ℕ). overwritten offset p x.bytes) c.deref-2.ensures.value) in
    becomes_twice s.area u.area v.area u.inodes v.inodes (g.M.Medium.size u.medium) (g.M.Medium.size v.medium) c.args.dir
    (overwritten offset bytes) (resized (288 * rest)) (without_slot c.args.slot) (g.M.Medium.content s.medium)
    (g.M.Medium.content u.medium) (g.M.Medium.content v.medium) u.map v.map first c.in_ok-set_size.ensures.file
    c.in_ok-set_size.ensures.area c.in_ok-set_size.ensures.inodes (λ x is.
    let there = c.requires.there in
    let end = slots_end o o c.requires.directory x is in
    let at : 288 * rest ≡ length x.bytes - 288 = omega (arith, end, r.count, there) in
    let last = last_slot o o c.requires.directory bytes (omega (arith, there)) (read g c) x is in
    ap (λ (n : ℕ). resized n (overwritten offset bytes x.bytes)) at
    ∙ ap (λ (p : List ℕ). resized (length x.bytes - 288) (overwritten offset p x.bytes)) (sym last))

pub returns-clause-slots : goal.returns-clause-slots
returns-clause-slots g c =
    let s = c.args.store.now in
    let v = c.set_size.new.self in
    (slots_less (file_at s.area (g.M.Medium.content s.medium) c.args.dir)
    (file_at v.area (g.M.Medium.content v.medium) c.args.dir) c.requires.directory c.args.slot
    c.in_ok-bytes.bytes.items c.in_ok-last.last.name.items c.in_ok-last.last.inode c.requires.there (read g c)
    (ap slot_in (sym c.deref.ensures.value) ∙ c.in_ok-last.ensures) (returns-clause-file g c).changes.here).0

pub returns-clause-directory : goal.returns-clause-directory
returns-clause-directory g c =
    let s = c.args.store.now in
    let v = c.set_size.new.self in
    (slots_less (file_at s.area (g.M.Medium.content s.medium) c.args.dir)
    (file_at v.area (g.M.Medium.content v.medium) c.args.dir) c.requires.directory c.args.slot
    c.in_ok-bytes.bytes.items c.in_ok-last.last.name.items c.in_ok-last.last.inode c.requires.there (read g c)
    (ap slot_in (sym c.deref.ensures.value) ∙ c.in_ok-last.ensures) (returns-clause-file g c).changes.here).1
