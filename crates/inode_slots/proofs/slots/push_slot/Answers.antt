use Rattle.std.proofs.Common.{◌*◌, ◌∙◌, ℕ, List, arith, ap, sym}
use Rattle.nfs2_types.specs.Bytes.{overwritten}
use Rattle.inode_dirs.specs.SlotBytes.{slot_bytes}
use Rattle.inode_store.specs.Inodes.{file_at}
use Rattle.inode_slots.specs.Directory.{with_slot}
use Rattle.inode_slots.proofs.ChangeLaws.{becomes_from, file_on, slots_more, slots_end}
use Rattle.inode_slots.proofs.OverwriteLaws.{overwritten-end}
use Rattle.inode_slots.proofs.slots.push_slot.Goals as goal

pub put_slot-requires-clause-inside : goal.put_slot-requires-clause-inside
put_slot-requires-clause-inside g c f is =
    let s = c.args.store.now in
    let t = c.count_slots.new.store in
    let e = c.in_ok-count.ensures in
    let o = file_at s.area (g.M.Medium.content s.medium) c.args.dir in
    let same = file_on s.area t.area (g.M.Medium.content s.medium) (g.M.Medium.content t.medium) c.args.dir e.area
    e.content in
    let end = slots_end o o c.requires.directory f (sym same ∙ is) in
    omega (arith, end, e.count)

pub returns-clause-file : goal.returns-clause-file
returns-clause-file g c =
    let s = c.args.store.now in
    let t = c.count_slots.new.store in
    let u = c.put_slot.new.store in
    let e = c.in_ok-count.ensures in
    let offset = 288 * c.in_ok-count.count in
    let o = file_at s.area (g.M.Medium.content s.medium) c.args.dir in
    becomes_from u.area s.area t.area u.inodes (g.M.Medium.size u.medium) c.args.dir
    (overwritten offset c.format_slot.result) (with_slot c.args.name.now c.args.inode)
    (g.M.Medium.content s.medium) (g.M.Medium.content t.medium) (g.M.Medium.content u.medium) u.map e.area e.content
    c.in_ok-put_slot.ensures.file (λ x is.
    let end = slots_end o o c.requires.directory x is in
    ap (λ (p : List ℕ). overwritten offset p x.bytes) c.format_slot.ensures
    ∙ overwritten-end offset (slot_bytes c.args.name.now c.args.inode) x.bytes (omega (arith, end, e.count)))

pub returns-clause-slots : goal.returns-clause-slots
returns-clause-slots g c =
    let s = c.args.store.now in
    let u = c.put_slot.new.store in
    (slots_more (file_at s.area (g.M.Medium.content s.medium) c.args.dir)
    (file_at u.area (g.M.Medium.content u.medium) c.args.dir) c.requires.directory c.args.name.now c.args.inode
    c.requires.name c.ranges.inode.fits (returns-clause-file g c).changes.here).0

pub returns-clause-directory : goal.returns-clause-directory
returns-clause-directory g c =
    let s = c.args.store.now in
    let u = c.put_slot.new.store in
    (slots_more (file_at s.area (g.M.Medium.content s.medium) c.args.dir)
    (file_at u.area (g.M.Medium.content u.medium) c.args.dir) c.requires.directory c.args.name.now c.args.inode
    c.requires.name c.ranges.inode.fits (returns-clause-file g c).changes.here).1
