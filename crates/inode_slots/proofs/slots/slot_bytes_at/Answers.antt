use Rattle.std.proofs.Common.{arith}
use Rattle.inode_store.specs.Inodes.{file_at}
use Rattle.inode_slots.proofs.ChangeLaws.{slot_end, slot_length}
use Rattle.inode_slots.proofs.slots.slot_bytes_at.Goals as goal

pub overflow_mul-slot : goal.overflow_mul-slot
overflow_mul-slot g c =
    let s = c.args.store.now in
    let end = slot_end s.area s.inodes (g.M.Medium.size s.medium) c.args.dir (g.M.Medium.content s.medium) s.map
    c.requires.kept c.requires.within c.args.slot c.requires.there in
    omega (arith, end)

pub returns-clause-len : goal.returns-clause-len
returns-clause-len g c =
    let s = c.args.store.now in
    slot_length (file_at s.area (g.M.Medium.content s.medium) c.args.dir) c.args.slot c.in_ok-bytes.bytes.items
    c.requires.there c.in_ok-bytes.ensures.bytes
