use Rattle.std.proofs.Common.{◌∙◌, sym, ap}
use Rattle.inode_dirs.specs.SlotBytes.{slot_in}
use Rattle.inode_store.specs.Inodes.{file_at}
use Rattle.inode_slots.proofs.ChangeLaws.{slot_got}
use Rattle.inode_slots.proofs.slots.slot_at.Goals as goal

pub returns-clause-slot : goal.returns-clause-slot
returns-clause-slot g c =
    let s = c.args.store.now in
    slot_got (file_at s.area (g.M.Medium.content s.medium) c.args.dir) c.args.slot c.in_ok-bytes.bytes.items
    c.in_ok-found.found.name.items c.in_ok-found.found.inode c.requires.there c.in_ok-bytes.ensures.bytes
    (ap slot_in (sym c.deref.ensures.value) ∙ c.in_ok-found.ensures)
