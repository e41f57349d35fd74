use Rattle.std.proofs.Common.{◌∙◌, sym}
use Rattle.inode_dirs.specs.Files.{slots_at}
use Rattle.inode_dirs.proofs.IndexLaws.{place_within}
use Rattle.inode_store.specs.Inodes.{file_at}
use Rattle.inode_slots.proofs.tests.found.Goals as goal

pub slot_at-requires-clause-there : goal.slot_at-requires-clause-there
slot_at-requires-clause-there g c =
    let s = c.args.store.now in
    place_within c.args.index.now (slots_at (file_at s.area (g.M.Medium.content s.medium) 0)) c.args.name.now
    c.in-Some.place c.requires.indexed (sym c.get.ensures ∙ c.in-Some.is)
