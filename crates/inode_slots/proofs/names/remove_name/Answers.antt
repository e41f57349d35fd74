use Rattle.std.proofs.Common.{refl, arith}
use Rattle.inode_dirs.specs.Files.{slots_at}
use Rattle.inode_dirs.specs.declared.index.Place.{Place}
use Rattle.inode_dirs.proofs.IndexLaws.{removed, inode_by-removed_same, inode_by-removed_other, place_within}
use Rattle.inode_store.specs.Inodes.{file_at}
use Rattle.inode_slots.proofs.names.remove_name.Goals as goal

pub drop_slot-requires-clause-there : goal.drop_slot-requires-clause-there
drop_slot-requires-clause-there g c =
    let s = c.args.store.now in
    place_within c.args.index.now (slots_at (file_at s.area (g.M.Medium.content s.medium) c.args.dir)) c.args.name.now
    c.args.place c.requires.directory.indexed c.requires.there

pub returns-clause-directory : goal.returns-clause-directory
returns-clause-directory g c =
    let s = c.args.store.now in
    let u = c.drop_slot.new.store in
    let e = c.in_ok-last.ensures in
    let moved : Place = record { slot = c.args.place.slot; inode = c.in_ok-last.last.inode } in
    record {
      kept = e.file.kept;
      within = omega (arith, c.requires.directory.within, e.inodes);
      directory = e.directory;
      indexed = removed c.args.index.now c.insert.new.self c.remove.new.self
          (slots_at (file_at s.area (g.M.Medium.content s.medium) c.args.dir))
          (slots_at (file_at u.area (g.M.Medium.content u.medium) c.args.dir)) c.args.name.now
          c.in_ok-last.last.name.items c.args.place moved c.requires.directory.indexed c.requires.there refl e.slots
          c.in_ok-insert.ensures c.remove.ensures;
    }

pub returns-clause-gone : goal.returns-clause-gone
returns-clause-gone g c =
    let s = c.args.store.now in
    let u = c.drop_slot.new.store in
    let moved : Place = record { slot = c.args.place.slot; inode = c.in_ok-last.last.inode } in
    inode_by-removed_same c.args.index.now c.insert.new.self c.remove.new.self
    (slots_at (file_at s.area (g.M.Medium.content s.medium) c.args.dir))
    (slots_at (file_at u.area (g.M.Medium.content u.medium) c.args.dir)) c.args.name.now
    c.in_ok-last.last.name.items c.args.place moved c.requires.directory.indexed c.requires.there refl
    c.in_ok-last.ensures.slots c.in_ok-insert.ensures c.remove.ensures

pub returns-clause-names : goal.returns-clause-names
returns-clause-names g c =
    let s = c.args.store.now in
    let u = c.drop_slot.new.store in
    let moved : Place = record { slot = c.args.place.slot; inode = c.in_ok-last.last.inode } in
    inode_by-removed_other c.args.index.now c.insert.new.self c.remove.new.self
    (slots_at (file_at s.area (g.M.Medium.content s.medium) c.args.dir))
    (slots_at (file_at u.area (g.M.Medium.content u.medium) c.args.dir)) c.args.name.now
    c.in_ok-last.last.name.items c.args.place moved c.requires.directory.indexed c.requires.there refl
    c.in_ok-last.ensures.slots c.in_ok-insert.ensures c.remove.ensures
