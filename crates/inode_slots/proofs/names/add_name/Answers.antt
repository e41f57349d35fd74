use Rattle.std.proofs.Common.{◌∙◌, ◌++◌, ◌∷◌, [], List, ℕ, ap, arith}
use Rattle.inode_dirs.specs.Files.{slots_at}
use Rattle.inode_dirs.specs.declared.index.Place.{Place}
use Rattle.inode_dirs.proofs.IndexLaws.{added, inode_by-added_same, inode_by-added_other}
use Rattle.inode_store.specs.Inodes.{file_at}
use Rattle.inode_slots.proofs.names.add_name.Goals as goal

pub returns-clause-directory : goal.returns-clause-directory
returns-clause-directory g c =
    let s = c.args.store.now in
    let u = c.push_slot.new.store in
    let e = c.in_ok-slot.ensures in
    let ss = slots_at (file_at s.area (g.M.Medium.content s.medium) c.args.dir) in
    let p : Place = record { slot = c.in_ok-slot.slot; inode = c.args.inode } in
    record {
      kept = e.file.kept;
      within = omega (arith, c.requires.directory.within, e.inodes);
      directory = e.directory;
      indexed = added c.args.index.now c.insert.new.self ss
          (slots_at (file_at u.area (g.M.Medium.content u.medium) c.args.dir)) c.args.name.items p
          c.requires.directory.indexed c.requires.new c.in_ok-insert.ensures e.place
          (e.slots ∙ ap (λ (l : List ℕ). ss ++ (l, c.args.inode) ∷ []) c.deref.ensures.value);
    }

pub returns-clause-here : goal.returns-clause-here
returns-clause-here g c =
    let p : Place = record { slot = c.in_ok-slot.slot; inode = c.args.inode } in
    inode_by-added_same c.args.index.now c.insert.new.self c.args.name.items p c.in_ok-insert.ensures

pub returns-clause-names : goal.returns-clause-names
returns-clause-names g c =
    let p : Place = record { slot = c.in_ok-slot.slot; inode = c.args.inode } in
    inode_by-added_other c.args.index.now c.insert.new.self c.args.name.items p c.in_ok-insert.ensures
