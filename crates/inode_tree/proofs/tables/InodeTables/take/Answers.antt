use Rattle.std.proofs.Common.{List, Bool, refl, ap, arith, false}
use Rattle.std.proofs.lemmas.List.{get_or-set_other}
use Rattle.inode_tree.specs.Handles.{handle_bytes}
use Rattle.block_alloc.specs.Free.{is_free}
use Rattle.inode_tree.specs.Tables.{Tables}
use Rattle.inode_tree.specs.Kept.{tables_of}
use Rattle.inode_tree.proofs.RowLaws.{kind_same, kind_other, place_bare, place_other, taken_same, taken_other, free_within, none-free}
use Rattle.inode_tree.proofs.tables.InodeTables.take.Goals as goal

pub returns-in_default-take : goal.returns-in_default-take
returns-in_default-take c =
    let s = c.args.self.now in (
      λ i _. none-free s.free c.in_default-take.ensures.block i,
      ap (λ (m : List Bool). let x : Tables = record (tables_of s) { is_free = λ i. is_free m i } in x)
          c.in_default-take.ensures.after,
    )

pub returns : goal.returns
returns c =
    let s = c.args.self.now in
    let i = c.in-Some-take.inode in
    let free = c.in-Some-take.ensures.block.here in
    let within = free_within s.free i free in
    let kinds = s.same_kinds in
    let frees = s.same_free in
    let dirs = s.same_dirs in (
      omega (arith, within, frees),
      free,
      record {
        handles = λ k ne. ap (handle_bytes k s.epoch) (get_or-set_other s.salts.items i k s.next 0 ne);
        bare = λ q. place_bare s.dirs.items i c.new.result c.new.ensures (omega (arith, within, frees, dirs)) q;
        places = λ k ne. place_other s.dirs.items i k c.new.result ne;
        counts = c.take-2.ensures;
        kind_here = kind_same s.kinds.items i _ (omega (arith, within, frees, kinds));
        kinds = λ k ne. kind_other s.kinds.items i k _ ne;
        parents = refl;
        free_here = taken_same s.free c.take.new.self i c.in-Some-take.ensures.after within;
        free = λ k ne. taken_other s.free c.take.new.self i k false c.in-Some-take.ensures.after ne;
      },
      c.in-Some-take.ensures.block.lower,
    )
