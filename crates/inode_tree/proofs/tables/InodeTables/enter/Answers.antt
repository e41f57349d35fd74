use Rattle.std.proofs.Common.{refl, arith, false}
use Rattle.inode_tree.proofs.RowLaws.{kind_same, kind_other, place_bare, place_other, taken_same, taken_other}
use Rattle.inode_tree.proofs.tables.InodeTables.enter.Goals as goal

pub returns-clause-rows : goal.returns-clause-rows
returns-clause-rows c =
    let s = c.args.self.now in
    let i = c.args.inode in
    let within = c.requires.within in
    let kinds = s.same_kinds in
    let frees = s.same_free in
    let dirs = s.same_dirs in
    record {
      handles = λ k ne. refl;
      bare = λ q. place_bare s.dirs.items i c.new.result c.new.ensures (omega (arith, within, dirs)) q;
      places = λ k ne. place_other s.dirs.items i k c.new.result ne;
      counts = c.take.ensures;
      kind_here = kind_same s.kinds.items i _ (omega (arith, within, kinds));
      kinds = λ k ne. kind_other s.kinds.items i k _ ne;
      parents = refl;
      free_here = taken_same s.free c.claim.new.self i c.claim.ensures.after (omega (arith, within, frees));
      free = λ k ne. taken_other s.free c.claim.new.self i k false c.claim.ensures.after ne;
    }
