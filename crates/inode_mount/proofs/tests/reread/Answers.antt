use Rattle.std.proofs.Common.{◌∙◌, sym, ap}
use Rattle.inode_store.specs.Layout.{superblock}
use Rattle.inode_mount.proofs.tests.reread.Goals as goal

pub read_tables-requires-clause-planned : goal.read_tables-requires-clause-planned
read_tables-requires-clause-planned g c =
    let w = c.requires.whole in
    record {
      inodes = w.inodes;
      first = w.keeps.first;
      blocks = w.blocks;
      on_medium = w.keeps.on_medium;
      small = w.keeps.small;
      limited = w.limited;
    }

pub returns-clause-name : goal.returns-clause-name
returns-clause-name g c =
    let e = c.in_ok-read_tables.ensures in
    ap (λ f. f 0) e.content ∙ c.requires.name ∙ ap superblock (sym e.limits)
