-- The counts that an `InodeCounts` shows.
use Rattle.std.specs.Prelude.{slice_index, vec_len}
use Rattle.inode_counts.specs.Counts.{Counts}
use Rattle.inode_counts.specs.declared.counts.InodeCounts.{InodeCounts}

-- the counts, each inode's by its number
abbrev pub counts_of : InodeCounts → Counts
counts_of c = record {
  inodes = vec_len c.links;
  links = λ i. slice_index c.links.items i;
  subdirs = λ i. slice_index c.subdirs.items i;
  used = c.used;
}
