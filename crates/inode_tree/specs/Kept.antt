-- The tables that a server keeps, and the tree that it has on its medium.
use Rattle.std.specs.Prelude.{slice_get, slice_index, option_and_then}
use Rattle.std.specs.FinMap.{get}
use Rattle.block_alloc.specs.Free.{is_free}
use Rattle.inode_counts.specs.Seen.{counts_of}
use Rattle.inode_tree.specs.Handles.{handle_bytes}
use Rattle.inode_tree.specs.Tables.{Tables}
use Rattle.inode_tree.specs.declared.tables.InodeTables.{InodeTables}

-- the tables, each inode's rows by its number
abbrev pub tables_of : InodeTables → Tables
tables_of t = record {
  handle = λ i. handle_bytes i t.epoch (slice_index t.salts.items i);
  place = λ i q. option_and_then (λ m. get m q) (slice_get t.dirs.items i);
  counts = counts_of t.counts;
  kind = λ i. option_and_then (λ k. k) (slice_get t.kinds.items i);
  parent = λ i. slice_index t.parents.items i;
  is_free = λ i. is_free t.free i;
}
