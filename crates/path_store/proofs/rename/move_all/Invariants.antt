use Rattle.std.proofs.Common.{◌≡◌, map}
use Rattle.std.specs.Vec.Iter.{into_iter_items}
use Rattle.path_store.specs.Changes.{moved_keys, moved_dirs}
use Rattle.path_store.specs.Walks.{entry_of}
use Rattle.path_store.proofs.rename.move_all.Given as goal

abbrev pub invariant-loop-entry : goal.invariant-loop-entry
invariant-loop-entry l =
    (moved_keys l.old l.new (map entry_of (into_iter_items l.entry-iterator)) l.keys
    ≡ moved_keys l.old l.new (map entry_of (into_iter_items l.initial.entry-iterator)) l.initial.keys)
    × (moved_dirs l.rows l.old l.new (map entry_of (into_iter_items l.entry-iterator)) l.dirs
    ≡ moved_dirs l.rows l.old l.new (map entry_of (into_iter_items l.initial.entry-iterator)) l.initial.dirs)
