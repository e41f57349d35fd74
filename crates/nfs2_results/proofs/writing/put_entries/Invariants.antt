use Rattle.std.proofs.Common.{◌≡◌, ◌++◌, ℕ, ◌<◌, length, take, drop, get_or}
use Rattle.nfs2_types.specs.declared.results.ListEntry.{ListEntry}
use Rattle.nfs2_results.specs.Spelling.{entries_text, IsEntrySpelled}
use Rattle.nfs2_results.proofs.writing.put_entries.Given as goal

abbrev pub invariant-loop-e : goal.invariant-loop-e
invariant-loop-e l = record {
  text : l.w ++ entries_text (drop l.e-index l.entries) ≡ l.initial.w ++ entries_text l.entries;
  kept : take (length l.initial.w) l.w ≡ l.initial.w;
  spelled : (k : ℕ) (d : ListEntry) → k < l.e-index → IsEntrySpelled (get_or l.entries k d);
}
