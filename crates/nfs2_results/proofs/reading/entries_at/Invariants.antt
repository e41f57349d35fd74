use Rattle.std.proofs.Common.{◌≡◌, [], length}
use Rattle.xdr_core.specs.Grammar.{reads}
use Rattle.nfs2_results.specs.Forms.{entries_form}
use Rattle.nfs2_results.proofs.reading.entries_at.Given as goal

abbrev pub invariant-loop-entries : goal.invariant-loop-entries
invariant-loop-entries l = reads (entries_form (length l.r.rest) l.entries.items) l.r ≡ reads
    (entries_form (length l.fn.r.rest) []) l.fn.r

abbrev pub decreases-loop-entries : goal.decreases-loop-entries
decreases-loop-entries l = length l.r.rest
