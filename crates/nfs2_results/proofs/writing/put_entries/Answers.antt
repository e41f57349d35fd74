use Rattle.std.proofs.Common.{append_assoc, All, arith}
use Rattle.xdr_core.proofs.Kept.{kept_through, kept_behind}
use Rattle.nfs2_results.specs.Spelling.{IsEntrySpelled}
use Rattle.nfs2_results.proofs.EntryLists.{entries_text-drop, drop-past}
use Rattle.nfs2_results.proofs.Written.{on_ok, on_err, one_more}
use Rattle.nfs2_results.proofs.writing.put_entries.Goals as goal

pub loop-e-preserved : goal.loop-e-preserved
loop-e-preserved c =
    let step = entries_text-drop c.args.entries.now c.loop-e.e-index c.e-item.result c.loop-e-test.true c.e-item.is in
    record {
      text = rw (c.in_ok-put_entry.ensures.text, append_assoc, ← step) c.loop-e.invariant.text;
      kept = rw c.in_ok-put_entry.ensures.text (kept_behind c.args.w.now c.loop-e.w _ c.loop-e.invariant.kept);
      spelled = one_more c.args.entries.now c.loop-e.e-index c.e-item.result c.loop-e-test.true c.e-item.is
          c.in_ok-put_entry.ensures.spelled c.loop-e.invariant.spelled;
    }

pub returns-clause-text : goal.returns-clause-text
returns-clause-text c = rw (
  ← c.loop-e.invariant.text,
  drop-past c.args.entries.now c.loop-e.e-index
      c.loop-e-test.false,
) c.boolean.ensures.text

pub returns-clause-spelled : goal.returns-clause-spelled
returns-clause-spelled c =
    let all : All IsEntrySpelled c.args.entries.now = λ k d lt. c.loop-e.invariant.spelled k d
    (omega (arith, lt, c.loop-e-test.false)) in
    on_ok _ _ all

pub returns-in_err-put_entry-clause-kept : goal.returns-in_err-put_entry-clause-kept
returns-in_err-put_entry-clause-kept c =
    on_err _ _
    (kept_through c.args.w.now c.loop-e.w c.put_entry.new.w c.loop-e.invariant.kept c.in_err-put_entry.ensures.kept)
