use Rattle.std.proofs.Common.{◌<◌, true, false, length, sym, ◌∙◌, arith}
use Rattle.std.proofs.lemmas.Result.{err_from_is_err_and}
use Rattle.nfs2_results.specs.Forms.{entry_form}
use Rattle.nfs2_results.proofs.EntryReads.{bool_is, bool_shorter, reads_shorter, bool_stops, entry_fails, entries_end}
use Rattle.nfs2_results.proofs.EntryReads.{entries_go_on}
use Rattle.nfs2_results.proofs.reading.entries_at.Goals as goal

pub returns-in_err-boolean : goal.returns-in_err-boolean
returns-in_err-boolean c =
    let p = err_from_is_err_and c.from_residual.result c.from_residual.ensures.1 in
    rw (p.1, p.2) (sym c.loop-entries.invariant ∙ bool_stops c.loop-entries.entries.items c.loop-entries.r _
    c.in_err-boolean.ensures.read)

pub returns-in_err-entry : goal.returns-in_err-entry
returns-in_err-entry c =
    let p = err_from_is_err_and c.from_residual-in_err-entry.result c.from_residual-in_err-entry.ensures.1 in
    let more = bool_is c.loop-entries.r c.in_ok-boolean.field-0 true c.boolean.new.self c.in_ok-boolean.ensures.read
    c.if-branch.true in
    rw (p.1, p.2) (entry_fails _ c.loop-entries.entries.items c.loop-entries.r c.boolean.new.self
    c.in_err-entry.field-0.0 more c.in_err-entry.ensures c.loop-entries.invariant)

pub loop-entries-smaller : goal.loop-entries-smaller
loop-entries-smaller c =
    let lt : length c.entry_at.new.r.rest < length c.loop-entries.r.rest
    = omega (
      arith,
      bool_shorter c.loop-entries.r (
        c.in_ok-boolean.field-0,
        c.boolean.new.self,
      ) c.in_ok-boolean.ensures.read,
      reads_shorter entry_form c.boolean.new.self
          (c.in_ok-entry.entry, c.entry_at.new.r) c.in_ok-entry.ensures,
    ) in
    lt

pub loop-entries-preserved : goal.loop-entries-preserved
loop-entries-preserved c =
    let more = bool_is c.loop-entries.r c.in_ok-boolean.field-0 true c.boolean.new.self c.in_ok-boolean.ensures.read
    c.if-branch.true in
    rw c.in_ok-push.ensures.items
    (sym (entries_go_on c.loop-entries.entries.items c.loop-entries.r c.boolean.new.self c.in_ok-entry.entry
    c.entry_at.new.r more c.in_ok-entry.ensures) ∙ c.loop-entries.invariant)

pub returns : goal.returns
returns c =
    let no_more = bool_is c.loop-entries.r c.in_ok-boolean.field-0 false c.boolean.new.self
    c.in_ok-boolean.ensures.read c.if-branch.false in
    sym c.loop-entries.invariant ∙ entries_end c.loop-entries.entries.items c.loop-entries.r c.boolean.new.self no_more
