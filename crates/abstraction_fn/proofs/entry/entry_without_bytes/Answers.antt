use Rattle.abstraction_fn.proofs.Entries.{null_read, live_read}
use Rattle.abstraction_fn.proofs.entry.entry_without_bytes.Goals as goal

pub returns-in-None-clause-entry : goal.returns-in-None-clause-entry
returns-in-None-clause-entry g c A k =
    null_read _ c.args.table.now A k c.args.index c.requires.within c.index.result.now c.index.ensures c.in-None.is

pub returns-in_ok-object-in-Some-clause-entry : goal.returns-in_ok-object-in-Some-clause-entry
returns-in_ok-object-in-Some-clause-entry g c A k =
    let o = c.in_ok-object-in-Some in
    live_read _ c.args.table.now A k c.args.index c.requires.within c.index.result.now c.index.ensures o.object
    (o.ensures.object A k)
