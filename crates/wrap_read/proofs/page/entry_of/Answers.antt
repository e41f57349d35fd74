use Rattle.std.proofs.Common.{◌+◌, Some, sym, ◌∙◌}
use Rattle.wrap_read.proofs.Pages.{entry_listed}
use Rattle.wrap_read.proofs.page.entry_of.Goals as goal

pub returns : goal.returns
returns c =
    entry_listed c.args.table.now c.args.d c.args.parent c.args.names.now c.args.place c.index-names-place.result
    c.if-place-eq0.false c.if-place-eq1.false c.requires.within c.index-names-place.is
    ∙ (λ j. Some (record {
      fileid = sym c.fileid_of.ensures j;
      name = sym c.in_ok-name.ensures.cases j;
      cookie = c.args.place + 1;
    }))
