use Rattle.std.proofs.Common.{refl}
use Rattle.server_trait.proofs.TreeLaws.{is_some_and}
use Rattle.staging.specs.Staged.{Staged}
use Rattle.staging.proofs.Begins.{renewed}
use Rattle.staging.proofs.making.renew.Goals as goal

pub returns-in-Ok : goal.returns-in-Ok
returns-in-Ok g c = record {
  begun = λ t A S has can. is_some_and (λ t. Staged t c.args.staging.now c.bind_row.new.table _ _) has
      (renewed t _ c.args.staging.now c.args.table.now A S c.args.index c.args.entry.now can c.requires.null c.bind_row.new.table _ c.in-Ok.ensures.rows c.in-Ok.ensures.in_step refl refl);
}
