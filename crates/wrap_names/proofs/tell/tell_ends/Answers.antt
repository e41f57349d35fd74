use Rattle.std.proofs.Common.{sym, subst}
use Rattle.conf_map.specs.Stands.{StandValid}
use Rattle.wrap_names.specs.Renames.{told_dirs, told_over}
use Rattle.wrap_names.proofs.Tellings.{noticed_more}
use Rattle.wrap_names.proofs.tell.tell_ends.Goals as goal

pub returns-clause-noticed : goal.returns-clause-noticed
returns-clause-noticed g c A k = noticed_more g.M.Modify.noticed A
    (told_dirs c.args.ends.now.from.index c.args.ends.now.to.index) (told_over c.args.ends.now.over)
    c.args.saver.now c.tell_dirs.new.saver c.tell_over.new.saver (c.in_ok-tell_dirs.ensures.noticed A k)
    (c.in_ok-tell_over.ensures.noticed A
    (subst (λ s. StandValid s c.args.table.now A) (sym c.in_ok-tell_dirs.ensures.same) k))
