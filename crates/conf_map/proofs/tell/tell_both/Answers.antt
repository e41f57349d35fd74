use Rattle.std.proofs.Common.{refl, sym, subst}
use Rattle.conf_map.specs.Stands.{StandValid}
use Rattle.conf_map.proofs.tell.tell_both.Goals as goal

pub returns-clause-noticed : goal.returns-clause-noticed
returns-clause-noticed g c A k = (
  c.modify.new.self,
  c.in_ok-modify.ensures.noticed A k,
  (
    c.modify-2.new.self,
    c.in_ok-modify-2.ensures.noticed A
        (subst (λ s. StandValid s c.args.table.now A) (sym c.in_ok-modify.ensures.tree) k),
    refl,
  ),
)
