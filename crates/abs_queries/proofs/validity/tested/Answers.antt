use Rattle.std.proofs.Common.{refl}
use Rattle.abs_queries.proofs.Orderly.{valid_from, orderly_from}
use Rattle.abs_queries.proofs.validity.tested.Goals as goal

pub returns-then-not-is_orderly-clause-no : goal.returns-then-not-is_orderly-clause-no
returns-then-not-is_orderly-clause-no c = λ _ v. c.if-not-is_orderly.ensures.no refl (orderly_from c.args.limits.now c.args.entries.now v)

pub returns-clause-yes : goal.returns-clause-yes
returns-clause-yes c = λ h. valid_from c.args.limits.now c.args.entries.now (c.if-not-is_orderly.ensures.yes refl) (c.in_ok-all.ensures.yes h)
