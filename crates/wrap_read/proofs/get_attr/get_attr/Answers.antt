use Rattle.wrap_read.proofs.ReadAnswers.{attr_stale, attr_answer}
use Rattle.wrap_read.proofs.get_attr.get_attr.Goals as goal

pub returns-in_default-clause-result : goal.returns-in_default-clause-result
returns-in_default-clause-result g c A limits cred t k =
    attr_stale A limits cred t _ c.args.table.now k c.args.node.now c.in_default.ensures

pub returns-clause-result : goal.returns-clause-result
returns-clause-result g c A limits cred t k =
    attr_answer A limits cred t _ c.args.table.now k c.args.node.now c.in-Some.at c.in_ok-fattr.fattr c.in-Some.ensures
    (c.in_ok-fattr.ensures.fattr A k)
