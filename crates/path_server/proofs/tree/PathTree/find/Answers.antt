use denote.Enum.Bare.{same_true, same_false}
use Rattle.std.proofs.Common.{rules, ◌≢◌, sym, ◌∙◌}
use Rattle.nfs2_types.specs.contracts.fattr.Kind.{the_type}
use Rattle.server_trait.proofs.TreeLaws.{is_some_and}
use Rattle.path_server.specs.declared.node.PathNode.{PathNode}
use Rattle.path_server.proofs.tree.PathTree.find.Goals as goal

pub returns-in-Some : goal.returns-in-Some
returns-in-Some c = (
  sym c.get.ensures
      ∙ c.in-Some.is,
  same_true the_type (search rules) _ _ (sym c.if-eq.ensures),
)

pub returns-in-Some-2 : goal.returns-in-Some-2
returns-in-Some-2 c = is_some_and (λ (p : PathNode). p.kind ≢ c.args.kind) (sym c.get.ensures ∙ c.in-Some.is)
    (same_false the_type _ _ (sym c.if-eq.ensures))

pub returns-in-None : goal.returns-in-None
returns-in-None c = sym c.get.ensures ∙ c.in-None.is
