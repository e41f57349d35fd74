use Rattle.std.proofs.Common.{◌≡◌, Some, refl, sym, subst}
use Rattle.std.specs.Prelude.{IsSomeAnd}
use Rattle.server_trait.specs.Calls.{Attr, IsAttr, NodeErr}
use Rattle.server_trait.specs.Tree.{node_at}
use Rattle.server_trait.proofs.SoftLaws.{node_soft}
use Rattle.server_trait.proofs.TreeLaws.{some_and}
use Rattle.log_index.specs.Memory.{IsInfo}
use Rattle.log_changes.specs.Kept.{log_live, log_tree}
use Rattle.log_calls.proofs.FoundLaws.{attr_is}
use Rattle.log_calls.proofs.StateLaws.{still, told}
use Rattle.log_calls.proofs.asking.attr.Goals as goal

pub returns-in-Some : goal.returns-in-Some
returns-in-Some g c =
    let content = g.M.Medium.content in
    let size = g.M.Medium.size in
    let faults = g.M.Medium.faults in
    let t = c.args.tree.now in
    let h = c.args.node.now in
    let tree = log_tree content size t in
    let f = c.in-Some.found in
    let n = some_and (node_at tree h) (λ n. IsInfo tree h n f.info) c.in-Some.ensures.1 in
    told content size faults (λ a. Attr a h) (λ t a after. IsSomeAnd (node_at t h) (IsAttr t h a) × (after ≡ Some t))
    (λ t e. NodeErr h t e) t t (λ r b k. k) c.requires c.attr.result (still content size faults t c.requires) (
      subst (λ a. IsSomeAnd (node_at tree h) (IsAttr tree h a)) (sym c.attr.ensures)
          (attr_is (log_live content size t) h f c.in-Some.ensures),
      refl,
    ) (node_soft tree h n.0 n.1)
