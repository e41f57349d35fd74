use Rattle.std.proofs.Common.{◌≡◌, ◌∙◌, Some, sym, ap, subst}
use Rattle.server_trait.specs.Calls.{NodeErr, SetAttr}
use Rattle.server_trait.specs.Tree.{edited, node_at, with_attr}
use Rattle.server_trait.proofs.SoftLaws.{node_soft}
use Rattle.server_trait.proofs.TreeLaws.{some_and}
use Rattle.log_tree.specs.Held.{handle_of}
use Rattle.log_index.specs.Memory.{IsInfo}
use Rattle.log_changes.specs.Kept.{log_tree}
use Rattle.log_calls.specs.State.{Does}
use Rattle.log_calls.proofs.StateLaws.{ended, on_ok, still}
use Rattle.log_calls.proofs.writing.set_attr.Goals as goal

pub returns : goal.returns
returns g c =
    let content = g.M.Medium.content in
    let size = g.M.Medium.size in
    let faults = g.M.Medium.faults in
    let a = c.args in
    let t = a.tree.now in
    let new = c.set_attr.new.self in
    let tree = log_tree content size in
    let f = c.in-Some.found in
    let H = handle_of f.id in
    let n = some_and (node_at (tree t) a.node.now) (λ n. IsInfo (tree t) a.node.now n f.info) c.in-Some.ensures.1 in
    subst (λ q. Does content size faults (λ s. SetAttr s q a.mode a.uid a.gid) t c.answered.result new)
    (sym c.in-Some.ensures.0)
    (subst (λ r. Does content size faults (λ s. SetAttr s H a.mode a.uid a.gid) t r new) (sym c.answered.ensures)
    (ended content size faults (λ s. SetAttr s H a.mode a.uid a.gid)
    (λ t _ after. after ≡ Some (edited t H (with_attr a.mode a.uid a.gid))) (λ t e. NodeErr H t e) t new (λ r b k. k)
    c.requires t (still content size faults t c.requires) c.set_attr.result c.set_attr.ensures.changes
    c.set_attr.ensures.kept
    (λ x e. ap Some (on_ok (tree new ≡ edited (tree t) H (with_attr a.mode a.uid a.gid)) c.set_attr.result x
    c.set_attr.ensures.set e))
    (node_soft (tree t) H n.0 (ap (node_at (tree t)) (sym c.in-Some.ensures.0) ∙ n.1))))
