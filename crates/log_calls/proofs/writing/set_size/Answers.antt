use Rattle.std.proofs.Common.{◌≡◌, ◌∙◌, Some, length, sym, ap, subst}
use Rattle.nfs2_types.specs.Bytes.{resized}
use Rattle.server_trait.specs.Calls.{SetSize, SetSizeErr}
use Rattle.server_trait.specs.Tree.{bytes_at, edited, with_bytes}
use Rattle.server_trait.proofs.SoftLaws.{set_size_soft}
use Rattle.server_trait.proofs.TreeLaws.{some_and}
use Rattle.log_tree.specs.Held.{handle_of}
use Rattle.log_changes.specs.Kept.{log_tree}
use Rattle.log_calls.specs.State.{Does}
use Rattle.log_calls.proofs.StateLaws.{ended, on_ok, still}
use Rattle.log_calls.proofs.writing.set_size.Goals as goal

pub returns : goal.returns
returns g c =
    let content = g.M.Medium.content in
    let size = g.M.Medium.size in
    let faults = g.M.Medium.faults in
    let a = c.args in
    let t = a.tree.now in
    let new = c.set_size.new.self in
    let tree = log_tree content size in
    let f = c.in_ok-found.found in
    let H = handle_of f.id in
    let found = c.in_ok-found.ensures in
    let b = some_and (bytes_at (tree t) a.file.now) (λ b. f.info.size ≡ length b) found.1 in
    subst (λ q. Does content size faults (λ s. SetSize s q a.size) t c.answered.result new) (sym found.0)
    (subst (λ r. Does content size faults (λ s. SetSize s H a.size) t r new) (sym c.answered.ensures)
    (ended content size faults (λ s. SetSize s H a.size)
    (λ t _ after. after ≡ Some (edited t H (with_bytes (resized a.size))))
    (λ v e. SetSizeErr t.limits H a.size v e) t new (λ r b k. k)
    c.requires.kept t (still content size faults t c.requires.kept) c.set_size.result c.set_size.ensures.changes
    c.set_size.ensures.kept
    (λ x e. ap Some (on_ok (tree new ≡ edited (tree t) H (with_bytes (resized a.size))) c.set_size.result x
    c.set_size.ensures.sized e))
    (set_size_soft t.limits (tree t) H b.0 a.size (ap (bytes_at (tree t)) (sym found.0) ∙ b.1))))
