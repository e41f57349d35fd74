use Rattle.std.proofs.Common.{◌≡◌, ◌∙◌, ℕ, Some, length, sym, ap, subst}
use Rattle.server_trait.specs.Calls.{Write, WriteErr, Wrote}
use Rattle.server_trait.specs.Tree.{bytes_at}
use Rattle.server_trait.proofs.SoftLaws.{write_soft}
use Rattle.server_trait.proofs.TreeLaws.{some_and}
use Rattle.log_tree.specs.Held.{handle_of}
use Rattle.log_changes.specs.Kept.{log_tree}
use Rattle.log_calls.specs.State.{Does}
use Rattle.log_calls.proofs.StateLaws.{ended, if_ok, still}
use Rattle.log_calls.proofs.writing.write.Goals as goal

pub returns : goal.returns
returns g c =
    let content = g.M.Medium.content in
    let size = g.M.Medium.size in
    let faults = g.M.Medium.faults in
    let a = c.args in
    let t = a.tree.now in
    let new = c.write.new.self in
    let tree = log_tree content size in
    let f = c.in_ok-found.found in
    let H = handle_of f.id in
    let found = c.in_ok-found.ensures in
    let b = some_and (bytes_at (tree t) a.file.now) (λ b. f.info.size ≡ length b) found.1 in
    subst (λ q. Does content size faults (λ s. Write s q a.offset a.piece.now) t c.answered.result new) (sym found.0)
    (subst (λ r. Does content size faults (λ s. Write s H a.offset a.piece.now) t r new) (sym c.answered.ensures)
    (ended content size faults (λ s. Write s H a.offset a.piece.now)
    (λ t (n : ℕ) after. Wrote t H a.offset a.piece.now n after)
    (λ v e. WriteErr t.limits H a.offset (length a.piece.now) v e) t new (λ r b k. k)
    c.requires.kept t (still content size faults t c.requires.kept) c.write.result c.write.ensures.changes
    c.write.ensures.kept
    (λ x e. if_ok (λ (n : ℕ). Wrote (tree t) H a.offset a.piece.now n (Some (tree new))) c.write.result x
    c.write.ensures.wrote e)
    (write_soft t.limits (tree t) H b.0 a.offset (length a.piece.now) (ap (bytes_at (tree t)) (sym found.0) ∙ b.1))))
