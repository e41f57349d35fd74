use Rattle.std.proofs.Common.{◌≡◌, ◌∙◌, ℕ, Some, sym, ap, subst}
use Rattle.std.specs.Prelude.{Vec}
use Rattle.std.specs.declared.alloc.Global.{Global}
use Rattle.server_trait.specs.Calls.{ContentErr, ReadLink}
use Rattle.server_trait.specs.Tree.{text_at, text_in}
use Rattle.server_trait.proofs.SoftLaws.{some_of, read_link_soft}
use Rattle.log_tree.specs.Held.{handle_of}
use Rattle.log_changes.specs.Kept.{log_tree}
use Rattle.log_calls.specs.State.{Does}
use Rattle.log_calls.proofs.StateLaws.{all_ok, ended, if_ok, still}
use Rattle.log_calls.proofs.asking.read_link.Goals as goal

pub returns : goal.returns
returns g c =
    let content = g.M.Medium.content in
    let size = g.M.Medium.size in
    let faults = g.M.Medium.faults in
    let a = c.args in
    let t = a.tree.now in
    let new = c.read_text.new.self in
    let tree = log_tree content size in
    let f = c.in_ok-found.found in
    let H = handle_of f.id in
    let found = c.in_ok-found.ensures in
    let b = some_of (text_at (tree t) a.link.now) found.1 in
    subst (λ q. Does content size faults (λ s. ReadLink s q) t c.answered.result new) (sym found.0)
    (subst (λ r. Does content size faults (λ s. ReadLink s H) t r new) (sym c.answered.ensures)
    (ended content size faults (λ s. ReadLink s H)
    (λ t (v : Vec ℕ Global) after. (text_at t H ≡ Some v.items) × (after ≡ Some t))
    (λ t e. ContentErr text_in H t e) t new (λ r b k. k)
    c.requires t (still content size faults t c.requires) c.read_text.result c.read_text.ensures.changes
    (all_ok c.read_text.result c.read_text.ensures.kept)
    (λ x e. (
      if_ok (λ (v : Vec ℕ Global). (text_at (tree t) H ≡ Some v.items)) c.read_text.result x
          c.read_text.ensures.text e,
      ap Some c.read_text.ensures.tree,
    ))
    (read_link_soft (tree t) H b.0 (ap (text_at (tree t)) (sym found.0) ∙ b.1))))
