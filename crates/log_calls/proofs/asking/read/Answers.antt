use Rattle.std.proofs.Common.{◌≡◌, ◌∙◌, ℕ, Some, length, take, drop, sym, ap, subst}
use Rattle.std.specs.Prelude.{Vec, option_map}
use Rattle.std.specs.declared.alloc.Global.{Global}
use Rattle.server_trait.specs.Calls.{ContentErr, Read}
use Rattle.server_trait.specs.Tree.{bytes_at, bytes_in}
use Rattle.server_trait.proofs.SoftLaws.{read_soft}
use Rattle.server_trait.proofs.TreeLaws.{some_and}
use Rattle.log_tree.specs.Held.{handle_of}
use Rattle.log_changes.specs.Kept.{log_tree}
use Rattle.log_calls.specs.State.{Does}
use Rattle.log_calls.proofs.StateLaws.{all_ok, ended, if_ok, still}
use Rattle.log_calls.proofs.asking.read.Goals as goal

pub returns : goal.returns
returns g c =
    let content = g.M.Medium.content in
    let size = g.M.Medium.size in
    let faults = g.M.Medium.faults in
    let a = c.args in
    let t = a.tree.now in
    let new = c.read.new.self in
    let tree = log_tree content size in
    let f = c.in_ok-found.found in
    let H = handle_of f.id in
    let found = c.in_ok-found.ensures in
    let b = some_and (bytes_at (tree t) a.file.now) (λ b. f.info.size ≡ length b) found.1 in
    subst (λ q. Does content size faults (λ s. Read s q a.offset a.count) t c.answered.result new) (sym found.0)
    (subst (λ r. Does content size faults (λ s. Read s H a.offset a.count) t r new) (sym c.answered.ensures)
    (ended content size faults (λ s. Read s H a.offset a.count)
    (λ t (v : Vec ℕ Global) after. (option_map (λ b. take a.count (drop a.offset b)) (bytes_at t H) ≡ Some v.items) × (after ≡ Some t))
    (λ t e. ContentErr bytes_in H t e) t new (λ r b k. k)
    c.requires t (still content size faults t c.requires) c.read.result c.read.ensures.changes
    (all_ok c.read.result c.read.ensures.kept)
    (λ x e. (
      if_ok (λ (v : Vec ℕ Global). (option_map (λ b. take a.count (drop a.offset b)) (bytes_at (tree t) H) ≡ Some v.items)) c.read.result x
          c.read.ensures.bytes e,
      ap Some c.read.ensures.tree,
    ))
    (read_soft (tree t) H b.0 (ap (bytes_at (tree t)) (sym found.0) ∙ b.1))))
