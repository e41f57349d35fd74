use Rattle.std.proofs.Common.{inr, ◌≡◌, ◌∙◌, ◌+◌, ◌-◌, ◌<◌, Some, sym, ap, subst, arith}
use Rattle.server_trait.specs.Calls.{Link, LinkErr}
use Rattle.server_trait.specs.Tree.{named, used}
use Rattle.server_trait.specs.declared.server.ServerLimits.{ServerLimits}
use Rattle.server_trait.specs.declared.server.SrvErr.TheVariants.{Exists, Full}
use Rattle.server_trait.proofs.NameSoftLaws.{link_soft}
use Rattle.log_tree.specs.Held.{handle_of}
use Rattle.log_changes.specs.Kept.{log_tree}
use Rattle.log_calls.specs.State.{Does}
use Rattle.log_calls.proofs.NameLaws.{has_name, lacks_name}
use Rattle.log_calls.proofs.StateLaws.{ended, on_ok, stayed}
use Rattle.log_calls.proofs.names.link.Goals as goal

pub returns-in-Some : goal.returns-in-Some
returns-in-Some g c =
    let content = g.M.Medium.content in
    let size = g.M.Medium.size in
    let faults = g.M.Medium.faults in
    let a = c.args in
    let t = a.tree.now in
    let mid = c.look_up.new.tree in
    let tree = log_tree content size t in
    let D = a.dir.now in
    let nm = a.name.now in
    let H = handle_of c.in_ok-within.within.id in
    let dir = c.in_ok-within.ensures in
    let up = c.in_ok-look_up.ensures in
    let child = c.in_ok-look_up.field-0 in
    let N = a.node.now in
    stayed content size faults (λ s. Link s N D nm) (λ t _ after. after ≡ Some (named t D nm N)) (λ v e. LinkErr t.limits N D nm v e) t mid (λ r b k. k) c.requires.kept Exists up.1
    (has_name tree D H nm child dir.0 up.0 c.in-Some.field-0 c.in-Some.is) (λ b. b)

pub returns-then-not-has_bytes : goal.returns-then-not-has_bytes
returns-then-not-has_bytes g c =
    let content = g.M.Medium.content in
    let size = g.M.Medium.size in
    let faults = g.M.Medium.faults in
    let a = c.args in
    let t = a.tree.now in
    let mid = c.look_up.new.tree in
    let tree = log_tree content size t in
    let D = a.dir.now in
    let nm = a.name.now in
    let H = handle_of c.in_ok-within.within.id in
    let dir = c.in_ok-within.ensures in
    let up = c.in_ok-look_up.ensures in
    let child = c.in_ok-look_up.field-0 in
    let N = a.node.now in
    let over = c.if-not-has_bytes.ensures in
    let full : t.limits.bytes < (used tree - 0) + 512 =
    omega (arith, over, ap used up.1.tree_is, ap (λ (l : ServerLimits). l.bytes) up.1.limits) in
    stayed content size faults (λ s. Link s N D nm) (λ t _ after. after ≡ Some (named t D nm N)) (λ v e. LinkErr t.limits N D nm v e) t mid (λ r b k. k) c.requires.kept Full up.1 (inr full) (λ b. b)

pub returns : goal.returns
returns g c =
    let content = g.M.Medium.content in
    let size = g.M.Medium.size in
    let faults = g.M.Medium.faults in
    let a = c.args in
    let t = a.tree.now in
    let mid = c.look_up.new.tree in
    let tree = log_tree content size t in
    let D = a.dir.now in
    let nm = a.name.now in
    let H = handle_of c.in_ok-within.within.id in
    let dir = c.in_ok-within.ensures in
    let up = c.in_ok-look_up.ensures in
    let child = c.in_ok-look_up.field-0 in
    let N = a.node.now in
    let new = c.add_name.new.self in
    let K = handle_of c.in_ok-leaf.leaf.id in
    let leaf = c.in_ok-leaf.ensures in
    subst (λ r. Does content size faults (λ s. Link s N D nm) t r new) (sym c.answered.ensures)
    (ended content size faults (λ s. Link s N D nm) (λ t _ after. after ≡ Some (named t D nm N)) (λ v e. LinkErr t.limits N D nm v e) t new (λ r b k. k) c.requires.kept mid up.1 c.add_name.result c.add_name.ensures.changes
    c.add_name.ensures.kept
    (λ x e. ap Some (on_ok (log_tree content size new ≡ named (log_tree content size mid) H nm K) c.add_name.result x
    c.add_name.ensures.named e
    ∙ (ap (λ v. named v H nm K) up.1.tree_is ∙ (ap (λ d. named tree d nm K) (sym dir.0)
    ∙ ap (λ n. named tree D nm n) (sym leaf.0)))))
    (link_soft t.limits tree N D nm leaf.1 (lacks_name tree D H nm child dir.0 up.0 c.in_default.is dir.1)))
