use Rattle.std.proofs.Common.{inl, inr, ◌≡◌, ◌∙◌, ◌+◌, ◌-◌, ◌<◌, Some, length, sym, ap, subst, arith}
use Rattle.std.proofs.lemmas.Result.{err_from_is_err_and}
use Rattle.std.specs.FinMap.{len}
use Rattle.server_trait.specs.Calls.{Made, Make, MakeErr}
use Rattle.server_trait.specs.Tree.{Tree, used}
use Rattle.server_trait.specs.declared.server.ServerLimits.{ServerLimits}
use Rattle.server_trait.specs.declared.server.SrvErr.TheVariants.{Exists, Full}
use Rattle.server_trait.proofs.SoftLaws.{make_soft}
use Rattle.log_tree.specs.Held.{handle_of}
use Rattle.log_changes.specs.Kept.{IsKept, log_medium, log_tree}
use Rattle.log_changes.specs.Made.{made_content}
use Rattle.log_calls.proofs.NameLaws.{has_name, lacks_name}
use Rattle.log_calls.proofs.StateLaws.{did, fell, if_ok, off_after, off_answer, ok_answer, on_ok, stayed}
use Rattle.log_calls.proofs.names.make.Goals as goal

pub returns-in-Some : goal.returns-in-Some
returns-in-Some g c =
    let content = g.M.Medium.content in
    let size = g.M.Medium.size in
    let faults = g.M.Medium.faults in
    let a = c.args in
    let t = a.tree.now in
    let mid = c.look_up.new.tree in
    let tree = log_tree content size t in
    let D = a.dir.now in
    let nm = a.name.now in
    let H = handle_of c.in_ok-within.within.id in
    let dir = c.in_ok-within.ensures in
    let up = c.in_ok-look_up.ensures in
    let child = c.in_ok-look_up.field-0 in
    let K = made_content a.kind a.text.now in
    let B = length a.text.now in
    stayed content size faults (λ s. Make K B s D nm) (λ t h after. Made t D nm K h after) (λ v e. MakeErr t.limits D nm B v e) t mid (λ r b k. k) c.requires.kept Exists up.1
    (has_name tree D H nm child dir.0 up.0 c.in-Some.field-0 c.in-Some.is) (λ b. b)

pub returns-then-not-has_node : goal.returns-then-not-has_node
returns-then-not-has_node g c =
    let content = g.M.Medium.content in
    let size = g.M.Medium.size in
    let faults = g.M.Medium.faults in
    let a = c.args in
    let t = a.tree.now in
    let mid = c.look_up.new.tree in
    let tree = log_tree content size t in
    let D = a.dir.now in
    let nm = a.name.now in
    let H = handle_of c.in_ok-within.within.id in
    let dir = c.in_ok-within.ensures in
    let up = c.in_ok-look_up.ensures in
    let child = c.in_ok-look_up.field-0 in
    let K = made_content a.kind a.text.now in
    let B = length a.text.now in
    let over = c.if-not-has_node.ensures in
    let full : t.limits.nodes < len tree.nodes + 1 =
    omega (arith, over, ap (λ (v : Tree). len v.nodes) up.1.tree_is, ap (λ (l : ServerLimits). l.nodes) up.1.limits) in
    stayed content size faults (λ s. Make K B s D nm) (λ t h after. Made t D nm K h after) (λ v e. MakeErr t.limits D nm B v e) t mid (λ r b k. k) c.requires.kept Full up.1 (inl full) (λ b. b)

pub returns-then-not-has_bytes : goal.returns-then-not-has_bytes
returns-then-not-has_bytes g c =
    let content = g.M.Medium.content in
    let size = g.M.Medium.size in
    let faults = g.M.Medium.faults in
    let a = c.args in
    let t = a.tree.now in
    let mid = c.look_up.new.tree in
    let tree = log_tree content size t in
    let D = a.dir.now in
    let nm = a.name.now in
    let H = handle_of c.in_ok-within.within.id in
    let dir = c.in_ok-within.ensures in
    let up = c.in_ok-look_up.ensures in
    let child = c.in_ok-look_up.field-0 in
    let K = made_content a.kind a.text.now in
    let B = length a.text.now in
    let over = c.if-not-has_bytes.ensures in
    let full : t.limits.bytes < (used tree - 0) + (512 + B) =
    omega (arith, over, ap used up.1.tree_is, ap (λ (l : ServerLimits). l.bytes) up.1.limits) in
    stayed content size faults (λ s. Make K B s D nm) (λ t h after. Made t D nm K h after) (λ v e. MakeErr t.limits D nm B v e) t mid (λ r b k. k) c.requires.kept Full up.1 (inr full) (λ b. b)

pub returns-in_err-id : goal.returns-in_err-id
returns-in_err-id g c =
    let content = g.M.Medium.content in
    let size = g.M.Medium.size in
    let faults = g.M.Medium.faults in
    let a = c.args in
    let t = a.tree.now in
    let mid = c.look_up.new.tree in
    let tree = log_tree content size t in
    let D = a.dir.now in
    let nm = a.name.now in
    let H = handle_of c.in_ok-within.within.id in
    let dir = c.in_ok-within.ensures in
    let up = c.in_ok-look_up.ensures in
    let child = c.in_ok-look_up.field-0 in
    let K = made_content a.kind a.text.now in
    let B = length a.text.now in
    let new = c.make.new.self in
    let e = c.in_err-id.field-0.0 in
    let p = err_from_is_err_and c.from_residual-in_err-id.result c.from_residual-in_err-id.ensures.1 in
    rw (p.1, p.2) (fell content size faults (λ s. Make K B s D nm) (λ t h after. Made t D nm K h after) (λ v e. MakeErr t.limits D nm B v e) t new (λ r b k. k) c.requires.kept e
    (off_after content size faults t mid new tree e up.1 (off_answer content size faults mid new c.make.result e
    c.make.ensures.changes (sym c.answered.ensures ∙ c.in_err-id.was))))

pub returns : goal.returns
returns g c =
    let content = g.M.Medium.content in
    let size = g.M.Medium.size in
    let faults = g.M.Medium.faults in
    let a = c.args in
    let t = a.tree.now in
    let mid = c.look_up.new.tree in
    let tree = log_tree content size t in
    let D = a.dir.now in
    let nm = a.name.now in
    let H = handle_of c.in_ok-within.within.id in
    let dir = c.in_ok-within.ensures in
    let up = c.in_ok-look_up.ensures in
    let child = c.in_ok-look_up.field-0 in
    let K = made_content a.kind a.text.now in
    let B = length a.text.now in
    let new = c.make.new.self in
    let id = c.in_ok-id.id in
    let ok = ok_answer c.make.result id (sym c.answered.ensures ∙ c.in_ok-id.was) in
    let m = c.make.ensures in
    let made = if_ok (λ i. Made (log_tree content size mid) H nm K (handle_of i) (Some (log_tree content size new)))
    c.make.result id m.made ok in
    did content size faults (λ s. Make K B s D nm) (λ t h after. Made t D nm K h after) (λ v e. MakeErr t.limits D nm B v e) t new (λ r b k. k) c.requires.kept c.handle_of.result
    (on_ok (IsKept content size new) c.make.result id m.kept ok) (m.changes.limits ∙ up.1.limits)
    (m.changes.size_is ∙ up.1.size_is)
    (on_ok (faults (log_medium new) ≡ faults (log_medium mid)) c.make.result id m.changes.cause.ok ok ∙ up.1.faults_are)
    (subst (λ h. Made tree D nm K h (Some (log_tree content size new))) (sym c.handle_of.ensures)
    (subst (λ d. Made tree d nm K (handle_of id) (Some (log_tree content size new))) (sym dir.0)
    (subst (λ v. Made v H nm K (handle_of id) (Some (log_tree content size new))) up.1.tree_is made)))
    (make_soft t.limits tree D nm B (lacks_name tree D H nm child dir.0 up.0 c.in_default.is dir.1))
