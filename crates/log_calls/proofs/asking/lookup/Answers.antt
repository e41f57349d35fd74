use Rattle.std.proofs.Common.{◌≡◌, ◌∙◌, Some, refl, sym, ap}
use Rattle.server_trait.specs.Calls.{Lookup, LookupErr}
use Rattle.server_trait.specs.Tree.{target}
use Rattle.server_trait.specs.declared.server.SrvErr.TheVariants.{NoEnt}
use Rattle.server_trait.proofs.SoftLaws.{lookup_soft}
use Rattle.log_tree.specs.Held.{handle_of}
use Rattle.log_changes.specs.Kept.{log_tree}
use Rattle.log_calls.proofs.NameLaws.{lacks_name, leads_to}
use Rattle.log_calls.proofs.StateLaws.{stayed, told}
use Rattle.log_calls.proofs.asking.lookup.Goals as goal

pub returns-in-Some : goal.returns-in-Some
returns-in-Some g c =
    let content = g.M.Medium.content in
    let size = g.M.Medium.size in
    let faults = g.M.Medium.faults in
    let a = c.args in
    let t = a.tree.now in
    let tree = log_tree content size t in
    let up = c.in_ok-node.ensures in
    let leads = leads_to tree a.dir.now (handle_of c.in_ok-dir.dir.id) a.name.now c.in_ok-node.field-0 c.in_ok-dir.ensures.0
    up.0 c.in-Some.node c.in-Some.is in
    let h : target tree a.dir.now a.name.now ≡ Some c.handle_of.result = leads ∙ ap Some (sym c.handle_of.ensures) in
    told content size faults (λ s. Lookup s a.dir.now a.name.now)
    (λ t h after. (target t a.dir.now a.name.now ≡ Some h) × (after ≡ Some t)) (λ v e. LookupErr a.dir.now a.name.now v e)
    t c.look_up.new.tree (λ r b k. k) c.requires.kept c.handle_of.result up.1 (h, refl)
    (lookup_soft tree a.dir.now a.name.now c.handle_of.result h)

pub returns-in-None : goal.returns-in-None
returns-in-None g c =
    let content = g.M.Medium.content in
    let size = g.M.Medium.size in
    let faults = g.M.Medium.faults in
    let a = c.args in
    let t = a.tree.now in
    let tree = log_tree content size t in
    let up = c.in_ok-node.ensures in
    stayed content size faults (λ s. Lookup s a.dir.now a.name.now)
    (λ t h after. (target t a.dir.now a.name.now ≡ Some h) × (after ≡ Some t)) (λ v e. LookupErr a.dir.now a.name.now v e)
    t c.look_up.new.tree (λ r b k. k) c.requires.kept NoEnt up.1
    (lacks_name tree a.dir.now (handle_of c.in_ok-dir.dir.id) a.name.now c.in_ok-node.field-0 c.in_ok-dir.ensures.0 up.0
    c.in-None.is c.in_ok-dir.ensures.1) (λ b. b)
