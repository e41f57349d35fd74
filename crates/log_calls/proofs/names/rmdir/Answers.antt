use Rattle.std.proofs.Common.{inr, ◌≡◌, ◌∙◌, Some, sym, ap, subst}
use Rattle.server_trait.specs.Step.{HasNames, IsNo}
use Rattle.server_trait.specs.Calls.{Removed, Rmdir, RmdirErr}
use Rattle.server_trait.specs.Tree.{let_go, names_in, unnamed}
use Rattle.server_trait.specs.declared.server.SrvErr.TheVariants.{NoEnt, NotDir, NotEmpty}
use Rattle.server_trait.proofs.NameSoftLaws.{rmdir_soft}
use Rattle.server_trait.proofs.TreeLaws.{is_some_and}
use Rattle.log_tree.specs.Held.{handle_of}
use Rattle.log_changes.specs.Kept.{log_live, log_tree}
use Rattle.log_calls.specs.State.{Does}
use Rattle.log_calls.proofs.NameLaws.{bare_by_len, empty_by_len, lacks_name, leads_to, leaf_known, not_bare}
use Rattle.log_calls.proofs.StateLaws.{ended, on_ok, stayed}
use Rattle.log_calls.proofs.names.rmdir.Goals as goal

pub returns-in_default : goal.returns-in_default
returns-in_default g c =
    let content = g.M.Medium.content in
    let size = g.M.Medium.size in
    let faults = g.M.Medium.faults in
    let a = c.args in
    let t = a.tree.now in
    let mid = c.look_up.new.tree in
    let tree = log_tree content size t in
    let D = a.dir.now in
    let nm = a.name.now in
    let H = handle_of c.in_ok-within.within.id in
    let dir = c.in_ok-within.ensures in
    let up = c.in_ok-node.ensures in
    let child = c.in_ok-node.field-0 in
    stayed content size faults (λ s. Rmdir s D nm) (λ t _ after. Removed t D nm after) (λ v e. RmdirErr D nm v e) t mid (λ r b k. k) c.requires.kept NoEnt up.1
    (lacks_name tree D H nm child dir.0 up.0 c.in_default.is dir.1) (λ b. b)

pub returns-in_default-names_in : goal.returns-in_default-names_in
returns-in_default-names_in g c =
    let content = g.M.Medium.content in
    let size = g.M.Medium.size in
    let faults = g.M.Medium.faults in
    let a = c.args in
    let t = a.tree.now in
    let mid = c.look_up.new.tree in
    let tree = log_tree content size t in
    let D = a.dir.now in
    let nm = a.name.now in
    let H = handle_of c.in_ok-within.within.id in
    let dir = c.in_ok-within.ensures in
    let up = c.in_ok-node.ensures in
    let child = c.in_ok-node.field-0 in
    let C = handle_of c.in-Some.node in
    let leads = leads_to tree D H nm child dir.0 up.0 c.in-Some.node c.in-Some.is in
    let live = log_live content size t in
    stayed content size faults (λ s. Rmdir s D nm) (λ t _ after. Removed t D nm after) (λ v e. RmdirErr D nm v e) t mid (λ r b k. k) c.requires.kept NotDir up.1
    (inr (is_some_and (IsNo names_in tree) leads (leaf_known t.limits live (log_tree content size mid) D nm C
    c.requires.kept.sound leads up.1.tree_is c.in_default-names_in.ensures))) (λ b. b)

pub returns-then-names-ne0 : goal.returns-then-names-ne0
returns-then-names-ne0 g c =
    let content = g.M.Medium.content in
    let size = g.M.Medium.size in
    let faults = g.M.Medium.faults in
    let a = c.args in
    let t = a.tree.now in
    let mid = c.look_up.new.tree in
    let tree = log_tree content size t in
    let D = a.dir.now in
    let nm = a.name.now in
    let H = handle_of c.in_ok-within.within.id in
    let dir = c.in_ok-within.ensures in
    let up = c.in_ok-node.ensures in
    let child = c.in_ok-node.field-0 in
    let C = handle_of c.in-Some.node in
    let leads = leads_to tree D H nm child dir.0 up.0 c.in-Some.node c.in-Some.is in
    stayed content size faults (λ s. Rmdir s D nm) (λ t _ after. Removed t D nm after) (λ v e. RmdirErr D nm v e) t mid (λ r b k. k) c.requires.kept NotEmpty up.1
    (is_some_and (HasNames tree) leads (not_bare (log_tree content size mid) tree C c.in-Some-names_in.names up.1.tree_is
    c.in-Some-names_in.ensures c.if-names-ne0.true)) (λ b. b)

pub take_out-requires-clause-bare : goal.take_out-requires-clause-bare
take_out-requires-clause-bare g c =
    bare_by_len (log_tree g.M.Medium.content g.M.Medium.size c.look_up.new.tree) (handle_of c.in-Some.node)
    c.in-Some-names_in.names c.in-Some-names_in.ensures c.if-names-ne0.false

pub returns : goal.returns
returns g c =
    let content = g.M.Medium.content in
    let size = g.M.Medium.size in
    let faults = g.M.Medium.faults in
    let a = c.args in
    let t = a.tree.now in
    let mid = c.look_up.new.tree in
    let tree = log_tree content size t in
    let D = a.dir.now in
    let nm = a.name.now in
    let H = handle_of c.in_ok-within.within.id in
    let dir = c.in_ok-within.ensures in
    let up = c.in_ok-node.ensures in
    let child = c.in_ok-node.field-0 in
    let C = handle_of c.in-Some.node in
    let leads = leads_to tree D H nm child dir.0 up.0 c.in-Some.node c.in-Some.is in
    let new = c.take_out.new.self in
    subst (λ r. Does content size faults (λ s. Rmdir s D nm) t r new) (sym c.answered.ensures)
    (ended content size faults (λ s. Rmdir s D nm) (λ t _ after. Removed t D nm after) (λ v e. RmdirErr D nm v e) t new (λ r b k. k) c.requires.kept mid up.1 c.take_out.result c.take_out.ensures.changes
    c.take_out.ensures.kept
    (λ x e. is_some_and (λ h. Some (log_tree content size new) ≡ Some (let_go (unnamed tree D nm) h)) leads
    (ap Some (on_ok (log_tree content size new ≡ let_go (unnamed (log_tree content size mid) H nm) C) c.take_out.result x
    c.take_out.ensures.removed e
    ∙ (ap (λ v. let_go (unnamed v H nm) C) up.1.tree_is ∙ ap (λ d. let_go (unnamed tree d nm) C) (sym dir.0)))))
    (rmdir_soft tree D nm C leads (empty_by_len (log_tree content size mid) tree C c.in-Some-names_in.names up.1.tree_is
    c.in-Some-names_in.ensures c.if-names-ne0.false)))
