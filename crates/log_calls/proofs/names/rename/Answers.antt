use Rattle.std.proofs.Common.{◌≡◌, ◌∙◌, None, Some, sym, ap, subst}
use Rattle.std.specs.Prelude.{IsSomeAnd, option_map}
use Rattle.server_trait.specs.Step.{IsAtOrBelow}
use Rattle.server_trait.specs.Calls.{IsDir, Rename, RenameErr, renamed}
use Rattle.server_trait.specs.Tree.{named, names_at, target, unnamed}
use Rattle.server_trait.specs.declared.server.SrvErr.TheVariants.{NoEnt, Refused, Subtree}
use Rattle.server_trait.proofs.NameSoftLaws.{CanRename, rename_soft}
use Rattle.server_trait.proofs.SoftLaws.{some_of}
use Rattle.server_trait.proofs.TreeLaws.{is_some_and, some_none}
use Rattle.log_tree.specs.Held.{handle_of}
use Rattle.log_changes.specs.Kept.{log_tree}
use Rattle.log_calls.specs.State.{Does}
use Rattle.log_calls.proofs.NameLaws.{above_is_dir, has_name, lacks_name, leads_to, renamed_new}
use Rattle.log_calls.proofs.StateLaws.{ended, on_after, on_ok, stayed}
use Rattle.log_calls.proofs.names.rename.Goals as goal

pub returns-in_default : goal.returns-in_default
returns-in_default g c =
    let content = g.M.Medium.content in
    let size = g.M.Medium.size in
    let faults = g.M.Medium.faults in
    let a = c.args in
    let t = a.tree.now in
    let one = c.look_up.new.tree in
    let tree = log_tree content size t in
    let F = a.from.now in
    let T = a.to.now in
    let nm = a.name.now in
    let to_nm = a.to_name.now in
    let S = handle_of c.in_ok-source.source.id in
    let G = handle_of c.in_ok-goal.goal.id in
    let from = c.in_ok-source.ensures in
    let into = c.in_ok-goal.ensures in
    let up = c.in_ok-node.ensures in
    let child = c.in_ok-node.field-0 in
    stayed content size faults (λ s. Rename s F nm T to_nm) (λ t _ after. IsSomeAnd (target t F nm) (λ h. after ≡ Some (renamed t F nm T to_nm h))) (λ v e. RenameErr F nm T to_nm v e) t one (λ r b k. k) c.requires.kept NoEnt up.1
    (lacks_name tree F S nm child from.0 up.0 c.in_default.is from.1) (λ b. b)

pub returns-in-Some-2 : goal.returns-in-Some-2
returns-in-Some-2 g c =
    let content = g.M.Medium.content in
    let size = g.M.Medium.size in
    let faults = g.M.Medium.faults in
    let a = c.args in
    let t = a.tree.now in
    let one = c.look_up.new.tree in
    let tree = log_tree content size t in
    let F = a.from.now in
    let T = a.to.now in
    let nm = a.name.now in
    let to_nm = a.to_name.now in
    let S = handle_of c.in_ok-source.source.id in
    let G = handle_of c.in_ok-goal.goal.id in
    let from = c.in_ok-source.ensures in
    let into = c.in_ok-goal.ensures in
    let up = c.in_ok-node.ensures in
    let child = c.in_ok-node.field-0 in
    let two = c.look_up-2.new.tree in
    let up_two = c.in_ok-look_up.ensures in
    let other = c.in_ok-look_up.field-0 in
    let on = on_after content size faults t one two tree up.1 up_two.1 in
    let C = handle_of c.in-Some.node in
    let leads = leads_to tree F S nm child from.0 up.0 c.in-Some.node c.in-Some.is in
    let told_two : option_map handle_of other ≡ target tree G to_nm =
    up_two.0 ∙ ap (λ v. target v G to_nm) up.1.tree_is in
    stayed content size faults (λ s. Rename s F nm T to_nm) (λ t _ after. IsSomeAnd (target t F nm) (λ h. after ≡ Some (renamed t F nm T to_nm h))) (λ v e. RenameErr F nm T to_nm v e) t two (λ r b k. k) c.requires.kept Refused on
    (has_name tree T G to_nm other into.0 told_two c.in-Some-2.field-0 c.in-Some-2.is) (λ b. b)

pub returns-then-is_below : goal.returns-then-is_below
returns-then-is_below g c =
    let content = g.M.Medium.content in
    let size = g.M.Medium.size in
    let faults = g.M.Medium.faults in
    let a = c.args in
    let t = a.tree.now in
    let one = c.look_up.new.tree in
    let tree = log_tree content size t in
    let F = a.from.now in
    let T = a.to.now in
    let nm = a.name.now in
    let to_nm = a.to_name.now in
    let S = handle_of c.in_ok-source.source.id in
    let G = handle_of c.in_ok-goal.goal.id in
    let from = c.in_ok-source.ensures in
    let into = c.in_ok-goal.ensures in
    let up = c.in_ok-node.ensures in
    let child = c.in_ok-node.field-0 in
    let two = c.look_up-2.new.tree in
    let up_two = c.in_ok-look_up.ensures in
    let other = c.in_ok-look_up.field-0 in
    let on = on_after content size faults t one two tree up.1 up_two.1 in
    let C = handle_of c.in-Some.node in
    let leads = leads_to tree F S nm child from.0 up.0 c.in-Some.node c.in-Some.is in
    let told_two : option_map handle_of other ≡ target tree G to_nm =
    up_two.0 ∙ ap (λ v. target v G to_nm) up.1.tree_is in
    let below : IsAtOrBelow tree C T = subst (IsAtOrBelow tree C) (sym into.0)
    (subst (λ v. IsAtOrBelow v C G) on.tree_is c.if-is_below.ensures) in
    stayed content size faults (λ s. Rename s F nm T to_nm) (λ t _ after. IsSomeAnd (target t F nm) (λ h. after ≡ Some (renamed t F nm T to_nm h))) (λ v e. RenameErr F nm T to_nm v e) t two (λ r b k. k) c.requires.kept Subtree on
    (is_some_and (λ h. IsDir tree h × IsAtOrBelow tree h T) leads (above_is_dir tree C T below into.1, below)) (λ b. b)

pub returns : goal.returns
returns g c =
    let content = g.M.Medium.content in
    let size = g.M.Medium.size in
    let faults = g.M.Medium.faults in
    let a = c.args in
    let t = a.tree.now in
    let one = c.look_up.new.tree in
    let tree = log_tree content size t in
    let F = a.from.now in
    let T = a.to.now in
    let nm = a.name.now in
    let to_nm = a.to_name.now in
    let S = handle_of c.in_ok-source.source.id in
    let G = handle_of c.in_ok-goal.goal.id in
    let from = c.in_ok-source.ensures in
    let into = c.in_ok-goal.ensures in
    let up = c.in_ok-node.ensures in
    let child = c.in_ok-node.field-0 in
    let two = c.look_up-2.new.tree in
    let up_two = c.in_ok-look_up.ensures in
    let other = c.in_ok-look_up.field-0 in
    let on = on_after content size faults t one two tree up.1 up_two.1 in
    let C = handle_of c.in-Some.node in
    let leads = leads_to tree F S nm child from.0 up.0 c.in-Some.node c.in-Some.is in
    let told_two : option_map handle_of other ≡ target tree G to_nm =
    up_two.0 ∙ ap (λ v. target v G to_nm) up.1.tree_is in
    let new = c.move_name.new.self in
    let none : target tree T to_nm ≡ None = ap (λ d. target tree d to_nm) into.0 ∙ (sym told_two
    ∙ ap (option_map handle_of) c.in_default-2.is) in
    let free : IsAtOrBelow tree C T → ⊥ = λ below. c.if-is_below.ensures
    (subst (λ v. IsAtOrBelow v C G) (sym on.tree_is) (subst (IsAtOrBelow tree C) into.0 below)) in
    let dir = some_of (names_at tree T) into.1 in
    let can : CanRename tree F nm T to_nm C = record {
      is_moved = leads;
      into = dir.0;
      is_into = dir.1;
      not_below = λ _. free;
      fits = λ r is _. absurd (some_none is none);
    } in
    subst (λ r. Does content size faults (λ s. Rename s F nm T to_nm) t r new) (sym c.answered.ensures)
    (ended content size faults (λ s. Rename s F nm T to_nm) (λ t _ after. IsSomeAnd (target t F nm) (λ h. after ≡ Some (renamed t F nm T to_nm h))) (λ v e. RenameErr F nm T to_nm v e) t new (λ r b k. k) c.requires.kept two on c.move_name.result c.move_name.ensures.changes
    c.move_name.ensures.kept
    (λ x e. is_some_and (λ h. Some (log_tree content size new) ≡ Some (renamed tree F nm T to_nm h)) leads
    (ap Some (on_ok (log_tree content size new ≡ named (unnamed (log_tree content size two) S nm) G to_nm C)
    c.move_name.result x c.move_name.ensures.moved e
    ∙ (ap (λ v. named (unnamed v S nm) G to_nm C) on.tree_is
    ∙ (ap (λ d. named (unnamed tree d nm) G to_nm C) (sym from.0)
    ∙ (ap (λ d. named (unnamed tree F nm) d to_nm C) (sym into.0) ∙ sym (renamed_new tree F nm T to_nm C none)))))))
    (rename_soft can))
