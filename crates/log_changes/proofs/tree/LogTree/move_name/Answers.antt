use Rattle.std.proofs.Common.{◌∙◌, IsSome, sym, ap, subst, arith}
use Rattle.server_trait.specs.Step.{LacksName}
use Rattle.server_trait.specs.Tree.{named, node_at, used}
use Rattle.tree_laws.proofs.CountChanges.{used-unnamed}
use Rattle.log_tree.specs.Held.{handle_of}
use Rattle.log_changes.specs.Kept.{log_live, log_tree}
use Rattle.log_changes.specs.Made.{IsFreeDir}
use Rattle.log_changes.proofs.DirLaws.{target_of}
use Rattle.log_changes.proofs.WholeLaws.{child_there, free_dir_after, lacks_after}
use Rattle.log_changes.proofs.tree.LogTree.move_name.Goals as goal

pub add_name-requires-clause-new : goal.add_name-requires-clause-new
add_name-requires-clause-new g c =
    let a = c.args in
    let tree = log_tree g.M.Medium.content g.M.Medium.size in
    let live = log_live g.M.Medium.content g.M.Medium.size a.self.now in
    let f = target_of a.self.now.limits live (handle_of a.from.now) a.name.now (handle_of a.child.now) c.requires.kept.sound
    c.requires.leads in
    subst (λ t. LacksName t (handle_of a.to.now) a.to_name.now) (sym c.in_ok-drop_name.ensures.unnamed)
    (lacks_after (tree a.self.now) (handle_of a.from.now) a.name.now (handle_of a.to.now) a.to_name.now f.dir f.names f.is_dir
    f.has c.requires.new)

pub add_name-requires-clause-there : goal.add_name-requires-clause-there
add_name-requires-clause-there g c =
    let a = c.args in
    let live = log_live g.M.Medium.content g.M.Medium.size a.self.now in
    subst (λ t. IsSome (node_at t (handle_of a.child.now))) (sym c.in_ok-drop_name.ensures.unnamed)
    (child_there a.self.now.limits live (handle_of a.from.now) a.name.now a.child.now c.requires.kept.sound c.told-child
    c.requires.leads)

pub add_name-requires-clause-free : goal.add_name-requires-clause-free
add_name-requires-clause-free g c =
    let a = c.args in
    let live = log_live g.M.Medium.content g.M.Medium.size a.self.now in
    subst (λ t. IsFreeDir t a.child.now) (sym c.in_ok-drop_name.ensures.unnamed)
    (free_dir_after a.self.now.limits live (handle_of a.from.now) a.name.now a.child.now c.requires.kept.sound c.told-child
    c.requires.leads)

pub add_name-requires-clause-room : goal.add_name-requires-clause-room
add_name-requires-clause-room g c =
    let a = c.args in
    let tree = log_tree g.M.Medium.content g.M.Medium.size in
    let live = log_live g.M.Medium.content g.M.Medium.size a.self.now in
    let f = target_of a.self.now.limits live (handle_of a.from.now) a.name.now (handle_of a.child.now) c.requires.kept.sound
    c.requires.leads in
    let less = used-unnamed (tree a.self.now) (handle_of a.from.now) a.name.now f.dir f.names f.is_dir f.has
    (handle_of a.child.now) f.leads in
    let same = ap used c.in_ok-drop_name.ensures.unnamed in
    let limits = ap (λ l. l.bytes) c.in_ok-drop_name.ensures.changes.limits in
    let few = c.requires.kept.sound.few_bytes in
    omega arith

pub returns-clause-moved : goal.returns-clause-moved
returns-clause-moved g c =
    let a = c.args in
    c.in_ok-add_name.ensures.named
    ∙ ap (λ t. named t (handle_of a.to.now) a.to_name.now (handle_of a.child.now)) c.in_ok-drop_name.ensures.unnamed
