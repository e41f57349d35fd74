use Rattle.std.proofs.Common.{◌∙◌, IsSome, sym, ap, subst}
use Rattle.std.specs.FinMap.{get}
use Rattle.server_trait.specs.Tree.{links, names_at, node_at, unnamed, without_node}
use Rattle.server_trait.proofs.TreeLaws.{some_none}
use Rattle.server_trait.proofs.SoftLaws.{some_of}
use Rattle.log_tree.specs.Held.{handle_of}
use Rattle.log_index.specs.Memory.{memory_of}
use Rattle.log_changes.specs.Kept.{log_live, log_tree}
use Rattle.log_changes.specs.Made.{IsBareDir}
use Rattle.log_changes.proofs.ButLaws.{all_sound}
use Rattle.log_changes.proofs.DirLaws.{kept_there, target_of}
use Rattle.log_changes.proofs.KeptLaws.{info_of}
use Rattle.log_changes.proofs.WholeLaws.{apart, bare_after, child_there, last_links, leaf_after, let_go-none, let_go-some, more_links}
use Rattle.log_changes.proofs.tree.LogTree.take_out.Goals as goal

pub unreachable-requires : goal.unreachable-requires
unreachable-requires g c =
    let a = c.args in
    let tree = log_tree g.M.Medium.content g.M.Medium.size a.self.now in
    let live = log_live g.M.Medium.content g.M.Medium.size a.self.now in
    let f = target_of a.self.now.limits live (handle_of a.dir.now) a.name.now (handle_of a.child.now) c.requires.kept.sound
    c.requires.leads in
    let there = some_of (get (memory_of a.self.now.index).nodes a.child.now)
    (kept_there tree (memory_of a.self.now.index) a.child.now f.child c.requires.kept.indexed c.told-child f.is_child) in
    absurd (some_none there.1 (sym c.get.ensures ∙ c.in_default.is))

pub drop_node-requires-clause-there : goal.drop_node-requires-clause-there
drop_node-requires-clause-there g c =
    let a = c.args in
    let live = log_live g.M.Medium.content g.M.Medium.size a.self.now in
    subst (λ t. IsSome (node_at t (handle_of a.child.now))) (sym c.in_ok-drop_name.ensures.unnamed)
    (child_there a.self.now.limits live (handle_of a.dir.now) a.name.now a.child.now c.requires.kept.sound c.told-child
    c.requires.leads)

pub drop_node-requires-clause-unlinked : goal.drop_node-requires-clause-unlinked
drop_node-requires-clause-unlinked g c =
    let a = c.args in
    let tree = log_tree g.M.Medium.content g.M.Medium.size a.self.now in
    let live = log_live g.M.Medium.content g.M.Medium.size a.self.now in
    let C = handle_of a.child.now in
    let f = target_of a.self.now.limits live (handle_of a.dir.now) a.name.now C c.requires.kept.sound c.requires.leads in
    let says = info_of tree a.child.now f.child (memory_of a.self.now.index) c.in-Some.info c.requires.kept.indexed
    c.told-child f.is_child (sym c.in-Some.is ∙ c.get.ensures) in
    ap (λ t. links t C) c.in_ok-drop_name.ensures.unnamed
    ∙ last_links a.self.now.limits live (handle_of a.dir.now) a.name.now a.child.now c.requires.kept.sound c.told-child
    c.requires.leads f.child c.in-Some.info f.is_child says (sym c.if-not-is_last.ensures)

pub drop_node-requires-clause-bare : goal.drop_node-requires-clause-bare
drop_node-requires-clause-bare g c =
    let a = c.args in
    let live = log_live g.M.Medium.content g.M.Medium.size a.self.now in
    subst (λ t. IsBareDir t (handle_of a.child.now)) (sym c.in_ok-drop_name.ensures.unnamed)
    (bare_after a.self.now.limits live (handle_of a.dir.now) a.name.now a.child.now c.requires.kept.sound c.told-child
    c.requires.leads c.requires.bare)

pub drop_node-requires-clause-apart : goal.drop_node-requires-clause-apart
drop_node-requires-clause-apart g c =
    let a = c.args in
    let live = log_live g.M.Medium.content g.M.Medium.size a.self.now in
    apart a.self.now.limits live (handle_of a.dir.now) a.name.now a.child.now c.requires.kept.sound c.told-child
    c.requires.leads

pub returns-then-not-is_last-clause-removed : goal.returns-then-not-is_last-clause-removed
returns-then-not-is_last-clause-removed g c =
    let a = c.args in
    let tree = log_tree g.M.Medium.content g.M.Medium.size a.self.now in
    let live = log_live g.M.Medium.content g.M.Medium.size a.self.now in
    let C = handle_of a.child.now in
    let f = target_of a.self.now.limits live (handle_of a.dir.now) a.name.now C c.requires.kept.sound c.requires.leads in
    let says = info_of tree a.child.now f.child (memory_of a.self.now.index) c.in-Some.info c.requires.kept.indexed
    c.told-child f.is_child (sym c.in-Some.is ∙ c.get.ensures) in
    let more = more_links a.self.now.limits live (handle_of a.dir.now) a.name.now a.child.now c.requires.kept.sound
    c.told-child c.requires.leads f.child c.in-Some.info f.is_child says (sym c.if-not-is_last.ensures) in
    c.in_ok-drop_name.ensures.unnamed ∙ sym (let_go-some (unnamed tree (handle_of a.dir.now) a.name.now) C more.0)

pub returns-then-not-is_last-clause-kept : goal.returns-then-not-is_last-clause-kept
returns-then-not-is_last-clause-kept g c =
    let a = c.args in
    let tree = log_tree g.M.Medium.content g.M.Medium.size a.self.now in
    let live = log_live g.M.Medium.content g.M.Medium.size in
    let C = handle_of a.child.now in
    let f = target_of a.self.now.limits (live a.self.now) (handle_of a.dir.now) a.name.now C c.requires.kept.sound
    c.requires.leads in
    let says = info_of tree a.child.now f.child (memory_of a.self.now.index) c.in-Some.info c.requires.kept.indexed
    c.told-child f.is_child (sym c.in-Some.is ∙ c.get.ensures) in
    let more = more_links a.self.now.limits (live a.self.now) (handle_of a.dir.now) a.name.now a.child.now
    c.requires.kept.sound c.told-child c.requires.leads f.child c.in-Some.info f.is_child says (sym c.if-not-is_last.ensures) in
    let none = leaf_after a.self.now.limits (live a.self.now) (handle_of a.dir.now) a.name.now a.child.now
    c.requires.kept.sound c.told-child c.requires.leads f.child c.in-Some.info f.is_child says more.1 in
    let k = c.in_ok-drop_name.ensures.kept in
    record {
      store = k.store;
      sound = all_sound C c.drop_name.new.self.limits (live c.drop_name.new.self) k.sound
          (λ m at. absurd (some_none at (ap (λ t. names_at t C) c.in_ok-drop_name.ensures.unnamed ∙ none)));
      indexed = k.indexed;
      large = k.large;
    }

pub returns-clause-removed : goal.returns-clause-removed
returns-clause-removed g c =
    let a = c.args in
    let tree = log_tree g.M.Medium.content g.M.Medium.size a.self.now in
    let live = log_live g.M.Medium.content g.M.Medium.size a.self.now in
    let C = handle_of a.child.now in
    let u = unnamed tree (handle_of a.dir.now) a.name.now in
    let f = target_of a.self.now.limits live (handle_of a.dir.now) a.name.now C c.requires.kept.sound c.requires.leads in
    let says = info_of tree a.child.now f.child (memory_of a.self.now.index) c.in-Some.info c.requires.kept.indexed
    c.told-child f.is_child (sym c.in-Some.is ∙ c.get.ensures) in
    let none = last_links a.self.now.limits live (handle_of a.dir.now) a.name.now a.child.now c.requires.kept.sound
    c.told-child c.requires.leads f.child c.in-Some.info f.is_child says (sym c.if-not-is_last.ensures) in
    c.in_ok-drop_node.ensures.gone ∙ (ap (λ t. without_node t C) c.in_ok-drop_name.ensures.unnamed
    ∙ sym (let_go-none u C none))
