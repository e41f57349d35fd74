use Rattle.std.proofs.Common.{◌≡◌, Some, sym, ap, ◌∙◌}
use Rattle.std.specs.FinMap.{get, insert}
use Rattle.server_trait.specs.Tree.{ByBytes}
use Rattle.server_trait.proofs.TreeLaws.{some_and}
use Rattle.path_server.specs.declared.node.PathNode.{PathNode}
use Rattle.path_server.specs.Nodes.{one_less}
use Rattle.path_server.specs.State.{kept_by}
use Rattle.path_server.proofs.NamedLaws.{IsDirNode, some_is, is_some_none, grown}
use Rattle.path_server.proofs.Recounted.{two_sets}
use Rattle.path_server.proofs.RenameLaws.{Moving, enough_names, enough_subdirs, few_moved, tree_moved, sound_moved, stored_moved}
use Rattle.path_server.proofs.tree.PathTree.move_name.Goals as goal

pub without_name-requires-clause-names : goal.without_name-requires-clause-names
without_name-requires-clause-names c = let s = c.args.self.now in
    enough_names s.limits s.next s.bytes (kept_by s) (s.sound c.requires.held) c.args.from.now c.args.name.now
    c.args.moved.now c.args.within c.args.kind c.requires.from.0 c.requires.from.1 c.requires.can.is_moved c.requires.can.leads

pub without_name-requires-clause-subdirs : goal.without_name-requires-clause-subdirs
without_name-requires-clause-subdirs c = let s = c.args.self.now in
    enough_subdirs s.limits s.next s.bytes (kept_by s) (s.sound c.requires.held) c.args.from.now c.args.name.now
    c.args.moved.now c.args.within c.args.kind c.requires.from.0 c.requires.from.1 c.requires.can.is_moved c.requires.can.leads

pub set-requires : goal.set-requires
set-requires c = some_is c.requires.from.0

pub unreachable-requires : goal.unreachable-requires
unreachable-requires c =
    let into = some_and _ IsDirNode c.requires.can.to_dir in
    is_some_none (grown _ _ _ _ _ c.set.ensures.nodes into.1) (sym c.get.ensures ∙ c.in_default.is)

pub with_name-requires : goal.with_name-requires
with_name-requires c =
    let s = c.args.self.now in
    let into : get (insert (kept_by s).nodes c.args.from.now (one_less c.args.kind c.args.within)) c.args.to.now
    ≡ Some c.in-Some.into = sym (ap (λ (m : ByBytes PathNode). get m c.args.to.now) (c.set.ensures.nodes
    ∙ ap (insert (kept_by s).nodes c.args.from.now) c.without_name.ensures)) ∙ sym c.get.ensures ∙ c.in-Some.is in
    let m : Moving s.limits s.next s.bytes (kept_by s) c.args.from.now c.args.name.now c.args.to.now c.args.to_name.now
    c.args.moved.now c.args.kind c.args.within c.in-Some.into = record {
      sound = s.sound c.requires.held;
      is_from = c.requires.from;
      can = c.requires.can;
      is_into = into;
    } in
    let few = few_moved m s.limited in
    record { names = few.0; subdirs = few.1 }

pub set-requires-2 : goal.set-requires-2
set-requires-2 c = some_is (sym c.get.ensures ∙ c.in-Some.is)

pub invariant_of-self-2 : goal.invariant_of-self-2
invariant_of-self-2 c =
    let s = c.args.self.now in
    let into : get (insert (kept_by s).nodes c.args.from.now (one_less c.args.kind c.args.within)) c.args.to.now
    ≡ Some c.in-Some.into = sym (ap (λ (m : ByBytes PathNode). get m c.args.to.now) (c.set.ensures.nodes
    ∙ ap (insert (kept_by s).nodes c.args.from.now) c.without_name.ensures)) ∙ sym c.get.ensures ∙ c.in-Some.is in
    let m : Moving s.limits s.next s.bytes (kept_by s) c.args.from.now c.args.name.now c.args.to.now c.args.to_name.now
    c.args.moved.now c.args.kind c.args.within c.in-Some.into = record {
      sound = s.sound c.requires.held;
      is_from = c.requires.from;
      can = c.requires.can;
      is_into = into;
    } in
    let put = two_sets (kept_by s).nodes c.args.from.now c.args.to.now c.set.ensures.nodes c.set-2.ensures.nodes
    c.without_name.ensures c.with_name.ensures in
    let bytes = c.set-2.ensures.bytes ∙ c.set.ensures.bytes in
    record {
      limited = s.limited;
      sound = λ _. sound_moved m put bytes c.in_ok-rename.ensures.moved.names;
      stored = λ _. stored_moved m put bytes c.in_ok-rename.ensures.moved.names s.names c.rename.new.self
          (s.stored c.requires.held) c.in_ok-rename.ensures.moved;
    }

pub returns-clause-ok : goal.returns-clause-ok
returns-clause-ok c =
    let s = c.args.self.now in
    let into : get (insert (kept_by s).nodes c.args.from.now (one_less c.args.kind c.args.within)) c.args.to.now
    ≡ Some c.in-Some.into = sym (ap (λ (m : ByBytes PathNode). get m c.args.to.now) (c.set.ensures.nodes
    ∙ ap (insert (kept_by s).nodes c.args.from.now) c.without_name.ensures)) ∙ sym c.get.ensures ∙ c.in-Some.is in
    let m : Moving s.limits s.next s.bytes (kept_by s) c.args.from.now c.args.name.now c.args.to.now c.args.to_name.now
    c.args.moved.now c.args.kind c.args.within c.in-Some.into = record {
      sound = s.sound c.requires.held;
      is_from = c.requires.from;
      can = c.requires.can;
      is_into = into;
    } in
    ap Some (tree_moved m (two_sets (kept_by s).nodes c.args.from.now c.args.to.now c.set.ensures.nodes
    c.set-2.ensures.nodes c.without_name.ensures c.with_name.ensures) (c.set-2.ensures.bytes ∙ c.set.ensures.bytes)
    c.in_ok-rename.ensures.moved.names)
