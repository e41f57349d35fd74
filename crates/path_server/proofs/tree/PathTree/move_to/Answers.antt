use Rattle.std.proofs.Common.{◌≡◌, ◌++◌, Bool, true, false, sym, refl, ◌∙◌}
use Rattle.std.specs.FinMap.{get}
use Rattle.nfs2_types.specs.declared.fattr.Kind.TheVariants.{Dir}
use Rattle.server_trait.proofs.TreeLaws.{some_and, is_some_and}
use Rattle.path_server.specs.State.{kept_by}
use Rattle.path_server.specs.declared.node.PathNode.{PathNode}
use Rattle.path_server.proofs.NamedLaws.{is_some_none}
use Rattle.path_server.proofs.RenameCalls.{rename-below, rename-ok}
use Rattle.path_server.proofs.tree.PathTree.move_to.Goals as goal

not_both : {b : Bool} → b ≡ true → b ≡ false → ⊥
not_both p q = let bad : true ≡ false = sym p ∙ q in cc

pub unreachable-requires : goal.unreachable-requires
unreachable-requires c = let s = c.args.self.now in
    is_some_none ((s.sound c.requires.held).named
    (c.args.from.now ++ c.args.name.now) c.args.moved.now c.requires.leads).1
    (sym c.get.ensures ∙ c.in_default.is)

pub moves_below-requires-clause-moved : goal.moves_below-requires-clause-moved
moves_below-requires-clause-moved c = is_some_and (λ (p : PathNode). p.kind ≡ c.in-Some.node.kind)
    (sym c.get.ensures
    ∙ c.in-Some.is) refl

pub move_name-requires-clause-can : goal.move_name-requires-clause-can
move_name-requires-clause-can c = record {
  is_moved = is_some_and (λ (p : PathNode). p.kind ≡ c.in-Some.node.kind) (sym c.get.ensures ∙ c.in-Some.is) refl;
  leads = c.requires.leads;
  to_dir = c.requires.to;
  new_name = c.requires.new_name;
  apart = λ is_dir below. not_both (c.moves_below.ensures.1 (is_dir, below)) c.if-moves_below.false;
}

pub returns-then-moves_below : goal.returns-then-moves_below
returns-then-moves_below c =
    let s = c.args.self.now in
    let below = c.moves_below.ensures.0 c.if-moves_below.true in
    rename-below s.held s.limits s.next s.bytes (kept_by s) s.sound c.args.from.now c.args.name.now c.args.to.now
    c.args.to_name.now c.args.within c.requires.from c.args.moved.now c.requires.leads c.in-Some.node (sym c.get.ensures ∙ c.in-Some.is) below.0 below.1

pub returns-in-Ok : goal.returns-in-Ok
returns-in-Ok c =
    let s = c.args.self.now in
    let into = some_and (get (kept_by s).nodes c.args.to.now) (λ (p : PathNode). p.kind ≡ Dir) c.requires.to in
    rename-ok s.held s.limits s.next s.bytes (kept_by s) s.sound c.args.from.now c.args.name.now c.args.to.now
    c.args.to_name.now c.args.within c.requires.from c.args.moved.now c.requires.leads c.in-Some.node (sym c.get.ensures ∙ c.in-Some.is) into.0
    (into.1, into.2)
    c.requires.new_name
    (λ is_dir below. not_both (c.moves_below.ensures.1 (is_dir, below)) c.if-moves_below.false)
    _ c.move_name.new.self.limits c.in-Ok.ensures.limits c.in-Ok.ensures.ok
