use Rattle.std.proofs.Common.{◌∙◌, Some, sym, ap, subst, arith}
use Rattle.std.specs.Int.{from_be_bytes, w64}
use Rattle.server_trait.specs.Tree.{named, new_node}
use Rattle.server_trait.specs.Step.{LacksName}
use Rattle.log_tree.specs.Held.{handle_of}
use Rattle.log_changes.specs.Kept.{log_tree}
use Rattle.log_changes.specs.Made.{made_content}
use Rattle.log_changes.proofs.WholeLaws.{lacks_beside, there_beside, room_beside}
use Rattle.log_changes.proofs.tree.LogTree.make.Goals as goal

pub add_node-requires-clause-room : goal.add_node-requires-clause-room
add_node-requires-clause-room g c = omega (arith, c.requires.room)

pub add_name-requires-clause-new : goal.add_name-requires-clause-new
add_name-requires-clause-new g c =
    let tree = log_tree g.M.Medium.content g.M.Medium.size in
    let a = c.args in
    let made = c.in_ok-id.ensures.made in
    subst (λ t. LacksName t (handle_of a.dir.now) a.name.now) (sym made.tree)
    (lacks_beside (tree a.self.now) (handle_of c.in_ok-id.id) (new_node (from_be_bytes w64 c.in_ok-id.id)
    (made_content a.kind a.text.now)) (handle_of a.dir.now) a.name.now made.absent c.requires.new)

pub add_name-requires-clause-there : goal.add_name-requires-clause-there
add_name-requires-clause-there g c = there_beside _ _ _ _ c.in_ok-id.ensures.made.tree

pub add_name-requires-clause-free : goal.add_name-requires-clause-free
add_name-requires-clause-free g c = λ _. (c.in_ok-id.ensures.made.unlinked, c.in_ok-id.ensures.made.not_root)

pub add_name-requires-clause-room : goal.add_name-requires-clause-room
add_name-requires-clause-room g c =
    let tree = log_tree g.M.Medium.content g.M.Medium.size in
    let a = c.args in
    let e = c.in_ok-id.ensures in
    let more = room_beside (tree a.self.now) (tree c.add_node.new.self) (handle_of c.in_ok-id.id) (from_be_bytes w64 c.in_ok-id.id)
    a.kind a.text.now e.made.absent e.made.tree c.requires.plain in
    let limits = ap (λ l. l.bytes) e.changes.limits in
    omega (arith, c.requires.room)

pub returns-clause-made : goal.returns-clause-made
returns-clause-made g c =
    let a = c.args in
    let made = c.in_ok-id.ensures.made in
    record {
      number = from_be_bytes w64 c.in_ok-id.id;
      new_number = made.number;
      new_handle = made.absent;
      after = ap Some (c.in_ok-add_name.ensures.named
          ∙ ap (λ t. named t (handle_of a.dir.now) a.name.now (handle_of c.in_ok-id.id)) made.tree);
    }
