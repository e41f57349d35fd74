use Rattle.std.proofs.Common.{ap, ◌∙◌}
use Rattle.std.specs.FinMap.{insert, empty}
use Rattle.server_trait.specs.Tree.{ByBytes}
use Rattle.path_store.specs.Stored.{Stored}
use Rattle.path_server.specs.Slots.{nodes_in, bytes_in}
use Rattle.path_server.specs.declared.node.PathNode.{PathNode}
use Rattle.path_server.proofs.ChangeLaws.{fresh_after, sound_started, stored_started}
use Rattle.path_server.proofs.tree.PathTree.start.Goals as goal

pub invariant_of-self-2 : goal.invariant_of-self-2
invariant_of-self-2 c =
    let s = c.args.self.now in
    let root = c.in_ok-self.field-0 in
    let put = c.in_ok-self.ensures.nodes ∙ ap (λ (m : ByBytes PathNode). insert m root c.new-root.result) c.new.ensures.nodes
    ∙ ap (λ (p : PathNode). insert empty root p) c.new-root.ensures in
    record {
      limited = s.limited;
      sound = λ _. sound_started s.next root c.in_ok-self.ensures.handle_is (nodes_in c.insert.new.self)
          (bytes_in c.insert.new.self) c.in_ok-self-2.field-0.names put
          (ap (λ (s : Stored). s.names) c.in_ok-self-2.ensures) s.limits c.in-Some.next c.in-Some.ensures.1;
      stored = λ _. stored_started s.next root c.in_ok-self.ensures.handle_is (nodes_in c.insert.new.self)
          (bytes_in c.insert.new.self) c.in_ok-self-2.field-0.names put
          (ap (λ (s : Stored). s.names) c.in_ok-self-2.ensures) c.in_ok-self-2.field-0 c.in_ok-self-2.ensures;
    }

pub returns-clause-ok : goal.returns-clause-ok
returns-clause-ok c =
    let root = c.in_ok-self.field-0 in
    fresh_after c.args.self.now.next root c.in_ok-self.ensures.handle_is (nodes_in c.insert.new.self)
    (bytes_in c.insert.new.self) c.in_ok-self-2.field-0.names
    (c.in_ok-self.ensures.nodes ∙ ap (λ (m : ByBytes PathNode). insert m root c.new-root.result) c.new.ensures.nodes
    ∙ ap (λ (p : PathNode). insert empty root p) c.new-root.ensures)
    (ap (λ (s : Stored). s.names) c.in_ok-self-2.ensures)
