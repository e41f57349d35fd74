use Rattle.std.proofs.Common.{ap, sym, ◌∙◌}
use Rattle.std.specs.FinMap.{insert}
use Rattle.path_server.specs.Slots.{nodes_in, bytes_in}
use Rattle.path_server.specs.State.{kept_by}
use Rattle.path_server.proofs.CallLaws.{set_attr-stale}
use Rattle.path_server.proofs.ChangeLaws.{set_attr-ok, sound_set, stored_set}
use Rattle.path_server.proofs.NamedLaws.{some_is}
use Rattle.path_server.proofs.tree.PathTree.set_attr.Goals as goal

pub returns-in_default : goal.returns-in_default
returns-in_default c =
    let s = c.args.self.now in
    set_attr-stale s.held s.limits s.next s.bytes (kept_by s) s.sound c.args.node.now c.args.mode c.args.uid
    c.args.gid (sym c.get.ensures ∙ c.in_default.is)

pub set-requires : goal.set-requires
set-requires c = some_is (sym c.get.ensures ∙ c.in-Some.is)

pub invariant_of-self : goal.invariant_of-self
invariant_of-self c =
    let s = c.args.self.now in
    let is = sym c.get.ensures ∙ c.in-Some.is in
    let put = c.set.ensures.nodes ∙ ap (insert (kept_by s).nodes c.args.node.now) c.with_attr-changed.ensures in
    record {
      limited = s.limited;
      sound = λ there. sound_set s.limits s.next s.bytes (kept_by s) c.args.node.now c.in-Some.kept c.args.mode
          c.args.uid c.args.gid is (nodes_in c.set.new.self) put (bytes_in c.set.new.self) c.set.ensures.bytes
          (s.sound there);
      stored = λ there. stored_set s.limits s.next s.bytes (kept_by s) c.args.node.now c.in-Some.kept c.args.mode
          c.args.uid c.args.gid is (nodes_in c.set.new.self) put (bytes_in c.set.new.self) c.set.ensures.bytes s.names
          (s.stored there);
    }

pub returns : goal.returns
returns c =
    let s = c.args.self.now in
    set_attr-ok s.limits s.next s.bytes (kept_by s) c.args.node.now c.in-Some.kept c.args.mode c.args.uid c.args.gid
    (sym c.get.ensures ∙ c.in-Some.is) (nodes_in c.set.new.self)
    (c.set.ensures.nodes ∙ ap (insert (kept_by s).nodes c.args.node.now) c.with_attr-changed.ensures)
    (bytes_in c.set.new.self) c.set.ensures.bytes s.held
