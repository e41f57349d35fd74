use Rattle.std.proofs.Common.{◌∙◌, length, sym, ap, subst, arith}
use Rattle.log_segments.specs.Segments.{half_size}
use Rattle.log_store.specs.Store.{live_in}
use Rattle.log_held.specs.Room.{IsLarge}
use Rattle.log_index.specs.Memory.{memory_of, none_kept}
use Rattle.log_index.specs.Changes.{AddsNode}
use Rattle.log_changes.proofs.WipeLaws.{root_info, fresh, sound, indexed}
use Rattle.log_tree.specs.Held.{root_id}
use Rattle.log_changes.proofs.tree.LogTree.wipe.Goals as goal

pub put_node-requires-clause-room : goal.put_node-requires-clause-room
put_node-requires-clause-room g c =
    let none = ap length c.in_ok-clear.ensures.empty in
    let size = ap half_size c.in_ok-clear.ensures.size in
    omega (arith, none, size, c.requires)

pub returns-clause-fresh : goal.returns-clause-fresh
returns-clause-fresh g c =
    let live = live_in g.M.Medium.content g.M.Medium.size in
    let e = c.in_ok-put_node.ensures in
    fresh c.args.self.now.limits (live c.clear.new.self) (live c.put_node.new.self) c.in_ok-clear.ensures.empty e.puts e.here
    e.others

pub returns-clause-kept : goal.returns-clause-kept
returns-clause-kept g c =
    let t = c.args.self.now in
    let live = live_in g.M.Medium.content g.M.Medium.size in
    let e = c.in_ok-put_node.ensures in
    let adds : AddsNode none_kept root_id root_info 0 (memory_of c.add_node.new.self) =
    subst (λ m. AddsNode m root_id root_info 0 (memory_of c.add_node.new.self)) c.new.ensures c.in_ok-add_node.ensures in
    record {
      store = e.writes.store;
      sound = sound t.limits (live c.clear.new.self) (live c.put_node.new.self) c.in_ok-clear.ensures.empty e.puts e.here
          e.others;
      indexed = indexed t.limits (live c.clear.new.self) (live c.put_node.new.self) c.in_ok-clear.ensures.empty e.puts
          e.here e.others (memory_of c.add_node.new.self) adds;
      large = subst (IsLarge t.limits) (sym (e.writes.size_is ∙ c.in_ok-clear.ensures.size)) c.requires.large;
    }
