use Rattle.std.proofs.Common.{refl, sym, ◌∙◌}
use Rattle.path_server.proofs.SlotLaws.{comes, still_placed}
use Rattle.path_server.proofs.nodes.NodeSlab.insert.Goals as goal

pub invariant_of-self : goal.invariant_of-self
invariant_of-self c = record {
  placed = still_placed c.args.self.now c.insert.new.self c.args.serial c.vacant_key.result
      (record { handle = c.handle_of-handle.result; node = c.args.node; bytes = c.args.bytes }) c.insert.result
      c.vacant_key.type_inv c.handle_of-handle.ensures (rw c.vacant_key.ensures.value c.insert.ensures.key)
      c.insert.ensures.updates c.insert.ensures.err;
}

pub returns : goal.returns
returns c =
    let key = c.in-Ok.ensures.key ∙ sym c.vacant_key.ensures.value in
    comes c.args.self.now c.insert.new.self c.args.serial c.vacant_key.result c.vacant_key.type_inv
    (record { handle = c.handle_of-handle.result; node = c.args.node; bytes = c.args.bytes }) c.handle_of-handle.ensures
    (rw (← key) c.in-Ok.ensures.was_vacant) (rw (← key) c.in-Ok.ensures.updates) _ refl
