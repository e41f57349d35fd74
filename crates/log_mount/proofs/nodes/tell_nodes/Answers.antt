use Rattle.std.proofs.Common.{◌≡◌, length, refl, sym, subst, arith}
use Rattle.log_store.specs.Store.{records_in}
use Rattle.log_index.specs.Memory.{memory_of}
use Rattle.log_mount.specs.Told.{HasTold, among_nodes}
use Rattle.log_mount.proofs.NodeTurns.{nodes_begin, nodes_end}
use Rattle.log_mount.proofs.nodes.tell_nodes.Goals as goal

pub loop-place-init : goal.loop-place-init
loop-place-init g c =
    let records = records_in g.M.Medium.content g.M.Medium.size c.args.store.now in
    record {
      told = subst (HasTold among_nodes records 0) (sym c.requires.empty) (nodes_begin records);
      store = c.requires.store;
      content_is = refl;
      size_is = refl;
      faults = refl;
    }

pub returns-clause-told : goal.returns-clause-told
returns-clause-told g c =
    let l = c.loop-place in
    let records = records_in g.M.Medium.content g.M.Medium.size c.args.store.now in
    let whole : l.place ≡ length records = omega (arith, c.len-place-end.ensures) in
    nodes_end records l.place (memory_of l.index) whole l.invariant.told
