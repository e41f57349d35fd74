use Rattle.std.proofs.Common.{◌≡◌, length, subst, arith}
use Rattle.log_segments.specs.Newest.{live}
use Rattle.log_store.specs.Store.{records_in}
use Rattle.log_index.specs.Memory.{IsIndexed, memory_of}
use Rattle.log_mount.proofs.NodeTurns.{names_end}
use Rattle.log_mount.proofs.Parts.{tree_same}
use Rattle.log_mount.proofs.names.tell_names.Goals as goal

pub returns-clause-indexed : goal.returns-clause-indexed
returns-clause-indexed g c =
    let l = c.loop-place in
    let records = records_in g.M.Medium.content g.M.Medium.size c.args.store.now in
    let whole : l.place ≡ length records = omega (arith, c.len-place-end.ensures) in
    let t = names_end records l.place (memory_of l.index) whole l.invariant.told in
    subst (λ u. IsIndexed u (memory_of l.index)) (tree_same t.part (live records) t.parts) t.indexed
