use Rattle.std.proofs.Common.{arith}
use Rattle.node_changes.proofs.WriteLaws.{none_taken, still_has, write_fails, some_taken, most_taken, more_taken}
use Rattle.node_changes.proofs.put.write_all.Goals as goal

pub loop-done-init : goal.loop-done-init
loop-done-init g c = record {
  within = omega arith;
  taken = none_taken _ c.args.file.now c.requires.0 c.args.offset c.args.piece.now c.requires.1 c.requires.2;
}

pub write-requires-clause-tree : goal.write-requires-clause-tree
write-requires-clause-tree g c =
    still_has _ c.args.file.now c.requires.0 c.args.offset c.args.piece.now c.requires.1 c.requires.2 _
    c.loop-done.done c.loop-done-test.true c.loop-done.invariant.taken

pub broken-requires : goal.broken-requires
broken-requires g c =
    write_fails _ c.args.file.now c.requires.0 c.args.offset c.args.piece.now c.requires.1 c.requires.2 _
    c.loop-done.done c.loop-done-test.true c.loop-done.invariant.taken
    c.in-Err.error
    ((goal.FileServer-dyn g (c.write.new.self.vtable, c.write.new.self.value)).state c.write.new.self.value)
    c.in-Err.ensures

pub loop-done-smaller : goal.loop-done-smaller
loop-done-smaller g c =
    let some = some_taken _ c.args.file.now c.requires.0 c.args.offset c.args.piece.now c.requires.1 c.requires.2 _
    c.loop-done.done c.loop-done-test.true c.loop-done.invariant.taken c.in-Ok.count
    ((goal.FileServer-dyn g (c.write.new.self.vtable, c.write.new.self.value)).state c.write.new.self.value)
    c.in-Ok.ensures in
    omega (arith, some, c.loop-done-test.true)

pub loop-done-preserved : goal.loop-done-preserved
loop-done-preserved g c = record {
  within = most_taken _ c.args.file.now c.requires.0 c.args.offset c.args.piece.now c.requires.1 c.requires.2 _
      c.loop-done.done c.loop-done-test.true c.loop-done.invariant.taken c.in-Ok.count
      ((goal.FileServer-dyn g (c.write.new.self.vtable, c.write.new.self.value)).state c.write.new.self.value)
      c.in-Ok.ensures;
  taken = more_taken _ c.args.file.now c.requires.0 c.args.offset c.args.piece.now c.requires.1 c.requires.2 _
      c.loop-done.done c.loop-done-test.true c.loop-done.invariant.taken c.in-Ok.count
      ((goal.FileServer-dyn g (c.write.new.self.vtable, c.write.new.self.value)).state c.write.new.self.value)
      c.in-Ok.ensures;
}
