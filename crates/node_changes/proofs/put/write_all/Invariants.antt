use Rattle.std.proofs.Common.{length, take, ◌-◌, ◌≤◌}
use Rattle.node_changes.proofs.WriteLaws.{HasTaken}
use Rattle.node_changes.proofs.put.write_all.Given as goal

-- the server has taken the piece as far as it is done
abbrev pub invariant-loop-done : goal.invariant-loop-done
invariant-loop-done g l = record {
  within : l.done ≤ length l.piece;
  taken : HasTaken ((goal.FileServer-dyn g (l.fn.server.vtable, l.fn.server.value)).state l.fn.server.value)
      ((goal.FileServer-dyn g (l.server.vtable, l.server.value)).state l.server.value) l.file l.offset
      (take l.done l.piece);
}

abbrev pub decreases-loop-done : goal.decreases-loop-done
decreases-loop-done g l = length l.piece - l.done
