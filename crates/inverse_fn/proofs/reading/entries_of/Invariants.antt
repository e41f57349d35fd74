use Rattle.std.proofs.Common.{◌≡◌, List, take}
use Rattle.abs_model.specs.declared.entry.Entry.{Entry}
use Rattle.conf_map.specs.Stands.{StandValid}
use Rattle.inverse_fn.proofs.reading.entries_of.Given as goal

-- the first entries are read, and the server is as it was
abbrev pub invariant-loop-i : goal.invariant-loop-i
invariant-loop-i g l = record {
  limits : ((goal.FileServer-dyn g (l.server.vtable, l.server.value)).state l.server.value).limits ≡ ((goal.FileServer-dyn g (l.fn.server.vtable, l.fn.server.value)).state l.fn.server.value).limits;
  faults : ((goal.FileServer-dyn g (l.server.vtable, l.server.value)).state l.server.value).faults ≡ ((goal.FileServer-dyn g (l.fn.server.vtable, l.fn.server.value)).state l.fn.server.value).faults;
  tree : ((goal.FileServer-dyn g (l.server.vtable, l.server.value)).state l.server.value).tree ≡ ((goal.FileServer-dyn g (l.fn.server.vtable, l.fn.server.value)).state l.fn.server.value).tree;
  read : (A : List Entry) → StandValid ((goal.FileServer-dyn g (l.fn.server.vtable, l.fn.server.value)).state l.fn.server.value).tree l.table A → l.entries.items ≡ take l.i A;
}
