use Rattle.std.proofs.Common.{◌≡◌, List, Some}
use Rattle.server_trait.specs.Tree.{Tree}
use Rattle.abs_model.specs.declared.entry.Entry.{Entry}
use Rattle.abs_model.specs.declared.entry.NameRow.{NameRow}
use Rattle.rebuilding.specs.Make.{CanMake, made_to, staged_to}
use Rattle.staging.specs.Staged.{StagedAt}
use Rattle.rebuilding.proofs.making.make.Given as goal

-- the first indexes have what is to stand there
abbrev pub invariant-loop-i : goal.invariant-loop-i
invariant-loop-i g l = record {
  limits : ((goal.FileServer-dyn g (l.server.vtable, l.server.value)).state l.server.value).limits ≡ ((goal.FileServer-dyn g (l.fn.server.vtable, l.fn.server.value)).state l.fn.server.value).limits;
  faults : ((goal.FileServer-dyn g (l.server.vtable, l.server.value)).state l.server.value).faults ≡ ((goal.FileServer-dyn g (l.fn.server.vtable, l.fn.server.value)).state l.fn.server.value).faults;
  made : (t : Tree) (A : List Entry) (S : List NameRow) → ((goal.FileServer-dyn g (l.fn.server.vtable, l.fn.server.value)).state l.fn.server.value).tree ≡ Some t →
      CanMake t ((goal.FileServer-dyn g (l.fn.server.vtable, l.fn.server.value)).state l.fn.server.value).limits l.staging l.fn.table A S l.after l.stays →
      StagedAt ((goal.FileServer-dyn g (l.server.vtable, l.server.value)).state l.server.value).tree l.staging l.table (made_to A l.after l.stays l.i) (staged_to S l.after l.stays l.i);
}
