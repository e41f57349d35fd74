use Rattle.std.proofs.Common.{◌≡◌, List, Some}
use Rattle.server_trait.specs.Tree.{Tree}
use Rattle.abs_model.specs.declared.entry.Entry.{Entry}
use Rattle.abs_model.specs.declared.entry.NameRow.{NameRow}
use Rattle.rebuilding.specs.Fill.{CanDressAll, dressed_to}
use Rattle.staging.specs.Staged.{StagedAt}
use Rattle.rebuilding.proofs.filling.dress_all.Given as goal

-- the first objects have what they shall have
abbrev pub invariant-loop-i : goal.invariant-loop-i
invariant-loop-i g l = record {
  limits : ((goal.FileServer-dyn g (l.server.vtable, l.server.value)).state l.server.value).limits ≡ ((goal.FileServer-dyn g (l.fn.server.vtable, l.fn.server.value)).state l.fn.server.value).limits;
  faults : ((goal.FileServer-dyn g (l.server.vtable, l.server.value)).state l.server.value).faults ≡ ((goal.FileServer-dyn g (l.fn.server.vtable, l.fn.server.value)).state l.fn.server.value).faults;
  dressed : (t : Tree) (A : List Entry) (S : List NameRow) → ((goal.FileServer-dyn g (l.fn.server.vtable, l.fn.server.value)).state l.fn.server.value).tree ≡ Some t →
      CanDressAll t l.staging l.fn.table A S l.after → StagedAt ((goal.FileServer-dyn g (l.server.vtable, l.server.value)).state l.server.value).tree l.staging l.table (dressed_to A l.after l.i) S;
}
