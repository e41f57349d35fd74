use Rattle.std.proofs.Common.{◌≡◌, List, Some}
use Rattle.server_trait.specs.Tree.{Tree}
use Rattle.abs_model.specs.declared.entry.Entry.{Entry}
use Rattle.abs_model.specs.declared.entry.NameRow.{NameRow}
use Rattle.rebuilding.specs.Name.{CanName, all_bits_to, all_out_to, named_to}
use Rattle.staging.specs.Staged.{StagedAt}
use Rattle.rebuilding.proofs.naming.name.Given as goal

-- the first directories have their names
abbrev pub invariant-loop-d : goal.invariant-loop-d
invariant-loop-d g l = record {
  limits : ((goal.FileServer-dyn g (l.server.vtable, l.server.value)).state l.server.value).limits ≡ ((goal.FileServer-dyn g (l.fn.server.vtable, l.fn.server.value)).state l.fn.server.value).limits;
  faults : ((goal.FileServer-dyn g (l.server.vtable, l.server.value)).state l.server.value).faults ≡ ((goal.FileServer-dyn g (l.fn.server.vtable, l.fn.server.value)).state l.fn.server.value).faults;
  bits : l.staged ≡ all_bits_to l.fn.staged l.after l.d;
  named : (t : Tree) (A : List Entry) (S : List NameRow) → ((goal.FileServer-dyn g (l.fn.server.vtable, l.fn.server.value)).state l.fn.server.value).tree ≡ Some t →
      CanName t ((goal.FileServer-dyn g (l.fn.server.vtable, l.fn.server.value)).state l.fn.server.value).limits l.staging l.table A l.after S l.fn.staged →
      StagedAt ((goal.FileServer-dyn g (l.server.vtable, l.server.value)).state l.server.value).tree l.staging l.table (named_to A l.after l.d) (all_out_to S l.fn.staged l.after l.d);
}
