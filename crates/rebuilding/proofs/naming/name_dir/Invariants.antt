use Rattle.std.proofs.Common.{◌≡◌, List, Some}
use Rattle.server_trait.specs.Tree.{Tree}
use Rattle.abs_model.specs.declared.entry.Entry.{Entry}
use Rattle.abs_model.specs.declared.entry.NameRow.{NameRow}
use Rattle.rebuilding.specs.Name.{CanNameDir, bits_to, out_to, put_to}
use Rattle.staging.specs.Staged.{StagedAt}
use Rattle.rebuilding.proofs.naming.name_dir.Given as goal

-- the first names stand in the directory
abbrev pub invariant-loop-k : goal.invariant-loop-k
invariant-loop-k g l = record {
  limits : ((goal.FileServer-dyn g (l.server.vtable, l.server.value)).state l.server.value).limits ≡ ((goal.FileServer-dyn g (l.fn.server.vtable, l.fn.server.value)).state l.fn.server.value).limits;
  faults : ((goal.FileServer-dyn g (l.server.vtable, l.server.value)).state l.server.value).faults ≡ ((goal.FileServer-dyn g (l.fn.server.vtable, l.fn.server.value)).state l.fn.server.value).faults;
  bits : l.staged ≡ bits_to l.fn.staged l.rows l.k;
  named : (t : Tree) (A C : List Entry) (S : List NameRow) → ((goal.FileServer-dyn g (l.fn.server.vtable, l.fn.server.value)).state l.fn.server.value).tree ≡ Some t →
      CanNameDir t ((goal.FileServer-dyn g (l.fn.server.vtable, l.fn.server.value)).state l.fn.server.value).limits l.staging l.table A C S l.fn.staged l.d l.rows →
      StagedAt ((goal.FileServer-dyn g (l.server.vtable, l.server.value)).state l.server.value).tree l.staging l.table (put_to A l.d l.rows l.k) (out_to S l.fn.staged l.rows l.k);
}
