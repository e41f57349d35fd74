use Rattle.std.proofs.Common.{List, Option, ap, ◌∙◌}
use Rattle.path_store.specs.Tables.{table}
use Rattle.path_store.specs.declared.dirs.DirRow.{DirRow}
use Rattle.path_store.proofs.TableLaws.{empty-table}
use Rattle.path_store.proofs.dirs.PathDirs.new.Goals as goal

pub returns : goal.returns
returns c = ap (λ (l : List (Option DirRow)). table (λ (r : DirRow). r.handle) (λ (r : DirRow). r.path) l) c.new.ensures.items
    ∙ empty-table (λ (r : DirRow). r.handle) (λ (r : DirRow). r.path)
