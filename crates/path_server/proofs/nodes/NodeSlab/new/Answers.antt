use Rattle.std.proofs.Common.{List, Option, ap, ◌∙◌}
use Rattle.path_store.specs.Tables.{table}
use Rattle.path_store.proofs.TableLaws.{empty-table}
use Rattle.path_server.specs.declared.nodes.NodeSlot.{NodeSlot}
use Rattle.path_server.proofs.SlotLaws.{handle, node, text}
use Rattle.path_server.proofs.nodes.NodeSlab.new.Goals as goal

pub returns-clause-nodes : goal.returns-clause-nodes
returns-clause-nodes c = ap (λ (l : List (Option NodeSlot)). table handle node l) c.new.ensures.empty
    ∙ empty-table handle node

pub returns-clause-bytes : goal.returns-clause-bytes
returns-clause-bytes c = ap (λ (l : List (Option NodeSlot)). table handle text l) c.new.ensures.empty
    ∙ empty-table handle text
