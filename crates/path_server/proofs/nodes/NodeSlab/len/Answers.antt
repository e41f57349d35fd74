use Rattle.std.proofs.Common.{sym, ◌∙◌}
use Rattle.path_store.proofs.TableLaws.{len-table}
use Rattle.path_server.proofs.SlotLaws.{handle, node}
use Rattle.path_server.proofs.nodes.NodeSlab.len.Goals as goal

pub returns : goal.returns
returns c = c.len.ensures ∙ sym (len-table handle node c.args.self.now.slots.slots c.args.self.now.placed)
