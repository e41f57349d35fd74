use Rattle.path_server.proofs.SlotLaws.{nodes_taken, bytes_taken}
use Rattle.path_server.proofs.nodes.NodeSlab.remove.Goals as goal

pub returns-clause-nodes : goal.returns-clause-nodes
returns-clause-nodes c = nodes_taken c.args.self.now c.try_remove.new.self c.args.handle.now c.place_of.result
    c.place_of.ensures c.requires c.try_remove.ensures.updates

pub returns-clause-bytes : goal.returns-clause-bytes
returns-clause-bytes c = bytes_taken c.args.self.now c.try_remove.new.self c.args.handle.now c.place_of.result
    c.place_of.ensures c.requires c.try_remove.ensures.updates
