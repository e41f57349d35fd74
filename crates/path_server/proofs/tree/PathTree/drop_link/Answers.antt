use Rattle.path_server.proofs.tree.PathTree.drop_link.Goals as goal

pub drop_node-requires-clause-bare : goal.drop_node-requires-clause-bare
drop_node-requires-clause-bare c is_dir = absurd (c.requires.node.1 is_dir)
