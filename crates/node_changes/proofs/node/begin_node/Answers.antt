use Rattle.std.proofs.Common.{ap, sym}
use Rattle.node_changes.specs.Objects.{new_of, content_of}
use Rattle.node_changes.proofs.NewNodes.{begun_or_not}
use Rattle.node_changes.proofs.node.begin_node.Goals as goal

pub returns-in-Dir-clause-begun : goal.returns-in-Dir-clause-begun
returns-in-Dir-clause-begun g c = begun_or_not _ _ c.args.dir.now c.args.name.now _ _ c.make_node_dir.result
    (ap (λ n. content_of (new_of n)) (sym c.in-Dir.is)) c.requires.lacks c.make_node_dir.ensures.made

pub returns-in-Link-clause-begun : goal.returns-in-Link-clause-begun
returns-in-Link-clause-begun g c = begun_or_not _ _ c.args.dir.now c.args.name.now _ _ c.make_link.result
    (ap (λ n. content_of (new_of n)) (sym c.in-Link.is)) c.requires.lacks c.make_link.ensures.made
