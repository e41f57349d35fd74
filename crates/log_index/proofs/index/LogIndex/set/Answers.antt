use Rattle.std.specs.Cmp.Lexicographic.{nat_list_cmp_total}
use Rattle.log_segments.proofs.MapViews.{bytes_exact, insert-view}
use Rattle.log_index.proofs.index.LogIndex.set.Goals as goal

pub returns-clause-nodes : goal.returns-clause-nodes
returns-clause-nodes c = insert-view nat_list_cmp_total bytes_exact c.args.self.now.nodes.entries
    c.insert.new.self.entries c.args.id.now c.args.info (record { at = c.in_ok-insert.ensures.updates.0 })
