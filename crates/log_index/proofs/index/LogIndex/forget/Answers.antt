use Rattle.std.specs.Cmp.Lexicographic.{nat_list_cmp_total}
use Rattle.log_segments.proofs.MapViews.{bytes_exact, remove-view}
use Rattle.log_index.proofs.index.LogIndex.forget.Goals as goal

pub returns-clause-nodes : goal.returns-clause-nodes
returns-clause-nodes c = remove-view nat_list_cmp_total bytes_exact c.args.self.now.nodes.entries
    c.remove.new.self.entries c.args.id.now (record { at = c.remove.ensures.updates.0 })
