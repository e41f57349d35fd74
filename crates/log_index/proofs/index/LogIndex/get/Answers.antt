use Rattle.std.proofs.Common.{sym}
use Rattle.std.specs.Cmp.Lexicographic.{nat_list_cmp_total}
use Rattle.log_segments.proofs.MapViews.{get-view}
use Rattle.log_index.proofs.index.LogIndex.get.Goals as goal

pub returns : goal.returns
returns c = rw (c.copied.ensures, c.get.ensures.value) (sym
    (get-view nat_list_cmp_total c.args.self.now.nodes.entries c.args.id.now))
