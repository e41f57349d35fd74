use Rattle.std.specs.Cmp.Lexicographic.{nat_list_cmp_total}
use Rattle.log_segments.proofs.MapViews.{bytes_exact, remove-view}
use Rattle.log_segments.proofs.places.Places.remove.Goals as goal

pub returns : goal.returns
returns c = rw (← c.self.view_is) (remove-view nat_list_cmp_total bytes_exact c.self.inside.places.entries
    c.remove.new.self.entries c.args.key.now (record { at = c.remove.ensures.updates.0 }))
