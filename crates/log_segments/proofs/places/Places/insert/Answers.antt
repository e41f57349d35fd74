use Rattle.std.specs.Cmp.Lexicographic.{nat_list_cmp_total}
use Rattle.log_segments.proofs.MapViews.{bytes_exact, insert-view}
use Rattle.log_segments.proofs.places.Places.insert.Goals as goal

pub returns : goal.returns
returns c = rw (← c.self.view_is) (insert-view nat_list_cmp_total bytes_exact c.self.inside.places.entries
    c.insert.new.self.entries c.args.key c.args.place (record { at = c.in_ok-insert.ensures.updates.0 }))
