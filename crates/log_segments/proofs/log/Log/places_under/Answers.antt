use Rattle.log_segments.specs.Segments.{records_of}
use Rattle.log_segments.proofs.Falling.{places_fall}
use Rattle.log_segments.proofs.log.Log.places_under.Goals as goal

pub returns : goal.returns
returns g c =
    let e = c.in_ok-falling.ensures in
    places_fall (records_of g.M.Medium.content g.M.Medium.size c.args.self.now) c.args.self.now.places
    c.args.prefix.now c.in_ok-places.places c.in_ok-falling.field-0.items c.requires.places_are c.in_ok-places.ensures
    e.same e.rising
