use Rattle.std.proofs.Common.{arith, ◌∙◌, sym}
use Rattle.log_segments.proofs.Puts.{place_inside, found_some, found_none}
use Rattle.log_segments.proofs.log.Log.find.Goals as goal

pub overflow_add-self : goal.overflow_add-self
overflow_add-self g c =
    let h = place_inside _ _ _ _ _ _ _ c.requires.log (sym c.get.ensures
    ∙ c.in-Some.is) in omega (arith, h.inside, c.requires.log.few)

pub read-requires : goal.read-requires
read-requires g c = (place_inside _ _ _ _ _ _ _ c.requires.log (sym c.get.ensures ∙ c.in-Some.is)).inside

pub returns-in_ok-read-in-Some-clause-found : goal.returns-in_ok-read-in-Some-clause-found
returns-in_ok-read-in-Some-clause-found g c =
    found_some _ _ _ _ _ _ c.args.key.now c.read.new.into c.requires.log (sym c.get.ensures
    ∙ c.in-Some.is) c.in_ok-read-in-Some.ensures.bytes

pub returns-in-None-clause-found : goal.returns-in-None-clause-found
returns-in-None-clause-found g c = found_none _ _ _ _ _ c.args.key.now c.requires.log (sym c.get.ensures ∙ c.in-None.is)
