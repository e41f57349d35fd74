use Rattle.std.proofs.Common.{◌∙◌, sym, subst, arith}
use Rattle.abs_model.specs.Array.{empty_array}
use Rattle.conf_map.specs.Stands.{HasRoom}
use Rattle.rebuilding.proofs.Finals.{rows_as_entries}
use Rattle.rebuilding.proofs.building.rebuild.Goals as goal

pub fresh-requires-clause-some : goal.fresh-requires-clause-some
fresh-requires-clause-some g c = c.requires.within.0

pub fresh-requires-clause-room : goal.fresh-requires-clause-room
fresh-requires-clause-room g c = let a = c.requires.room.nodes in let b = c.requires.room.bytes in (a, omega (arith, b))

pub staging_of-requires : goal.staging_of-requires
staging_of-requires g c = record { stands = (empty_array c.args.limits.now.n, c.in_ok-fresh.ensures.stands) }

pub build-requires-clause-stands : goal.build-requires-clause-stands
build-requires-clause-stands g c = c.in_ok-staging.ensures.staging (empty_array c.args.limits.now.n) c.in_ok-fresh.ensures.stands

pub build-requires-clause-room : goal.build-requires-clause-room
build-requires-clause-room g c = subst (HasRoom c.args.limits.now) (sym (c.in_ok-staging.ensures.watched.limits ∙ c.in_ok-fresh.ensures.watched.limits)) c.requires.room

pub settle-requires-clause-size : goal.settle-requires-clause-size
settle-requires-clause-size g c = rows_as_entries _ _ _ _ _ c.in_ok-build.ensures.built

pub returns-clause-stands : goal.returns-clause-stands
returns-clause-stands g c = c.settle.ensures.stands _ _ c.in_ok-build.ensures.built
