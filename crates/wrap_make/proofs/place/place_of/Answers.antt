use Rattle.std.proofs.Common.{sym, subst}
use Rattle.wrap_make.proofs.Refusals.{stands_still, name_refused, taken, space_found, place_found}
use Rattle.wrap_make.proofs.place.place_of.Goals as goal

pub returns-in-Err-clause-found : goal.returns-in-Err-clause-found
returns-in-Err-clause-found g c A k = name_refused c.args.limits.now c.requires.within c.args.bytes _ c.args.table.now
    c.args.dir.now c.args.name.now c.in_ok-named.field-0 c.in_ok-named.ensures.found
    A k c.in-Err.refused c.in-Err.is

pub returns-then-is_some-clause-found : goal.returns-then-is_some-clause-found
returns-then-is_some-clause-found g c A k = taken c.args.limits.now c.requires.within c.args.bytes _ c.args.table.now
    c.args.dir.now c.args.name.now c.in_ok-named.field-0 c.in_ok-named.ensures.found
    c.in-Ok.named c.in-Ok.is A k (sym c.if-is_some.ensures)

pub new_index-requires-clause-stands : goal.new_index-requires-clause-stands
new_index-requires-clause-stands g c = (_, c.requires.stands.0, c.requires.stands.1)

pub returns-in-Some-clause-found : goal.returns-in-Some-clause-found
returns-in-Some-clause-found g c A k = place_found c.args.limits.now c.requires.within c.args.bytes _ c.args.table.now
    c.args.dir.now c.args.name.now c.in_ok-named.field-0 c.in_ok-named.ensures.found
    c.in-Ok.named c.in-Ok.is A k (sym c.if-is_some.ensures) c.new_index.result
    c.new_index.ensures c.in-Some.index c.in-Some.is

pub returns-in-None-clause-found : goal.returns-in-None-clause-found
returns-in-None-clause-found g c A k = space_found c.args.limits.now c.requires.within c.args.bytes _ c.args.table.now
    c.args.dir.now c.args.name.now c.in_ok-named.field-0 c.in_ok-named.ensures.found
    c.in-Ok.named c.in-Ok.is A k (sym c.if-is_some.ensures) c.new_index.result
    c.new_index.ensures c.in-None.is
