use Rattle.wrap_names.proofs.OldTests.{name_refused, no_entry, old_found}
use Rattle.wrap_names.proofs.find.find_old.Goals as goal

pub returns-in-Err-clause-found : goal.returns-in-Err-clause-found
returns-in-Err-clause-found g c A k = name_refused _ c.args.table.now c.args.dir.now c.args.name.now
    c.in_ok-named.field-0 c.in_ok-named.ensures.found A k c.in-Err.refused c.in-Err.is

pub returns-in-Some-clause-found : goal.returns-in-Some-clause-found
returns-in-Some-clause-found g c A k = old_found _ c.args.table.now c.args.dir.now c.args.name.now
    c.in_ok-named.field-0 c.in_ok-named.ensures.found c.in-Ok.named c.in-Ok.is A k c.in-Some.at c.in-Some.is

pub returns-in-None-clause-found : goal.returns-in-None-clause-found
returns-in-None-clause-found g c A k = no_entry _ c.args.table.now c.args.dir.now c.args.name.now
    c.in_ok-named.field-0 c.in_ok-named.ensures.found c.in-Ok.named c.in-Ok.is A k c.in-None.is
