use Rattle.wrap_names.proofs.LinkTests.{new_refused, name_taken, name_new}
use Rattle.wrap_names.proofs.link.find_new.Goals as goal

pub returns-in-Err-clause-found : goal.returns-in-Err-clause-found
returns-in-Err-clause-found g c A k = new_refused _ c.args.table.now c.args.dir.now c.args.name.now
    c.in_ok-named.field-0 c.in_ok-named.ensures.found A k c.in-Err.refused c.in-Err.is

pub returns-in-Some-clause-found : goal.returns-in-Some-clause-found
returns-in-Some-clause-found g c A k = name_taken _ c.args.table.now c.args.dir.now c.args.name.now
    c.in_ok-named.field-0 c.in_ok-named.ensures.found c.in-Ok.named c.in-Ok.is A k _ c.in-Some.is

pub returns-in-None-clause-found : goal.returns-in-None-clause-found
returns-in-None-clause-found g c A k = name_new _ c.args.table.now c.args.dir.now c.args.name.now
    c.in_ok-named.field-0 c.in_ok-named.ensures.found c.in-Ok.named c.in-Ok.is A k c.in-None.is
