use Rattle.wrap_make.proofs.Spots.{create_refused, old_live, size_refused, old_file, file_refused, new_file_found}
use Rattle.wrap_make.proofs.spot.find_spot.Goals as goal

pub returns-in-Err-clause-found : goal.returns-in-Err-clause-found
returns-in-Err-clause-found g c A k = create_refused c.args.limits.now c.requires.within _ c.args.table.now
    c.args.dir.now c.args.name.now c.args.sattr.now c.in_ok-named.field-0 c.in_ok-named.ensures.found
    A k c.in-Err.refused c.in-Err.is

pub present_file-requires-clause-live : goal.present_file-requires-clause-live
present_file-requires-clause-live g c = old_live c.args.limits.now c.requires.within _ c.args.table.now c.args.dir.now
    c.args.name.now c.args.sattr.now c.in_ok-named.field-0 c.in_ok-named.ensures.found
    c.in-Ok.named c.in-Ok.is c.in-Some.at c.in-Some.is c.requires.stands

pub returns-in-Ok-2-clause-found : goal.returns-in-Ok-2-clause-found
returns-in-Ok-2-clause-found g c A k = old_file c.args.limits.now c.requires.within _ c.args.table.now
    c.args.dir.now c.args.name.now c.args.sattr.now c.in_ok-named.field-0 c.in_ok-named.ensures.found
    c.in-Ok.named c.in-Ok.is c.in-Some.at c.in-Some.is
    _ c.in_ok-named.ensures.same c.in_ok-before-in-Some.ensures.found A k c.in-Ok-2.before c.in-Ok-2.is

pub returns-in-Err-2-clause-found : goal.returns-in-Err-2-clause-found
returns-in-Err-2-clause-found g c A k = size_refused c.args.limits.now c.requires.within _ c.args.table.now
    c.args.dir.now c.args.name.now c.args.sattr.now c.in_ok-named.field-0 c.in_ok-named.ensures.found
    c.in-Ok.named c.in-Ok.is c.in-Some.at c.in-Some.is
    _ c.in_ok-named.ensures.same c.in_ok-before-in-Some.ensures.found A k c.in-Err-2.refused c.in-Err-2.is

pub returns-in-Ok-index_of_file-clause-found : goal.returns-in-Ok-index_of_file-clause-found
returns-in-Ok-index_of_file-clause-found g c A k = new_file_found c.args.limits.now c.requires.within _ c.args.table.now
    c.args.dir.now c.args.name.now c.args.sattr.now c.in_ok-named.field-0 c.in_ok-named.ensures.found
    c.in-Ok.named c.in-Ok.is c.in-None.is
    c.unwrap_or.ensures c.index_of_file.ensures A k c.in-Ok-index_of_file.index c.in-Ok-index_of_file.is

pub returns-in-Err-index_of_file-clause-found : goal.returns-in-Err-index_of_file-clause-found
returns-in-Err-index_of_file-clause-found g c A k = file_refused c.args.limits.now c.requires.within _ c.args.table.now
    c.args.dir.now c.args.name.now c.args.sattr.now c.in_ok-named.field-0 c.in_ok-named.ensures.found
    c.in-Ok.named c.in-Ok.is c.in-None.is
    c.unwrap_or.ensures c.index_of_file.ensures A k c.in-Err-index_of_file.refused c.in-Err-index_of_file.is
