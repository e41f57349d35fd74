use Rattle.std.proofs.Common.{◌∙◌}
use Rattle.wrap_names.proofs.EndTests.{dirs_first, are_dirs, name_first, can_follow, can_follow_to, no_ent, ends_found}
use Rattle.wrap_names.proofs.ends.ends_of.Goals as goal

pub returns-in-Err-clause-found : goal.returns-in-Err-clause-found
returns-in-Err-clause-found g c A k = dirs_first _ c.args.table.now c.args.from.now c.args.name.now c.args.to.now
    c.args.to_name.now c.in_ok-dirs.field-0 c.in_ok-dirs.ensures.found A k c.in-Err.refused c.in-Err.is

pub returns-in-Some-clause-found : goal.returns-in-Some-clause-found
returns-in-Some-clause-found g c A k = name_first _ c.args.table.now c.args.from.now c.args.name.now c.args.to.now
    c.args.to_name.now c.in_ok-dirs.field-0 c.in_ok-dirs.ensures.found c.in-Ok.dirs c.in-Ok.is A k c.in-Some.refused
    c.in-Some.ensures

pub follow-requires-clause-dir : goal.follow-requires-clause-dir
follow-requires-clause-dir g c = can_follow _ c.args.table.now c.args.from.now c.args.name.now c.args.to.now
    c.args.to_name.now c.in_ok-dirs.field-0 c.in_ok-dirs.ensures.found c.in-Ok.dirs c.in-Ok.is c.in-None.ensures
    _ c.in_ok-dirs.ensures.same c.requires.stands

pub follow-requires-clause-live : goal.follow-requires-clause-live
follow-requires-clause-live g c = (are_dirs _ c.args.table.now c.args.from.now c.args.name.now c.args.to.now
    c.args.to_name.now c.in_ok-dirs.field-0 c.in_ok-dirs.ensures.found c.in-Ok.dirs c.in-Ok.is
    c.requires.stands.0 c.requires.stands.1).from_live

pub returns-in_default-clause-found : goal.returns-in_default-clause-found
returns-in_default-clause-found g c A k = no_ent _ c.args.table.now c.args.from.now c.args.name.now c.args.to.now
    c.args.to_name.now c.in_ok-dirs.field-0 c.in_ok-dirs.ensures.found c.in-Ok.dirs c.in-Ok.is c.in-None.ensures
    _ c.in_ok-dirs.ensures.same c.in_ok-at.field-0 c.in_ok-at.ensures.found c.in_default.is A k

pub follow-requires-2-clause-dir : goal.follow-requires-2-clause-dir
follow-requires-2-clause-dir g c = can_follow_to _ c.args.table.now c.args.from.now c.args.name.now c.args.to.now
    c.args.to_name.now c.in_ok-dirs.field-0 c.in_ok-dirs.ensures.found c.in-Ok.dirs c.in-Ok.is c.in-None.ensures
    _ (c.in_ok-at.ensures.same ∙ c.in_ok-dirs.ensures.same) c.requires.stands

pub follow-requires-2-clause-live : goal.follow-requires-2-clause-live
follow-requires-2-clause-live g c = (are_dirs _ c.args.table.now c.args.from.now c.args.name.now c.args.to.now
    c.args.to_name.now c.in_ok-dirs.field-0 c.in_ok-dirs.ensures.found c.in-Ok.dirs c.in-Ok.is
    c.requires.stands.0 c.requires.stands.1).to_live

pub returns-clause-found : goal.returns-clause-found
returns-clause-found g c = ends_found _ c.args.table.now c.args.from.now c.args.name.now c.args.to.now
    c.args.to_name.now c.in_ok-dirs.field-0 c.in_ok-dirs.ensures.found c.in-Ok.dirs c.in-Ok.is c.in-None.ensures
    _ c.in_ok-dirs.ensures.same c.in_ok-at.field-0 c.in_ok-at.ensures.found c.requires.short c.requires.to_short
    c.in-Some-2.at c.in-Some-2.is _ (c.in_ok-at.ensures.same ∙ c.in_ok-dirs.ensures.same) c.in_ok-over.over
    c.in_ok-over.ensures.found
