use Rattle.std.proofs.Common.{sym}
use Rattle.conf_map.proofs.NameTests.{not_found, dir_call, dot_found, name_good, can_follow, name_found}
use Rattle.conf_map.proofs.name.find_name.Goals as goal

pub returns-in-Err-clause-found : goal.returns-in-Err-clause-found
returns-in-Err-clause-found g c A k =
    not_found _ c.args.table.now c.args.dir.now c.args.name.now c.args.dot c.in_ok-d.field-0
    c.in_ok-d.ensures.found A k c.in-Err.refused c.in-Err.is

pub returns-then-is_dot-clause-found : goal.returns-then-is_dot-clause-found
returns-then-is_dot-clause-found g c A k = dot_found _ c.args.table.now c.args.dir.now c.args.name.now c.args.dot
    c.in_ok-d.field-0 c.in_ok-d.ensures.found c.in-Ok.d c.in-Ok.is
    A k (sym c.if-is_dot.ensures)

pub follow-requires-clause-dir : goal.follow-requires-clause-dir
follow-requires-clause-dir g c =
    can_follow _ c.args.table.now c.args.dir.now c.args.name.now c.args.dot c.in_ok-d.field-0
    c.in_ok-d.ensures.found c.in-Ok.d c.in-Ok.is
    _ c.in_ok-d.ensures.same c.requires.stands

pub follow-requires-clause-live : goal.follow-requires-clause-live
follow-requires-clause-live g c =
    (dir_call _ c.args.table.now c.args.dir.now c.args.name.now c.args.dot c.in_ok-d.field-0 c.in_ok-d.ensures.found c.in-Ok.d
    c.in-Ok.is c.requires.stands.0 c.requires.stands.1).live

pub follow-requires-clause-name : goal.follow-requires-clause-name
follow-requires-clause-name g c =
    name_good _ c.args.table.now c.args.dir.now c.args.name.now c.args.dot c.in_ok-d.field-0
    c.in_ok-d.ensures.found c.in-Ok.d c.in-Ok.is
    c.requires.stands c.requires.short (sym c.if-is_dot.ensures)

pub returns-clause-found : goal.returns-clause-found
returns-clause-found g c = name_found _ c.args.table.now c.args.dir.now c.args.name.now c.args.dot c.in_ok-d.field-0
    c.in_ok-d.ensures.found c.in-Ok.d c.in-Ok.is
    _ c.in_ok-d.ensures.same c.requires.short (sym c.if-is_dot.ensures) c.in_ok-at.at c.in_ok-at.ensures.found
