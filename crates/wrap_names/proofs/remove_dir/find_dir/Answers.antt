use Rattle.std.proofs.Common.{sym}
use Rattle.abs_model.specs.Array.{entry_at, at, target}
use Rattle.conf_map.proofs.Shows.{live_node}
use Rattle.wrap_names.proofs.OldTests.{old_refused, is_old, still_valid}
use Rattle.wrap_names.proofs.DirTests.{removal_tests, removal_refused, removal_found}
use Rattle.wrap_names.proofs.remove_dir.find_dir.Goals as goal

pub returns-in-Err-clause-found : goal.returns-in-Err-clause-found
returns-in-Err-clause-found g c A k = old_refused _ c.args.table.now c.args.dir.now c.args.name.now
    c.in_ok-old.field-0 c.in_ok-old.ensures.found
    (λ A. removal_tests (entry_at A (target A (at A c.args.dir.now) c.args.name.now)))
    A k c.in-Err.refused c.in-Err.is

pub attr_of-requires : goal.attr_of-requires
attr_of-requires g c = live_node _ c.args.table.now c.in-Ok.old.at.index c.in-Ok.old.at.handle (
  c.requires.stands.0,
  still_valid _ _ c.args.table.now c.requires.stands.0 c.in_ok-old.ensures.same
      c.requires.stands.1,
)
    (is_old _ c.args.table.now c.args.dir.now c.args.name.now
    c.in_ok-old.field-0 c.in_ok-old.ensures.found c.in-Ok.old c.in-Ok.is
    c.requires.stands.0 c.requires.stands.1).led.live

pub returns-in-Some-clause-found : goal.returns-in-Some-clause-found
returns-in-Some-clause-found g c A k = removal_refused _ c.args.table.now c.args.dir.now c.args.name.now
    c.in_ok-old.field-0 c.in_ok-old.ensures.found c.in-Ok.old c.in-Ok.is _ c.in_ok-old.ensures.same
    c.in_ok-attr.attr c.in_ok-attr.ensures.attr A k c.in-Some.refused (sym c.in-Some.ensures)

pub returns-in-None-clause-found : goal.returns-in-None-clause-found
returns-in-None-clause-found g c A k = removal_found _ c.args.table.now c.args.dir.now c.args.name.now
    c.in_ok-old.field-0 c.in_ok-old.ensures.found c.in-Ok.old c.in-Ok.is _ c.in_ok-old.ensures.same
    c.in_ok-attr.attr c.in_ok-attr.ensures.attr A k (sym c.in-None.ensures)
