use Rattle.std.proofs.Common.{◌∙◌}
use Rattle.conf_map.proofs.DirCalls.{dir_names, name_gone, name_led, name_mapped}
use Rattle.conf_map.proofs.dirs.follow.Goals as goal

pub find-requires-clause-dir : goal.find-requires-clause-dir
find-requires-clause-dir g c =
    dir_names _ c.args.table.now c.requires.dir.0 c.requires.dir.1 c.args.d.now.index c.args.d.now.handle c.requires.live c.requires.dir.2

pub returns-in_default-clause-found : goal.returns-in_default-clause-found
returns-in_default-clause-found g c A k is_d =
    name_gone _ c.args.table.now A k c.args.d.now.index c.args.d.now.handle c.args.name.now c.requires.live is_d
    (λ t is. c.in_ok-handle.ensures.found t is ∙ c.in_default.is)

pub returns-in_default-index_of-clause-found : goal.returns-in_default-index_of-clause-found
returns-in_default-index_of-clause-found g c A k is_d = absurd
    (name_mapped _ c.args.table.now A k c.args.d.now.index c.args.d.now.handle c.args.name.now c.requires.live is_d c.in-Some.handle
    (λ t is. c.in_ok-handle.ensures.found t is ∙ c.in-Some.is) c.in_default-index_of.ensures)

pub returns-clause-found : goal.returns-clause-found
returns-clause-found g c A k is_d =
    name_led _ c.args.table.now A k c.args.d.now.index c.args.d.now.handle c.args.name.now c.requires.live is_d c.in-Some.handle
    (λ t is. c.in_ok-handle.ensures.found t is ∙ c.in-Some.is) c.in-Some-index_of.index c.in-Some-index_of.ensures
