use Rattle.std.proofs.Common.{ap}
use Rattle.std.specs.Prelude.{nat_lt}
use Rattle.conf_map.proofs.Shows.{live_node}
use Rattle.wrap_names.proofs.MoveTests.{names_told}
use Rattle.wrap_names.proofs.replace.has_names.Goals as goal

pub attr_of-requires : goal.attr_of-requires
attr_of-requires g c =
    live_node _ c.args.table.now c.args.at.now.index c.args.at.now.handle c.requires.stands c.requires.live

pub returns-clause-names : goal.returns-clause-names
returns-clause-names g c A k dir = ap (nat_lt 0) (names_told _ c.args.table.now A k c.args.at.now.index
    c.args.at.now.handle c.in_ok-attr.attr c.requires.live c.in_ok-attr.ensures.attr dir)
