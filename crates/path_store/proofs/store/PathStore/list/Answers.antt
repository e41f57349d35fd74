use Rattle.std.proofs.Common.{option_copied, sym, ap, ◌∙◌}
use Rattle.path_store.proofs.CallLaws.{lists_names, stand_under}
use Rattle.path_store.proofs.store.PathStore.list.Goals as goal

pub list-requires : goal.list-requires
list-requires c = rw c.as_slice.ensures (stand_under c.args.self.now c.self.inside.whole c.self.inside.keys
    c.self.inside.rows c.self.inside.dirs c.self.view_is c.self.invariant c.requires.whole c.args.dir.now
    c.in-Some.top.now (sym c.get.ensures.value ∙ ap option_copied c.in-Some.is))

pub returns : goal.returns
returns c = lists_names c.args.self.now c.self.inside.whole c.self.inside.keys c.self.inside.rows c.self.inside.dirs
    c.self.view_is c.self.invariant c.requires.whole c.args.dir.now c.in-Some.top.now c.in_ok-rows.rows.items
    (sym c.get.ensures.value ∙ ap option_copied c.in-Some.is) (rw c.as_slice.ensures at c.in_ok-rows.ensures)
