use Rattle.std.proofs.Common.{option_copied, sym, ap, ◌∙◌}
use Rattle.path_store.specs.Stored.{joined}
use Rattle.path_store.proofs.CallLaws.{got_none, got_some}
use Rattle.path_store.proofs.store.PathStore.get.Goals as goal

pub returns-in_default : goal.returns-in_default
returns-in_default c = got_none c.args.self.now c.self.inside.whole c.self.inside.keys c.self.inside.rows
    c.self.inside.dirs c.self.view_is
    c.self.invariant c.requires.whole
    c.args.dir.now c.args.name.now c.told-dir (sym c.get.ensures.value ∙ ap option_copied c.in_default.is)

pub returns : goal.returns
returns c = got_some c.args.self.now c.self.inside.whole c.self.inside.keys c.self.inside.rows c.self.inside.dirs
    c.self.view_is
    c.self.invariant c.requires.whole
    c.args.dir.now c.args.name.now c.in-Some.top.now c.in_ok-path.path c.target.result c.requires.name
    (sym c.get.ensures.value ∙ ap option_copied c.in-Some.is) (c.in_ok-path.ensures ∙ ap (λ l. joined l c.args.name.now) c.as_slice.ensures)
    c.target.ensures
