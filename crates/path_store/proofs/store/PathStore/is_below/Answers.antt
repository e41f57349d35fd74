use Rattle.std.proofs.Common.{ℕ, List, Bor, option_copied, sym, ap, ◌∙◌}
use Rattle.path_store.proofs.CallLaws.{below_found}
use Rattle.path_store.proofs.store.PathStore.is_below.Goals as goal

pub returns : goal.returns
returns c = below_found c.args.self.now c.self.inside.whole c.self.inside.keys c.self.inside.rows c.self.inside.dirs
    c.self.view_is c.self.invariant c.requires.whole c.args.top.now c.args.dir.now c.in-Some.above.now
    c.in-Some-get.path.now (λ (x : Bor (List ℕ)). x.now) c.rest_under.result c.is_some.result
    (sym c.get.ensures.value ∙ ap option_copied c.in-Some.is) (sym c.get-2.ensures.value ∙ ap option_copied c.in-Some-get.is)
    (rw (c.as_slice.ensures, c.as_slice-2.ensures) at c.rest_under.ensures) c.is_some.ensures
