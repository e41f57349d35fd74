use Rattle.std.proofs.Common.{◌≡◌, ◌∷◌, List, ap, sym, subst, ◌∙◌, refl, drop}
use Rattle.std.specs.Prelude.{IfOk}
use Rattle.state_transfer.specs.Fetch.{Fetch, IsAnswer}
use Rattle.state_transfer.specs.Walk.{fetch_of}
use Rattle.state_transfer.proofs.Settling.{Item, head_is}
use Rattle.state_transfer.proofs.Passing.{not_same, are_same, answered}
use Rattle.state_transfer.proofs.fetcher.Fetcher.accept.Goals as goal

pub returns-then-ne-clause-taken : goal.returns-then-ne-clause-taken
returns-then-ne-clause-taken c =
    let w = c.self.inside.walk in
    let y = c.index.result.now in (
      refl,
      λ x xs e fits.
          let rest = ap (λ (f : Fetch). f.stand.rest) c.self.view_is ∙ e in
          let item = c.index.ensures ∙ head_is w.wanted.items w.next y x xs rest in
          not_same c.digest.result y.1 (sym c.ne.ensures ∙ c.if-ne.true)
          (c.digest.ensures ∙ fits.digest ∙ ap (λ (z : Item). z.1) (sym item)),
    )

pub returns-clause-taken : goal.returns-clause-taken
returns-clause-taken c =
    let f = c.self.inside in
    let w = f.walk in
    let y = c.index.result.now in
    let digest = sym c.digest.ensures ∙ are_same c.digest.result y.1 (sym c.ne.ensures ∙ c.if-ne.false) in
    subst (λ (old : Fetch). IfOk c.pass.result (IsAnswer c.args.bytes.now old (fetch_of f.own f.place c.pass.new.self)))
    c.self.view_is
    (answered f.own f.place w c.pass.new.self y c.args.bytes.now c.pass.ensures.levels digest
    (λ x xs e. c.index.ensures ∙ head_is w.wanted.items w.next y x xs e) c.pass.result c.pass.ensures.passes)
