use Rattle.std.proofs.Common.{refl, sym, subst}
use Rattle.std.specs.Prelude.{IfOk, IsSome}
use Rattle.state_transfer.specs.Stand.{next_in}
use Rattle.state_transfer.specs.Fetch.{IsAnswer}
use Rattle.recovery.specs.Rebuilt.{Rebuilt}
use Rattle.recovery.proofs.Fetching.{accepted_seen, sound_after}
use Rattle.recovery.proofs.rebuild.Rebuild.accept.Goals as goal

pub returns-clause-got : goal.returns-clause-got
returns-clause-got c good A got h =
    let b = c.self.inside in
    accepted_seen A got c.args.self.now
    (record { target = b.target; root = b.root; fetch = b.fetcher })
    (record { target = b.target; root = b.root; fetch = c.accept.new.self })
    c.args.bytes.now c.accept.result c.self.view_is refl c.requires c.accept.ensures.taken good h

pub returns-clause-taken : goal.returns-clause-taken
returns-clause-taken c =
    subst (λ (b : Rebuilt). IfOk c.accept.result (IsAnswer c.args.bytes.now b.fetch c.accept.new.self))
    c.self.view_is c.accept.ensures.taken

pub invariant_of-self : goal.invariant_of-self
invariant_of-self c =
    sound_after c.self.inside.fetcher c.accept.new.self c.args.bytes.now c.accept.result c.self.invariant
    (subst (λ (b : Rebuilt). IsSome (next_in b.fetch.stand)) (sym c.self.view_is) c.requires)
    c.accept.ensures.taken c.accept.ensures.err
