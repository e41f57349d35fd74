use Rattle.std.proofs.Common.{◌∙◌, IsSome, sym, ap, subst}
use Rattle.server_trait.specs.Step.{Counts}
use Rattle.log_changes.specs.Kept.{log_medium}
use Rattle.log_server.specs.Served.{Served, held_on}
use Rattle.log_server.proofs.ReadyLaws.{again, mounted, unmounted}
use Rattle.log_server.proofs.server.LogServer.mount.Goals as goal

pub mount-answer-requires-clause-held : goal.mount-answer-requires-clause-held
mount-answer-requires-clause-held g c =
    subst (λ s. IsSome (held_on g.M.Medium.content g.M.Medium.size s)) (sym c.self.view_is) c.requires

pub mount-answer-requires-clause-large : goal.mount-answer-requires-clause-large
mount-answer-requires-clause-large g c = c.self.invariant.large

pub invariant_of-self : goal.invariant_of-self
invariant_of-self g c =
    again g.M.Medium.content g.M.Medium.size g.M.Medium.faults _ c.has_tree-self-inside.result c.self.inside.tree
    c.mount-answer.new.tree c.has_tree-self-inside.ensures c.mount-answer.ensures.stays c.self.invariant.large

pub returns-clause-tree : goal.returns-clause-tree
returns-clause-tree g c =
    let s = c.self.inside in
    let e = c.mount-answer.ensures in
    mounted g.M.Medium.content g.M.Medium.size g.M.Medium.faults s.up c.has_tree-self-inside.result s.tree
    c.mount-answer.new.tree c.args.self.now c.self.view_is c.mount-answer.result c.has_tree-self-inside.ensures e.stays e.content

pub returns-clause-none : goal.returns-clause-none
returns-clause-none g c =
    let s = c.self.inside in
    unmounted g.M.Medium.content g.M.Medium.size g.M.Medium.faults s.up c.has_tree-self-inside.result s.tree
    c.mount-answer.new.tree c.args.self.now c.self.view_is c.mount-answer.result c.has_tree-self-inside.ensures
    c.mount-answer.ensures.err

pub returns-clause-content : goal.returns-clause-content
returns-clause-content g c =
    c.mount-answer.ensures.content ∙ ap (λ (s : Served _). g.M.Medium.content s.medium) c.self.view_is

pub returns-clause-size : goal.returns-clause-size
returns-clause-size g c =
    c.mount-answer.ensures.stays.size_is ∙ ap (λ (s : Served _). g.M.Medium.size s.medium) c.self.view_is

pub returns-clause-limits : goal.returns-clause-limits
returns-clause-limits g c =
    c.mount-answer.ensures.stays.limits ∙ ap (λ (s : Served _). s.limits) c.self.view_is

pub returns-clause-faults : goal.returns-clause-faults
returns-clause-faults g c =
    let faults = g.M.Medium.faults in
    let now = faults (log_medium c.mount-answer.new.tree) in
    subst (λ (s : Served _). Counts (faults s.medium) now c.mount-answer.result) c.self.view_is
    c.mount-answer.ensures.faults
