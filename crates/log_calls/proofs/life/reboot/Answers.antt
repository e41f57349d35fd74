use Rattle.std.proofs.Common.{◌≡◌, ◌∙◌, ℕ, List, Some, IsSome, refl, sym, ap, subst}
use Rattle.server_trait.specs.Calls.{Reboot, Rebooted}
use Rattle.server_trait.specs.declared.server.ServerLimits.{ServerLimits}
use Rattle.server_trait.proofs.RebootLaws.{same_tree}
use Rattle.server_trait.proofs.TreeLaws.{some_same}
use Rattle.log_tree.specs.Held.{held}
use Rattle.log_changes.specs.Kept.{log_medium, log_tree}
use Rattle.log_calls.specs.State.{Does}
use Rattle.log_calls.proofs.StateLaws.{ended, on_ok, shows, still}
use Rattle.log_calls.proofs.life.reboot.Goals as goal

pub read_log-requires-clause-held : goal.read_log-requires-clause-held
read_log-requires-clause-held g c = subst (λ o. IsSome o)
    (sym (shows g.M.Medium.content g.M.Medium.size g.M.Medium.faults c.args.tree.now c.requires)) refl

pub returns : goal.returns
returns g c =
    let content = g.M.Medium.content in
    let size = g.M.Medium.size in
    let faults = g.M.Medium.faults in
    let t = c.args.tree.now in
    let new = c.read_log.new.tree in
    let tree = log_tree content size t in
    let r = c.read_log.ensures in
    let m = log_medium t in
    let n = log_medium new in
    let same : held (content n) (size n) new.limits ≡ held (content m) (size m) t.limits =
    ap (λ (f : ℕ → List ℕ). held f (size n) new.limits) r.content
    ∙ (ap (λ (b : ℕ). held (content m) b new.limits) r.changes.size_is
    ∙ ap (λ (l : ServerLimits). held (content m) (size m) l) r.changes.limits) in
    subst (λ q. Does content size faults (λ s. Reboot s) t q new) (sym c.answered.ensures)
    (ended content size faults (λ s. Reboot s) (λ t _ after. Rebooted t after) (λ v e. ⊥) t new (λ q b k. k) c.requires t
    (still content size faults t c.requires) c.read_log.result r.changes r.kept
    (λ x e. subst (λ v. Rebooted tree (Some v))
    (some_same (shows content size faults t c.requires)
    (sym same ∙ on_ok (held (content n) (size n) new.limits ≡ Some (log_tree content size new)) c.read_log.result x r.tree
    e)) (same_tree tree))
    (λ e a. absurd a))
