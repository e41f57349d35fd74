use Rattle.std.proofs.Common.{◌≡◌, List, ap, sym, subst, ◌∙◌}
use Rattle.abs_model.specs.declared.Change.{Change}
use Rattle.abs_model.specs.Array.{changed}
use Rattle.abs_model.specs.Valid.{Valid}
use Rattle.partition_tree.specs.Digests.{IsRoot}
use Rattle.replica.specs.declared.running.Replica.{Replica}
use Rattle.replica.specs.Replicas.{digests_of, begun_at}
use Rattle.recovery.specs.Rebuilt.{Rebuilt}
use Rattle.recovery.proofs.Fetching.{back_is, same_place, none_left}
use Rattle.recovery.proofs.Put.{has_root}
use Rattle.recovery.proofs.Standing.{valid_for}
use Rattle.recovery.proofs.rebuild.Rebuild.finish.Goals as goal

pub returns-in-Err-Invalid-clause-invalid : goal.returns-in-Err-Invalid-clause-invalid
returns-in-Err-Invalid-clause-invalid g c A st valid =
    let cs : c.changes-changes.result.0.items ≡ c.args.self.fetch.changes
    = c.changes-changes.ensures.changes ∙ ap (λ (b : Rebuilt). b.fetch.changes) c.self.view_is in
    c.in-Err-Invalid.ensures.invalid (cc (c.in-Err-Invalid.field-0-is)) A st
    (subst (λ (cs : List Change). Valid c.args.limits.now (changed cs A)) (sym cs) valid)

pub returns-in-Err-Invalid-clause-back : goal.returns-in-Err-Invalid-clause-back
returns-in-Err-Invalid-clause-back g c place aimed =
    let b = c.self.inside in
    back_is c.args.self (record { target = b.target; root = b.root; fetch = b.fetcher })
    c.in_ok-back-in-Err-Invalid.back c.changes-changes.result.1 c.unwrap-place.result place c.self.view_is
    c.self.invariant c.changes-changes.ensures.own c.unwrap-place.ensures c.in_ok-back-in-Err-Invalid.ensures.begun
    c.in_ok-back-in-Err-Invalid.ensures.size aimed

pub live_over-requires-clause-stands : goal.live_over-requires-clause-stands
live_over-requires-clause-stands g c =
    let can = c.requires.can in
    let B = changed c.changes-changes.result.0.items can.array in
    (B, valid_for c.args.limits.now _ c.put_objs.new.table B can.within (c.in-Ok.ensures.stands can.array can.stands))

pub returns-clause-live : goal.returns-clause-live
returns-clause-live g c A place st aimed =
    let b = c.self.inside in
    let cs : c.changes-changes.result.0.items ≡ c.args.self.fetch.changes
    = c.changes-changes.ensures.changes ∙ ap (λ (b : Rebuilt). b.fetch.changes) c.self.view_is in
    let same = same_place c.args.self (record { target = b.target; root = b.root; fetch = b.fetcher })
    c.unwrap-place.result place c.self.view_is c.unwrap-place.ensures aimed in
    let B = changed c.changes-changes.result.0.items A in
    c.in_ok-replica.ensures.live B
    (valid_for c.args.limits.now _ c.put_objs.new.table B c.requires.can.within (c.in-Ok.ensures.stands A st))
    ∙ (λ i. begun_at (same i) (digests_of (changed (cs i) A)))

pub returns-clause-root : goal.returns-clause-root
returns-clause-root g c A got st h =
    let cs : c.changes-changes.result.0.items ≡ c.args.self.fetch.changes
    = c.changes-changes.ensures.changes ∙ ap (λ (b : Rebuilt). b.fetch.changes) c.self.view_is in
    let B = changed c.changes-changes.result.0.items A in
    let live = c.in_ok-replica.ensures.live B
    (valid_for c.args.limits.now _ c.put_objs.new.table B c.requires.can.within (c.in-Ok.ensures.stands A st)) in
    subst (λ (k : Replica). IsRoot k.tree c.args.self.root)
    (sym (live ∙ (λ i. begun_at c.unwrap-place.result (digests_of (changed (cs i) A)))))
    (has_root A got c.args.self h (none_left c.args.self.fetch.stand c.requires.whole))
