use Rattle.std.proofs.Common.{◌∙◌, sym}
use Rattle.log_mount.proofs.MountLaws.{kept_held, root_there}
use Rattle.log_mount.proofs.tests.make_and_read.Goals as goal

pub set_attr-requires-clause-there : goal.set_attr-requires-clause-there
set_attr-requires-clause-there g c =
    root_there g.M.Medium.content g.M.Medium.size c.wipe.new.self c.in_ok-wipe.ensures.kept

pub read_log-requires-clause-held : goal.read_log-requires-clause-held
read_log-requires-clause-held g c =
    let medium = c.new-tree.ensures.medium ∙ c.into_medium.ensures in
    let limits = c.new-tree.ensures.limits ∙ sym (c.in_ok-set_attr.ensures.changes.limits
    ∙ (c.in_ok-wipe.ensures.changes.limits ∙ c.new-made.ensures.limits)) in
    rw (medium, limits)
    (kept_held g.M.Medium.content g.M.Medium.size c.set_attr.new.self c.in_ok-set_attr.ensures.kept)

pub read_log-requires-then-failed-clause-held : goal.read_log-requires-then-failed-clause-held
read_log-requires-then-failed-clause-held g c =
    let medium = c.new-tree.ensures.medium ∙ c.into_medium.ensures in
    let limits = c.new-tree.ensures.limits ∙ sym (c.in_ok-set_attr.ensures.changes.limits
    ∙ (c.in_ok-wipe.ensures.changes.limits ∙ c.new-made.ensures.limits)) in
    let r = c.read_log.ensures in
    rw (r.content, r.changes.size_is, r.changes.limits, medium, limits)
    (kept_held g.M.Medium.content g.M.Medium.size c.set_attr.new.self c.in_ok-set_attr.ensures.kept)
