use Rattle.std.proofs.Common.{◌∙◌, rules, sym}
use Rattle.log_segments.proofs.LiveAt.{at_live, at_stands, at_other, noted_at}
use Rattle.log_segments.proofs.log.Log.live_at.Goals as goal

pub returns-then-is_at-clause-live : goal.returns-then-is_at-clause-live
returns-then-is_at-clause-live g c =
    let read = c.in_ok-block.ensures in
    let noted = rw (read.content, read.size) at (noted_at _ _ _ _ _ c.in_ok-block.block c.in_ok-key.key read.log
    c.in_ok-key.ensures) in
    at_live _ c.args.place c.in_ok-block.block read.read (noted ∙ c.is_at.ensures.0 (search rules))

pub returns-then-is_at-clause-stands : goal.returns-then-is_at-clause-stands
returns-then-is_at-clause-stands g c =
    let read = c.in_ok-block.ensures in
    let noted = rw (read.content, read.size) at (noted_at _ _ _ _ _ c.in_ok-block.block c.in_ok-key.key read.log
    c.in_ok-key.ensures) in
    at_stands _ c.args.place c.in_ok-block.block read.read (noted ∙ c.is_at.ensures.0 (search rules))

pub returns-clause-live : goal.returns-clause-live
returns-clause-live g c =
    let read = c.in_ok-block.ensures in
    let noted = rw (read.content, read.size) at (noted_at _ _ _ _ _ c.in_ok-block.block c.in_ok-key.key read.log
    c.in_ok-key.ensures) in
    at_other _ c.args.place c.in_ok-block.block read.read
    (λ q. let t = c.is_at.ensures.1 (sym noted ∙ q) in search rules)
