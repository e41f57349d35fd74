use Rattle.std.proofs.Common.{refl}
use Rattle.basefs.proofs.Exact.{replayed_exactly, replayed_no_usage}
use Rattle.basefs.proofs.program.basefs.Goals as goal

pub returns-then-is_replay-clause-exact : goal.returns-then-is_replay-clause-exact
returns-then-is_replay-clause-exact g c = λ words. replayed_exactly _ _ _ _ c.replay.ensures.replayed

pub returns-then-is_replay-clause-usage : goal.returns-then-is_replay-clause-usage
returns-then-is_replay-clause-usage g c = (λ e. absurd (replayed_no_usage _ _ _ _ c.replay.ensures.replayed e), λ no. absurd (no (c.if-is_replay.ensures.0 refl)))

pub returns-then-is_replay-clause-untouched : goal.returns-then-is_replay-clause-untouched
returns-then-is_replay-clause-untouched g c = λ e. absurd (replayed_no_usage _ _ _ _ c.replay.ensures.replayed e)
