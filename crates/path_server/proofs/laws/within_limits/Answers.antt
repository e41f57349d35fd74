use Rattle.path_server.specs.Shown.{shown_at}
use Rattle.path_server.specs.State.{kept_by, state_of}
use Rattle.path_server.proofs.RebootLaws.{within_seen}
use Rattle.path_server.proofs.SoundLaws.{within}
use Rattle.path_server.proofs.StartLaws.{shown_twice}
use Rattle.path_server.proofs.laws.within_limits.Goals as goal

pub returns : goal.returns
returns c s =
    let t = s.tree in
    within_seen (shown_at s.starts) (shown_twice s.starts) t.limits (state_of t).tree
    (within t.held t.limits t.next t.bytes (kept_by t) t.sound)
