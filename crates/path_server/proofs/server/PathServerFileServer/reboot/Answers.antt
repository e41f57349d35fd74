use Rattle.std.proofs.Common.{◌≡◌, ◌<◌, ◌+◌, ◌^◌, arith}
use Rattle.path_server.specs.State.{kept_by, state_of}
use Rattle.path_server.proofs.RebootLaws.{rebooted, old_handles_stale}
use Rattle.path_server.proofs.server.PathServerFileServer.reboot.Goals as goal

pub returns-clause-rebooted : goal.returns-clause-rebooted
returns-clause-rebooted c = let s = c.args.self.now in rebooted s.starts c.in-Some.starts (state_of s.tree) _

pub returns-clause-stale : goal.returns-clause-stale
returns-clause-stale c =
    let s = c.args.self.now in
    let t = s.tree in
    let fits : s.starts + 1 < 2 ^ 64 = (c.in-Some.ensures).0 in
    let later : c.in-Some.starts ≡ s.starts + 1 = (c.in-Some.ensures).1 in
    old_handles_stale s.starts c.in-Some.starts (omega arith) (omega arith) (λ e. omega arith) t.held t.limits t.next
    t.bytes (kept_by t) t.sound
