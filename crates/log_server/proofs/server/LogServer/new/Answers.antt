use Rattle.log_server.proofs.ReadyLaws.{begun}
use Rattle.log_server.proofs.server.LogServer.new.Goals as goal

pub invariant_of-result : goal.invariant_of-result
invariant_of-result g c = begun g.M.Medium.content g.M.Medium.size g.M.Medium.faults _ c.args.limits c.args.medium
    c.new.ensures.medium c.new.ensures.limits c.requires
