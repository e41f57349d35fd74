use Rattle.std.proofs.Common.{◌∙◌}
use Rattle.log_server.proofs.ReadyLaws.{root_is}
use Rattle.log_server.proofs.server.LogServerFileServer.root.Goals as goal

pub returns : goal.returns
returns g c t is =
    c.handle_of.ensures ∙ root_is g.M.Medium.content g.M.Medium.size g.M.Medium.faults c.args.self.now t is
