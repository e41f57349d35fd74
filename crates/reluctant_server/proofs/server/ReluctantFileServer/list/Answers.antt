use Rattle.server_trait.specs.Tree.{names_at}
use Rattle.reluctant_server.proofs.Reversed.{listed_reversed}
use Rattle.reluctant_server.proofs.server.ReluctantFileServer.list.Goals as goal

pub returns : goal.returns
returns g c = record {
  tree = λ t is. let d = c.in_ok-rows.ensures.tree t is in ((listed_reversed _ _ (names_at t c.args.dir.now) c.reverse.ensures.items d.0.0, d.0.1), d.1);
  limits = c.in_ok-rows.ensures.limits;
  faults = c.in_ok-rows.ensures.faults;
}
