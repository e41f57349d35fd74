use Rattle.std.proofs.Common.{arith}
use Rattle.nfs2_types.specs.declared.cred.Cred.{Cred}
use Rattle.rpc_core.proofs.Requests.{cred_spelled, length-cred_text}
use Rattle.rpc_core.proofs.request.cred_body.Goals as goal

pub returns-clause-spelled : goal.returns-clause-spelled
returns-clause-spelled c =
    let cred : Cred = record { uid = c.args.uid; gid = c.args.gid; gids = c.args.gids.now } in
    record {
      size = length-cred_text cred c.requires;
      spelled = cred_spelled cred c.ranges.uid.fits c.ranges.gid.fits
          c.requires (λ i. omega (arith, c.type_inv.gids i));
    }
