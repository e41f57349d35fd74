use Rattle.std.proofs.Common.{ap}
use Rattle.nfs2_types.specs.Call.{call_of}
use Rattle.conf_map.proofs.Performed.{performs_as}
use Rattle.wrap_write.proofs.calls.write_proc.Goals as goal

pub returns-in_ok-set-in-SetAttr-clause-performs : goal.returns-in_ok-set-in-SetAttr-clause-performs
returns-in_ok-set-in-SetAttr-clause-performs g c A k =
    performs_as (ap call_of c.in-SetAttr.is) (c.in_ok-set-in-SetAttr.ensures.performs A c.args.cred.now k)

pub returns-in_ok-written-in-Write-clause-performs : goal.returns-in_ok-written-in-Write-clause-performs
returns-in_ok-written-in-Write-clause-performs g c A k =
    performs_as (ap call_of c.in-Write.is) (c.in_ok-written-in-Write.ensures.performs A c.args.cred.now k)
