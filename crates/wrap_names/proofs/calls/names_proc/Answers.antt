use Rattle.std.proofs.Common.{ap, sym}
use Rattle.nfs2_types.specs.Call.{call_of}
use Rattle.wrap_names.proofs.ByCall.{by_call}
use Rattle.wrap_names.proofs.calls.names_proc.Goals as goal

pub returns-in_ok-removed-in-Remove-clause-performs : goal.returns-in_ok-removed-in-Remove-clause-performs
returns-in_ok-removed-in-Remove-clause-performs g c A k = by_call (ap call_of (sym c.in-Remove.is))
    (c.in_ok-removed-in-Remove.ensures.performs A c.args.cred.now k)

pub returns-in_ok-removed-in-RmDir-clause-performs : goal.returns-in_ok-removed-in-RmDir-clause-performs
returns-in_ok-removed-in-RmDir-clause-performs g c A k = by_call (ap call_of (sym c.in-RmDir.is))
    (c.in_ok-removed-in-RmDir.ensures.performs A c.args.cred.now k)

pub returns-in_ok-moved-in-Rename-clause-performs : goal.returns-in_ok-moved-in-Rename-clause-performs
returns-in_ok-moved-in-Rename-clause-performs g c A k = by_call (ap call_of (sym c.in-Rename.is))
    (c.in_ok-moved-in-Rename.ensures.performs A c.args.cred.now k)

pub returns-in_ok-linked-in-Link-clause-performs : goal.returns-in_ok-linked-in-Link-clause-performs
returns-in_ok-linked-in-Link-clause-performs g c A k = by_call (ap call_of (sym c.in-Link.is))
    (c.in_ok-linked-in-Link.ensures.performs A c.args.cred.now k)
