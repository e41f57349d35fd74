use Rattle.std.proofs.Common.{◌≡◌, ◌++◌, List, ℕ, length, subst, sym}
use Rattle.rpc_core.specs.declared.head.CallHead.TheVariants.{Call}
use Rattle.rpc_core.specs.Call.{IsHead}
use Rattle.rpc_core.specs.Request.{call_front}
use Rattle.rpc_core.proofs.Requests.{AreShort, header_spelled, call_again}
use Rattle.rpc_core.proofs.request.write_call.Goals as goal

pub returns-clause-again : goal.returns-clause-again
returns-clause-again c = λ served.
    let cred = c.args.cred.now in
    let text = call_front c.args.xid c.args.prog c.args.vers c.args.proc cred in
    let short : AreShort c.args.xid c.args.prog c.args.vers c.args.proc =
    record {
      xid_fits = c.ranges.xid.fits;
      prog_fits = c.ranges.prog.fits;
      vers_fits = c.ranges.vers.fits;
      proc_fits = c.ranges.proc.fits;
    } in
    let is : c.append.new.bytes.items ≡ text ++ c.args.args.now =
    rw (← c.in_ok-bytes.ensures.text) c.in_ok-append.ensures in
    let s = header_spelled c.args.xid c.args.prog c.args.vers c.args.proc cred short
    c.in_ok-bytes.ensures.spelled.spelled c.in_ok-bytes.ensures.spelled.size in
    subst (λ (m : List ℕ). IsHead m (Call c.args.xid c.args.prog c.args.vers c.args.proc cred (length text))) (sym is)
    (call_again c.args.xid c.args.prog c.args.vers c.args.proc cred c.args.args.now s served)
