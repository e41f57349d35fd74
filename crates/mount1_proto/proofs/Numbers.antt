-- What is spelled as the arguments of a procedure is a call of it.
use Rattle.std.proofs.Common.{◌≡◌, ℕ, zero, suc, ◌≤◌, List, Result, Ok, Err, ap, arith}
use Rattle.std.specs.Prelude.{IfOk}
use Rattle.xdr_core.specs.declared.error.XdrErr.{XdrErr}
use Rattle.xdr_core.specs.Grammar.{Spells}
use Rattle.mount1_proto.specs.declared.args.MountArgs.{MountArgs}
use Rattle.mount1_proto.specs.Calls.{MountCall, call_of, number_of}
use Rattle.mount1_proto.specs.Forms.{mnt_form, umnt_form, mount_form}

number_spelled : (proc : ℕ) (call : MountCall) (text : List ℕ) → proc ≤ 5 → Spells (mount_form proc) call text → number_of call ≡ proc
unfolding mnt_form umnt_form
number_spelled zero call text h s = ap number_of s.0
number_spelled (suc zero) call text h s = ap number_of s.4.0
number_spelled (suc (suc zero)) call text h s = ap number_of s.0
number_spelled (suc (suc (suc zero))) call text h s = ap number_of s.4.0
number_spelled (suc (suc (suc (suc zero)))) call text h s = ap number_of s.0
number_spelled (suc (suc (suc (suc (suc zero))))) call text h s = ap number_of s.0
number_spelled (suc (suc (suc (suc (suc (suc n)))))) call text h s = absurd (omega arith)

-- what was read as a spelling of the procedure's arguments
pub number_read : (proc : ℕ) (bytes : List ℕ) (r : Result MountArgs XdrErr) → proc ≤ 5 → IfOk r (λ a. Spells (mount_form proc) (call_of a) bytes) → IfOk r (λ a. number_of (call_of a) ≡ proc)
number_read proc bytes (Ok a) h s = number_spelled proc (call_of a) bytes h s
number_read proc bytes (Err e) h s = tt
