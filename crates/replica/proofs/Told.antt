-- The objects that an answer tells of are those of the array.
use Rattle.std.proofs.Common.{ℕ, ◌<◌, Bool, true, false, List, length, get_or}
use Rattle.std.specs.Prelude.{Result, Ok, Err, ◌==◌, drop, if◌then◌else◌}
use Rattle.std.specs.List.{All}
use Rattle.std.proofs.lemmas.List.{get_or_default}
use Rattle.std.proofs.lemmas.List.Elements.{All-nil}
use Rattle.nfs2_types.specs.declared.Limits.{Limits}
use Rattle.nfs2_types.specs.declared.Time.{Time}
use Rattle.nfs2_types.specs.declared.Cred.{Cred}
use Rattle.nfs2_types.specs.Call.{Call}
use Rattle.xdr_core.specs.Grammar.{Stop, reads_all}
use Rattle.rpc_core.specs.declared.CallHead.{CallHead}
use Rattle.rpc_core.specs.declared.CallHead.TheVariants as heads
use Rattle.rpc_core.specs.Call.{head_in}
use Rattle.nfs2_args.specs.Forms.{args_form}
use Rattle.mount1_proto.specs.Forms.{mount_form}
use Rattle.abs_model.specs.declared.Entry.{Entry}
use Rattle.abs_model.specs.Machine.{told}
use Rattle.abs_model.specs.Valid.{Valid}
use Rattle.abs_model.proofs.Within.{told_is_below}
use Rattle.dispatch.specs.Answer.{answer, stays, by_args, by_head, mount_word}

module _ (A : List Entry) (limits : Limits) (t : Time) (valid : Valid limits A) where
  abbrev AreWithin : List ℕ → Type 0
  AreWithin is = All (λ i. i < length A) is

  call_within : (cred : Cred) (call : Call) → AreWithin (told A limits cred t call)
  call_within cred call k d low = told_is_below limits A cred t call (get_or (told A limits cred t call) k d) valid
      (k, low, get_or_default (told A limits cred t call) k (get_or (told A limits cred t call) k d) d low)

  args_within : (xid : ℕ) (cred : Cred) (r : Result Call Stop) → AreWithin (by_args A limits t xid cred r).told
  args_within xid cred (Err e) = All-nil (λ i. i < length A)
  args_within xid cred (Ok call) = call_within cred call

  head_within : (bytes : List ℕ) (h : CallHead) → AreWithin (by_head A limits t bytes h).told
  head_within bytes heads.Silent = All-nil (λ i. i < length A)
  head_within bytes (heads.Refuse xid why) = All-nil (λ i. i < length A)
  head_within bytes (heads.Call xid prog vers proc cred args_at) = by (prog == 100003)
    where
      by : (b : Bool) → AreWithin (if b then by_args A limits t xid cred
          (reads_all (args_form proc) (drop args_at bytes)) else stays A
          (mount_word A xid (reads_all (mount_form proc) (drop args_at bytes)))).told
      by true = args_within xid cred (reads_all (args_form proc) (drop args_at bytes))
      by false = All-nil (λ i. i < length A)

  pub answer_within : (bytes : List ℕ) → AreWithin (answer A limits t bytes).told
  unfolding answer
  answer_within bytes = head_within bytes (head_in bytes)
