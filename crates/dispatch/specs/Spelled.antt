-- The answer to a message by the grammars of headers and of arguments (RFC 5531, 9; RFC 1094, 2.2 and
-- appendix A).
-- Nothing here reads the bytes: it is said what a message is spelled of, and what is then answered.
use Rattle.std.specs.Prelude.{◌≡◌, ◌≢◌, ◌≤◌, ◌++◌, ℕ, List, length, Some}
use Rattle.nfs2_types.specs.declared.Limits.{Limits}
use Rattle.nfs2_types.specs.declared.Time.{Time}
use Rattle.nfs2_types.specs.declared.Cred.{Cred}
use Rattle.nfs2_types.specs.declared.Word.TheVariants as words
use Rattle.nfs2_types.specs.Call.{Call}
use Rattle.xdr_core.specs.Grammar.{Grammar, Spells}
use Rattle.rpc_core.specs.declared.CallHead.TheVariants as heads
use Rattle.rpc_core.specs.declared.Refusal.{Refusal}
use Rattle.rpc_core.specs.declared.Refusal.TheVariants.{GarbageArgs}
use Rattle.rpc_core.specs.Call.{Header, HasHeader, verdict}
use Rattle.rpc_core.specs.Reply.{success_text}
use Rattle.nfs2_args.specs.Forms.{args_form}
use Rattle.mount1_proto.specs.Calls.{MountCall}
use Rattle.mount1_proto.specs.Forms.{mount_form}
use Rattle.mount1_proto.specs.Results.{mount_text}
use Rattle.abs_model.specs.declared.Entry.{Entry}
use Rattle.abs_model.specs.Array.{handle_at}
use Rattle.dispatch.specs.Answer.{Answer, stays, refused, accepted}

-- the header of a call (CALL is 0) of RPC version 2, of a procedure of this program in this version, 0 to the
-- last, whose credential names this caller
pub record CallsProgram (prog vers last : ℕ) (h : Header) (caller : Cred) : Type 0 where
  pub kind : h.kind ≡ 0
  pub rpcvers : h.rpcvers ≡ 2
  pub program : h.prog ≡ prog
  pub version : h.vers ≡ vers
  pub procedure : h.proc ≤ last
  pub cred : h.cred ≡ Some caller

-- a call of NFS version 2 (RFC 1094, 2.2)
abbrev pub CallsNfs : Header → Cred → Type 0
CallsNfs h caller = CallsProgram 100003 2 17 h caller

-- a call of MOUNT version 1 (RFC 1094, appendix A)
abbrev pub CallsMount : Header → Cred → Type 0
CallsMount h caller = CallsProgram 100005 1 5 h caller

-- no header of a call begins the message
abbrev pub IsNoCall : List ℕ → Type 0
IsNoCall bytes = (front : HasHeader bytes) → front.says.kind ≢ 0

-- nothing of this format is spelled so
abbrev pub SpellNone : {C : Type 0} → Grammar C → List ℕ → Type 0
SpellNone {C} form bytes = (call : C) → Spells form call bytes → ⊥

-- this is the answer to a message that is no call, whose header is refused, or that is a call of NFS or of
-- MOUNT
pub record IsAnswer (A : List Entry) (limits : Limits) (t : Time) (bytes : List ℕ)
    (a : Answer) : Type 0 where
  pub silent : IsNoCall bytes → a ≡ stays A words.Silent
  pub refused_head : (front : HasHeader bytes) (xid : ℕ) (why : Refusal) →
      verdict front.says (length front.text) ≡ heads.Refuse xid why → a ≡ refused A xid why
  pub performed : (front : HasHeader bytes) (caller : Cred) → CallsNfs front.says caller →
      (call : Call) → Spells (args_form front.says.proc) call front.args →
      a ≡ accepted A limits t front.says.xid caller call
  pub garbage : (front : HasHeader bytes) (caller : Cred) → CallsNfs front.says caller →
      SpellNone (args_form front.says.proc) front.args → a ≡ refused A front.says.xid GarbageArgs
  pub mounted : (front : HasHeader bytes) (caller : Cred) → CallsMount front.says caller →
      (call : MountCall) → Spells (mount_form front.says.proc) call front.args →
      a ≡ stays A (words.Reply (success_text front.says.xid ++ mount_text call (handle_at A 0)))
  pub garbage_mount : (front : HasHeader bytes) (caller : Cred) → CallsMount front.says caller →
      SpellNone (mount_form front.says.proc) front.args → a ≡ refused A front.says.xid GarbageArgs
