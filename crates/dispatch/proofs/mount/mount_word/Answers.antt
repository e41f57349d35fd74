use Rattle.std.proofs.Common.{ℕ, List, ◌∙◌, ◌++◌, sym, ap}
use Rattle.nfs2_types.specs.declared.Word.TheVariants.{Reply}
use Rattle.rpc_core.specs.Reply.{success_text}
use Rattle.mount1_proto.specs.Calls.{call_of}
use Rattle.mount1_proto.specs.Results.{mount_text}
use Rattle.dispatch.specs.Answer.{mount_word}
use Rattle.dispatch.proofs.Calls.{if_ok_map}
use Rattle.dispatch.proofs.mount.mount_word.Goals as goal

pub returns-in-Err : goal.returns-in-Err
returns-in-Err c = if_ok_map _ _ c.refuse.result
    (λ word e. λ tree A k. e ∙ ap (mount_word A c.args.xid) (sym c.in-Err.ensures.all)) c.refuse.ensures

pub returns-in-Ok : goal.returns-in-Ok
returns-in-Ok c =
    if_ok_map _ _ c.accept.result (λ word e. λ tree A k.
    e ∙ ap (λ (root : List ℕ). Reply (success_text c.args.xid ++ mount_text (call_of c.in-Ok.args) root))
    (c.root_of.ensures tree A k)
    ∙ ap (mount_word A c.args.xid) (sym c.in-Ok.ensures.all)) c.accept.ensures
