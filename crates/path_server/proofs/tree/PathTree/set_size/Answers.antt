use Rattle.std.proofs.Common.{◌≡◌, length, ap, arith}
use Rattle.std.proofs.lemmas.Result.{err_from_is_err_and}
use Rattle.server_trait.proofs.TreeLaws.{is_some_and}
use Rattle.nfs2_types.specs.declared.fattr.Kind.TheVariants.{File}
use Rattle.path_server.specs.declared.node.PathNode.{PathNode}
use Rattle.path_server.specs.State.{kept_by}
use Rattle.path_server.specs.Kept.{the_tree}
use Rattle.path_server.proofs.CallLaws.{is_held}
use Rattle.path_server.proofs.SoundLaws.{few_bytes}
use Rattle.path_server.proofs.FileCallLaws.{set_size-ok, set_size-err, set_size-full}
use Rattle.path_server.proofs.tree.PathTree.set_size.Goals as goal

pub returns-in_err-find : goal.returns-in_err-find
returns-in_err-find c =
    let s = c.args.self.now in
    let p = err_from_is_err_and c.from_residual.result c.from_residual.ensures.1 in
    rw (p.1, p.2) (set_size-err s.held s.limits s.next s.bytes (kept_by s) s.sound c.args.file.now c.args.size
    c.in_err-find.field-0.0 c.in_err-find.ensures)

pub overflow_sub-self : goal.overflow_sub-self
overflow_sub-self c =
    let s = c.args.self.now in
    let few = few_bytes s.limits s.next s.bytes (kept_by s) (s.sound (is_held s.held (the_tree (kept_by s))
    c.requires.tree)) c.args.file.now c.in_ok-find.field-0 c.in_ok-find.ensures.0 c.in_ok-find.ensures.1 in
    let same = ap length c.bytes-len.ensures in
    omega (arith, few, same)

pub returns-then-self-len : goal.returns-then-self-len
returns-then-self-len c =
    let s = c.args.self.now in
    let over = c.if-self-len.true in
    let same = ap length c.bytes-len.ensures in
    set_size-full s.held s.limits s.next s.bytes (kept_by s) s.sound c.args.file.now c.in_ok-find.field-0
    c.in_ok-find.ensures c.args.size (omega (arith, over, same))

pub change-requires-clause-file : goal.change-requires-clause-file
change-requires-clause-file c = is_some_and
    (λ (p : PathNode). p.kind ≡ File) c.in_ok-find.ensures.0 c.in_ok-find.ensures.1

pub change-requires-clause-room : goal.change-requires-clause-room
change-requires-clause-room c = let room = c.if-self-len.false in let same = ap length c.bytes-len.ensures in
    omega (arith, room, same)

pub returns-in-Ok : goal.returns-in-Ok
returns-in-Ok c =
    let s = c.args.self.now in
    set_size-ok s.held s.limits s.next s.bytes (kept_by s) s.sound c.args.file.now c.in_ok-find.field-0
    c.in_ok-find.ensures _ c.change.new.self.limits c.in-Ok.ensures.limits
    c.args.size c.in-Ok.ensures.ok
