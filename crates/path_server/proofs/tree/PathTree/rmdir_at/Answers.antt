use Rattle.std.proofs.Common.{arith}
use Rattle.std.proofs.lemmas.Result.{err_from_is_err_and}
use Rattle.path_server.specs.State.{kept_by}
use Rattle.path_server.proofs.NameCallLaws.{rmdir-no_dir, rmdir-full, rmdir-ok}
use Rattle.path_server.proofs.tree.PathTree.rmdir_at.Goals as goal

pub returns-in_err-kept : goal.returns-in_err-kept
returns-in_err-kept c =
    let s = c.args.self.now in
    let p = err_from_is_err_and c.from_residual.result c.from_residual.ensures.1 in
    rw (p.1, p.2) (rmdir-no_dir s.held s.limits s.next s.bytes (kept_by s) s.sound c.args.dir.now c.args.name.now
    c.args.within c.requires.dir c.args.node.now c.requires.leads c.requires.held c.in_err-kept.field-0.0
    c.in_err-kept.ensures)

pub returns-then-kept-gt0 : goal.returns-then-kept-gt0
returns-then-kept-gt0 c = let s = c.args.self.now in
    rmdir-full s.held s.limits s.next s.bytes (kept_by s) s.sound c.args.dir.now c.args.name.now c.args.within
    c.requires.dir c.args.node.now c.requires.leads c.in_ok-kept.kept c.in_ok-kept.ensures c.if-kept-gt0.true

pub drop_node-requires-clause-last : goal.drop_node-requires-clause-last
drop_node-requires-clause-last c = (c.args.self.now.stored c.requires.held).once c.args.node.now c.in_ok-kept.kept
    c.in_ok-kept.ensures.0 c.in_ok-kept.ensures.1

pub returns-in-Ok : goal.returns-in-Ok
returns-in-Ok c =
    let s = c.args.self.now in
    let test = c.if-kept-gt0.false in
    rmdir-ok s.held s.limits s.next s.bytes (kept_by s) s.sound c.args.dir.now c.args.name.now c.args.within
    c.requires.dir c.args.node.now c.requires.leads c.in_ok-kept.kept c.in_ok-kept.ensures _
    c.drop_node.new.self.limits (omega (arith, test)) c.in-Ok.ensures.limits c.in-Ok.ensures.ok
