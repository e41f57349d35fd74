use Rattle.std.proofs.Common.{arith}
use Rattle.path_server.specs.State.{kept_by}
use Rattle.path_server.proofs.NameCallLaws.{link-full, link-ok}
use Rattle.path_server.proofs.tree.PathTree.link_new.Goals as goal

pub overflow_add-self : goal.overflow_add-self
overflow_add-self c = let s = c.args.self.now in let most = (s.sound c.requires.held).bytes_most in
    let limited = s.limited in omega (arith, most, limited)

pub returns-then-self : goal.returns-then-self
returns-then-self c = let s = c.args.self.now in
    link-full s.held s.limits s.next s.bytes (kept_by s) s.sound c.args.dir.now c.args.name.now c.args.node.now
    c.if-self.true

pub returns-in-Ok : goal.returns-in-Ok
returns-in-Ok c = let s = c.args.self.now in
    link-ok s.held s.limits s.next s.bytes
    (kept_by s) s.sound c.args.dir.now c.args.name.now c.args.node.now c.args.kept
    c.args.within _ c.add_name.new.self.limits c.requires.node c.requires.dir c.requires.new_name c.in-Ok.ensures.limits
    c.in-Ok.ensures.ok
