use Rattle.std.specs.FinMap.{empty, len}
use Rattle.std.proofs.Common.{◌≤◌, ◌<◌, ◌+◌, ◌⊎◌, length, inl, inr, arith}
use Rattle.path_server.specs.Bytes.{content_of}
use Rattle.path_server.specs.State.{kept_by}
use Rattle.path_server.proofs.CallLaws.{make-ok, make-full}
use Rattle.path_server.proofs.tree.PathTree.make_new.Goals as goal
use Rattle.path_server.proofs.tree.PathTree.make_new.Goals.{then-len-self-via-then-len-self, then-len-self-via-else-len-self+then-self-more}

pub returns-then-len-self : goal.returns-then-len-self
returns-then-len-self c =
    let s = c.args.self.now in
    let size = c.len.ensures in
    make-full s.held s.limits s.next s.bytes (kept_by s) s.sound (content_of c.args.kind c.args.bytes.now empty)
    (length c.args.bytes.now) c.args.dir.now c.args.name.now
    (elim c.then-len-self.branch as (λ _. (s.limits.nodes ≤ len (kept_by s).nodes) ⊎ (s.limits.bytes < s.bytes + (512
    + length c.args.bytes.now))) [
      | then-len-self-via-then-len-self w ↦ inl (let t = w.if-len-self in omega (arith, t, size))
      | then-len-self-via-else-len-self+then-self-more w ↦ inr (let t = w.if-self-more in omega (arith, t))
    ])

pub add_node-requires-clause-nodes : goal.add_node-requires-clause-nodes
add_node-requires-clause-nodes c =
    let s = c.args.self.now in
    let size = c.len.ensures in
    let test = c.if-len-self.false in
    omega (arith, size, test)

pub returns-in-Ok : goal.returns-in-Ok
returns-in-Ok c =
    let s = c.args.self.now in
    make-ok s.held s.limits s.next s.bytes (kept_by s) s.sound (content_of c.args.kind c.args.bytes.now empty)
    (length c.args.bytes.now) c.args.dir.now c.args.name.now
    c.in-Ok.handle c.args.kept _ c.add_node.new.self.limits (c.requires.kept, c.requires.is_dir) c.requires.new_name
    c.in-Ok.ensures.limits c.in-Ok.ensures.ok
