use Rattle.std.proofs.Common.{Some, ap, ◌∙◌, arith}
use Rattle.inode_dirs.specs.Files.{File}
use Rattle.server_trait.specs.declared.server.ServerLimits.{ServerLimits}
use Rattle.server_trait.proofs.TreeLaws.{some_same}
use Rattle.inode_server.proofs.MakeLaws.{makes-bare, makes-text, link-text, some_length, none_length}
use Rattle.inode_server.proofs.making.take_with.Goals as goal

pub returns-in_default-clause-node : goal.returns-in_default-clause-node
returns-in_default-clause-node g c =
    rw c.in_default.is at c.in_ok-inode.ensures.node

pub write_text-requires-clause-within : goal.write_text-requires-clause-within
write_text-requires-clause-within g c =
    let at = rw c.in-Some.is at c.in_ok-inode.ensures.inode in
    let l = at.0 in
    let n = c.in_ok-inode.ensures.inodes in
    omega (arith, l, n)

pub write_text-requires-clause-used : goal.write_text-requires-clause-used
write_text-requires-clause-used g c =
    let at = rw c.in-Some.is at c.in_ok-inode.ensures.node in
    at.2.kind_here ∙ ap Some (link-text c.args.kind c.args.text.now c.requires.text (some_length c.args.text.now c.if-not-is_empty.ensures))

pub write_text-requires-clause-empty : goal.write_text-requires-clause-empty
write_text-requires-clause-empty g c f is =
    let at = rw c.in-Some.is at c.in_ok-inode.ensures.inode in
    ap (λ (f : File). f.bytes) (some_same is at.2)

pub write_text-requires-clause-some : goal.write_text-requires-clause-some
write_text-requires-clause-some g c =
    some_length c.args.text.now c.if-not-is_empty.ensures

pub write_text-requires-clause-room : goal.write_text-requires-clause-room
write_text-requires-clause-room g c =
    let at = rw c.in-Some.is at c.in_ok-inode.ensures.node in
    let u = at.2.counts.used in
    let l = ap (λ (l : ServerLimits). l.bytes) c.in_ok-inode.ensures.limits in
    let r = c.requires.room in
    omega (arith, u, l, r)

pub returns-in_ok-write_text-clause-node : goal.returns-in_ok-write_text-clause-node
returns-in_ok-write_text-clause-node g c =
    let node = rw c.in-Some.is at c.in_ok-inode.ensures.node in
    let at = rw c.in-Some.is at c.in_ok-inode.ensures.inode in
    let e = c.in_ok-write_text.ensures in
    makes-text g.M.Medium.content c.args.tree.now c.take_node.new.self c.write_text.new.self c.in-Some.inode c.args.kind c.args.text.now
    at.1 node.0 node.1 node.2 (link-text c.args.kind c.args.text.now c.requires.text (some_length c.args.text.now
    c.if-not-is_empty.ensures)) e.node e.rows

pub returns-in_ok-write_text-clause-name : goal.returns-in_ok-write_text-clause-name
returns-in_ok-write_text-clause-name g c =
    c.in_ok-write_text.ensures.first ∙ c.in_ok-inode.ensures.first

pub returns-else-not-is_empty-clause-node : goal.returns-else-not-is_empty-clause-node
returns-else-not-is_empty-clause-node g c =
    let node = rw c.in-Some.is at c.in_ok-inode.ensures.node in
    let at = rw c.in-Some.is at c.in_ok-inode.ensures.inode in
    makes-bare g.M.Medium.content c.args.tree.now c.take_node.new.self c.take_node.new.self c.in-Some.inode c.args.kind c.args.text.now
    at.1 node.0 node.1 node.2 (none_length c.args.text.now c.if-not-is_empty.ensures)
