use Rattle.std.proofs.Common.{sym, ap, ◌∙◌, arith}
use Rattle.server_trait.specs.Tree.{Tree, unnamed, let_go, without_node}
use Rattle.inode_store.specs.Held.{files_of}
use Rattle.inode_store.specs.Inodes.{file_at}
use Rattle.inode_tree.specs.Kept.{tables_of}
use Rattle.inode_tree.specs.Whole.{tree_in}
use Rattle.inode_tree.specs.declared.tables.InodeTables.{InodeTables}
use Rattle.inode_tree.proofs.LookLaws.{last-name, other-name}
use Rattle.inode_tree.proofs.TiedLaws.{some_is}
use Rattle.inode_server.proofs.CallLaws.{IsSame, tree-same}
use Rattle.inode_server.proofs.FoundLaws.{file_at-kind, within}
use Rattle.inode_server.proofs.removing.drop_name.Goals as goal

pub links-requires : goal.links-requires
links-requires g c =
    let e = c.in_ok-remove_name.ensures in
    let l = within g.M.Medium.content g.M.Medium.size c.args.tree.now c.requires.whole c.args.place.inode c.args.kind c.requires.node in
    let n = e.whole.tied.inodes in
    let m = e.inodes in
    omega (arith, l, n, m)

pub returns-then-links-gt0-clause-node : goal.returns-then-links-gt0-clause-node
returns-then-links-gt0-clause-node g c =
    let s = c.args.tree.now in
    let n = c.remove_name.new.self in
    let e = c.in_ok-remove_name.ensures in
    let i = c.args.place.inode in
    let t = tables_of n.tables in
    let f = file_at-kind g.M.Medium.content g.M.Medium.size n e.whole i c.args.kind (ap (λ f. f i) e.rows.kinds ∙ c.requires.node) in
    let more = c.if-links-gt0.true in
    let links = c.links.ensures in
    sym (other-name n.store.inodes (files_of n.store.area n.store.inodes (g.M.Medium.content n.store.medium)) t e.whole.tied i
    (some_is f.1) (omega (arith, more, links)))
    ∙ ap (λ (u : Tree). let_go u (t.handle i)) e.node
    ∙ ap (λ h. let_go (unnamed (tree_in g.M.Medium.content s) ((tables_of s.tables).handle c.args.dir) c.args.name.now) h)
    (ap (λ f. f i) e.rows.handles)

pub inode-requires-clause-within : goal.inode-requires-clause-within
inode-requires-clause-within g c =
    let e = c.in_ok-remove_name.ensures in
    let l = within g.M.Medium.content g.M.Medium.size c.args.tree.now c.requires.whole c.args.place.inode c.args.kind c.requires.node in
    let m = e.inodes in
    omega (arith, l, m)

pub inode-requires-clause-used : goal.inode-requires-clause-used
inode-requires-clause-used g c =
    let e = c.in_ok-remove_name.ensures in
    some_is (ap (λ f. f c.args.place.inode) e.rows.kinds ∙ c.requires.node)

pub give_node-requires-clause-within : goal.give_node-requires-clause-within
give_node-requires-clause-within g c =
    let e = c.in_ok-remove_name.ensures in
    let d = c.in_ok-gone.ensures in
    let l = within g.M.Medium.content g.M.Medium.size c.args.tree.now c.requires.whole c.args.place.inode c.args.kind c.requires.node in
    let m = e.inodes in
    let k = d.inodes in
    omega (arith, l, m, k)

pub give_node-requires-clause-used : goal.give_node-requires-clause-used
give_node-requires-clause-used g c =
    let e = c.in_ok-remove_name.ensures in
    let d = c.in_ok-gone.ensures in
    some_is (ap (λ (t : InodeTables). (tables_of t).kind c.args.place.inode) d.tables
    ∙ ap (λ f. f c.args.place.inode) e.rows.kinds ∙ c.requires.node)

pub give_node-requires-clause-bare : goal.give_node-requires-clause-bare
give_node-requires-clause-bare g c f is =
    let s = c.args.tree.now in
    let mid = c.remove_name.new.self in
    let e = c.in_ok-remove_name.ensures in
    let d = c.in_ok-gone.ensures in
    let i = c.args.place.inode in
    let l = within g.M.Medium.content g.M.Medium.size s c.requires.whole i c.args.kind c.requires.node in
    c.requires.bare f (sym (e.others i l c.requires.another)
    ∙ ap (λ a. file_at a (g.M.Medium.content mid.store.medium) i) (sym d.area)
    ∙ ap (λ b. file_at c.inode.new.self.store.area b i) (sym d.content) ∙ is)

pub give_node-requires-clause-unlinked : goal.give_node-requires-clause-unlinked
give_node-requires-clause-unlinked g c =
    let none = c.if-links-gt0.false in
    let links = c.links.ensures in
    let same = ap (λ (t : InodeTables). (tables_of t).counts.links c.args.place.inode) c.in_ok-gone.ensures.tables in
    omega (arith, none, links, same)

pub give_node-requires-clause-size : goal.give_node-requires-clause-size
give_node-requires-clause-size g c f is =
    let mid = c.remove_name.new.self in
    let d = c.in_ok-gone.ensures in
    let i = c.args.place.inode in
    (d.inode f (ap (λ a. file_at a (g.M.Medium.content mid.store.medium) i) (sym d.area)
    ∙ ap (λ b. file_at c.inode.new.self.store.area b i) (sym d.content) ∙ is)).size

pub returns-clause-node : goal.returns-clause-node
returns-clause-node g c =
    let s = c.args.tree.now in
    let mid = c.remove_name.new.self in
    let mid2 = c.inode.new.self in
    let r = c.in_ok-remove_name.ensures in
    let e = c.in_ok-gone.ensures in
    let d = c.in_ok-give_node.ensures in
    let i = c.args.place.inode in
    let t = tables_of mid.tables in
    let same : IsSame g.M.Medium.content g.M.Medium.size g.M.Medium.faults mid mid2 = record {
      alike = record { limits = e.limits; area = e.area; inodes = e.inodes; on_medium = e.size };
      tables = e.tables;
      blocks = e.content;
      count = e.cause.ok;
    } in
    let f = file_at-kind g.M.Medium.content g.M.Medium.size mid r.whole i c.args.kind (ap (λ f. f i) r.rows.kinds ∙ c.requires.node) in
    let none = c.if-links-gt0.false in
    let links = c.links.ensures in
    d.node ∙ ap (λ u. without_node u ((tables_of mid2.tables).handle i)) (tree-same g.M.Medium.content g.M.Medium.size g.M.Medium.faults mid mid2 same)
    ∙ ap (λ (x : InodeTables). without_node (tree_in g.M.Medium.content mid) ((tables_of x).handle i)) e.tables
    ∙ sym (last-name mid.store.inodes (files_of mid.store.area mid.store.inodes (g.M.Medium.content mid.store.medium)) t r.whole.tied i
    (some_is f.1) (omega (arith, none, links)))
    ∙ ap (λ (u : Tree). let_go u (t.handle i)) r.node
    ∙ ap (λ h. let_go (unnamed (tree_in g.M.Medium.content s) ((tables_of s.tables).handle c.args.dir) c.args.name.now) h)
    (ap (λ f. f i) r.rows.handles)

pub returns-clause-first : goal.returns-clause-first
returns-clause-first g c =
    c.in_ok-give_node.ensures.first ∙ ap (λ b. b 0) c.in_ok-gone.ensures.content ∙ c.in_ok-remove_name.ensures.first
