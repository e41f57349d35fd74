use Rattle.std.proofs.Common.{◌+◌, ◌≤◌, sym, ap, ◌∙◌, arith, subst}
use Rattle.server_trait.specs.Tree.{named}
use Rattle.server_trait.specs.declared.server.ServerLimits.{ServerLimits}
use Rattle.inode_tree.specs.Kept.{tables_of}
use Rattle.inode_tree.specs.Whole.{tree_in}
use Rattle.inode_server.proofs.FoundLaws.{led_other}
use Rattle.inode_server.proofs.MoveLaws.{still_new, still_room, now_unlinked}
use Rattle.inode_server.proofs.renaming.move_name.Goals as goal

pub add_name-requires-clause-within : goal.add_name-requires-clause-within
add_name-requires-clause-within g c =
    let l = c.requires.into in
    let n = c.in_ok-remove_name.ensures.inodes in
    omega (arith, l, n)

pub add_name-requires-clause-dir : goal.add_name-requires-clause-dir
add_name-requires-clause-dir g c =
    ap (λ f. f c.args.to) c.in_ok-remove_name.ensures.rows.kinds ∙ c.requires.to

pub add_name-requires-clause-node : goal.add_name-requires-clause-node
add_name-requires-clause-node g c =
    ap (λ f. f c.args.place.inode) c.in_ok-remove_name.ensures.rows.kinds ∙ c.requires.node

pub add_name-requires-clause-new : goal.add_name-requires-clause-new
add_name-requires-clause-new g c =
    still_new g.M.Medium.content g.M.Medium.size c.args.tree.now c.requires.whole (tables_of c.remove_name.new.self.tables) c.args.from c.args.name.now
    c.args.place c.args.kind c.in_ok-remove_name.ensures.rows c.args.to c.args.to_name.now c.requires.new

pub add_name-requires-clause-unlinked : goal.add_name-requires-clause-unlinked
add_name-requires-clause-unlinked g c is =
    now_unlinked g.M.Medium.content g.M.Medium.size c.args.tree.now c.requires.whole (tables_of c.remove_name.new.self.tables) c.args.from c.args.name.now
    c.args.place c.args.kind c.in_ok-remove_name.ensures.rows c.requires.node is

pub add_name-requires-clause-other : goal.add_name-requires-clause-other
add_name-requires-clause-other g c =
    led_other g.M.Medium.content g.M.Medium.size c.args.tree.now c.requires.whole c.args.from c.requires.from c.args.name.now
    c.args.place c.requires.there

pub add_name-requires-clause-room : goal.add_name-requires-clause-room
add_name-requires-clause-room g c =
    let room = still_room g.M.Medium.content g.M.Medium.size c.args.tree.now c.requires.whole (tables_of c.remove_name.new.self.tables) c.args.from c.args.name.now
    c.args.place c.args.kind c.in_ok-remove_name.ensures.rows in
    subst (λ (l : ServerLimits). (tables_of c.remove_name.new.self.tables).counts.used + 512 ≤ l.bytes)
    (sym c.in_ok-remove_name.ensures.limits) room

pub returns-clause-node : goal.returns-clause-node
returns-clause-node g c =
    let s = c.args.tree.now in
    let e = c.in_ok-remove_name.ensures in
    let d = c.in_ok-add_name.ensures in
    d.node ∙ ap (λ h. named (tree_in g.M.Medium.content c.remove_name.new.self) (h c.args.to) c.args.to_name.now (h c.args.place.inode))
    e.rows.handles ∙ ap (λ t. named t ((tables_of s.tables).handle c.args.to) c.args.to_name.now
    ((tables_of s.tables).handle c.args.place.inode)) e.node

pub returns-clause-first : goal.returns-clause-first
returns-clause-first g c =
    c.in_ok-add_name.ensures.first ∙ c.in_ok-remove_name.ensures.first
