use Rattle.std.proofs.Common.{◌^◌, ◌<◌, Some, sym, ap, arith, subst}
use Rattle.nfs2_types.specs.declared.fattr.Kind.TheVariants.{Dir}
use Rattle.inode_tree.specs.Changes.{AreBare, Takes}
use Rattle.inode_tree.specs.Kept.{tables_of}
use Rattle.inode_tree.proofs.WholeLaws.{tables-apart}
use Rattle.inode_tree.proofs.WipeLaws.{zero-taken, planned-again, whole-root, fresh-root}
use Rattle.inode_tree.proofs.tree.InodeTree.wipe.Goals as goal

pub returns-clause-whole : goal.returns-clause-whole
returns-clause-whole g c =
    let s = c.args.self.now in
    let n = c.format.new.self in
    let e = c.in_ok-format.ensures in
    let t0 = tables_of c.in_ok-self.field-0 in
    let t = tables_of c.take.new.self in
    let at = rw c.in-Some-2.is at c.in_ok-take.ensures in
    let planned = planned-again s.limits s.store.area n.area s.store.inodes n.inodes (g.M.Medium.size s.store.medium)
    (g.M.Medium.size n.medium) c.requires e.area e.inodes e.size in
    let some : 0 < n.inodes = (let i = planned.inodes in omega (arith, i)) in
    let small : n.inodes < 2 ^ 32 = (let b = planned.blocks in let m = planned.on_medium in let l = planned.small in
    omega (arith, b, m, l)) in
    let bare = subst (λ i. AreBare t0 i) (sym e.inodes) c.in_ok-self.ensures.bare in
    let zero = zero-taken t0 n.inodes c.in-Some-2.field-0 bare some at.3 in
    let takes = subst (λ i. Takes t0 t i Dir 0) zero at.2 in
    whole-root s.limits n.area n.inodes (g.M.Medium.content n.medium) (g.M.Medium.size n.medium) n.map t0 t planned e.kept
    e.root e.others bare takes (tables-apart c.take.new.self n.inodes small)

pub returns-clause-fresh : goal.returns-clause-fresh
returns-clause-fresh g c =
    let s = c.args.self.now in
    let n = c.format.new.self in
    let e = c.in_ok-format.ensures in
    let t0 = tables_of c.in_ok-self.field-0 in
    let t = tables_of c.take.new.self in
    let at = rw c.in-Some-2.is at c.in_ok-take.ensures in
    let planned = planned-again s.limits s.store.area n.area s.store.inodes n.inodes (g.M.Medium.size s.store.medium)
    (g.M.Medium.size n.medium) c.requires e.area e.inodes e.size in
    let some : 0 < n.inodes = (let i = planned.inodes in omega (arith, i)) in
    let small : n.inodes < 2 ^ 32 = (let b = planned.blocks in let m = planned.on_medium in let l = planned.small in
    omega (arith, b, m, l)) in
    let bare = subst (λ i. AreBare t0 i) (sym e.inodes) c.in_ok-self.ensures.bare in
    let zero = zero-taken t0 n.inodes c.in-Some-2.field-0 bare some at.3 in
    let takes = subst (λ i. Takes t0 t i Dir 0) zero at.2 in
    record {
      root = t.handle 0;
      number = 0;
      after = ap Some (fresh-root s.limits n.area n.inodes (g.M.Medium.content n.medium) (g.M.Medium.size n.medium) n.map t0 t planned e.kept
          e.root e.others bare takes (tables-apart c.take.new.self n.inodes small));
    }
