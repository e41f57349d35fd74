use Rattle.std.proofs.Common.{◌+◌, ◌%◌, ℕ, ap, ◌∙◌, refl, subst, max, replicate, take, arith}
use Rattle.nfs2_types.specs.Bytes.{resized}
use Rattle.pointer_tree.specs.declared.node.Area.{Area}
use Rattle.inode_store.specs.Written.{Rewrites}
use Rattle.inode_store.proofs.ResizeLaws.{FillsBlock, fills_block, fill_done, fill_more, zeros_part, length-zeros_part}
use Rattle.inode_store.proofs.store.InodeStore.fill.Goals as goal
use Rattle.inode_store.proofs.store.InodeStore.fill.Goals.{In_ok-y}
use Rattle.inode_store.proofs.store.InodeStore.fill.Given.{Over}

-- where the zeros end that fill the last block
filled : (g : Over) (c : In_ok-y g) →
    FillsBlock c.args.x.size (c.args.x.size % 512) c.min-count.result c.args.size c.in_ok-y.y.size
filled g c = fills_block c.args.x.size (c.args.x.size % 512) c.min-count.result c.args.size c.in_ok-y.y.size refl
    c.min-count.ensures
    (c.in_ok-y.ensures.end ∙ ap (λ (n : ℕ). max c.args.x.size (c.args.x.size + n))
    (length-zeros_part c.min-count.result (let e = c.min-count.ensures in omega (arith, e))))
    c.requires.more

pub returns-then-y-size-clause-ok : goal.returns-then-y-size-clause-ok
returns-then-y-size-clause-ok g c =
    let s = c.args.self.now in
    let f = filled g (goal.at.returns-then-y-size-clause-ok g c).In_ok-y in
    fill_done s.area c.args.x c.in_ok-y.y (take {A = ℕ} c.min-count.result (replicate 512 0)) c.min-count.result
    c.args.size
    (g.M.Medium.content s.medium) (g.M.Medium.content c.write_part.new.self.medium) s.map c.write_part.new.self.map
    (zeros_part c.min-count.result (let e = c.min-count.ensures in omega (arith, e))) (f.last c.if-y-size.true)
    c.in_ok-y.ensures.ok

pub lengthen-requires-2-clause-more : goal.lengthen-requires-2-clause-more
lengthen-requires-2-clause-more g c =
    (filled g (goal.at.lengthen-requires-2-clause-more g c).In_ok-y).more c.if-y-size.false

pub lengthen-requires-2-clause-block : goal.lengthen-requires-2-clause-block
lengthen-requires-2-clause-block g c =
    (filled g (goal.at.lengthen-requires-2-clause-block g c).In_ok-y).block c.if-y-size.false

pub returns-clause-ok : goal.returns-clause-ok
returns-clause-ok g c =
    let s = c.args.self.now in
    let f = filled g (goal.at.returns-clause-ok g c).In_ok-y in
    let c2 = g.M.Medium.content c.lengthen-2.new.self.medium in
    let m2 = c.lengthen-2.new.self.map in
    let second = subst (λ (a : Area). Rewrites a c.in_ok-y.y (resized c.args.size)
    (g.M.Medium.content c.write_part.new.self.medium) c.write_part.new.self.map c.in_ok-z.z c2 m2)
    c.in_ok-y.ensures.area c.in_ok-z.ensures.ok in
    fill_more s.area c.args.x c.in_ok-y.y c.in_ok-z.z (take {A = ℕ} c.min-count.result (replicate 512 0))
    c.min-count.result
    c.args.size (g.M.Medium.content s.medium) (g.M.Medium.content c.write_part.new.self.medium) c2 s.map
    c.write_part.new.self.map m2 (zeros_part c.min-count.result (let e = c.min-count.ensures in omega (arith, e)))
    f.within c.in_ok-y.ensures.ok second
