use Rattle.std.proofs.Common.{subst, refl, ◌/◌}
use Rattle.pointer_tree.specs.Tree.{Content}
use Rattle.pointer_tree.specs.Changes.{Puts}
use Rattle.inode_store.proofs.WriteLaws.{part_written}
use Rattle.inode_store.proofs.store.InodeStore.write_part.Goals as goal

pub returns-clause-ok : goal.returns-clause-ok
returns-clause-ok g c =
    let s = c.args.self.now in
    let x = c.args.x in
    let deep = c.in_ok-depth.ensures in
    let got = c.in_ok-block.ensures in
    let c1 = g.M.Medium.content c.deepen_tree.new.medium in
    let c2 = g.M.Medium.content c.put_block.new.medium in
    let puts = subst (λ (f : Content). Puts s.area c.in_ok-depth.depth c.in_ok-depth.top (c.args.offset / 512)
    c.overwrite.new.block f c.deepen_tree.new.map c.in_ok-top.top c2 c.put_block.new.map) got.content
    c.in_ok-top.ensures.ok in
    part_written s.area x c.args.offset c.args.part.now (g.M.Medium.content s.medium) c1 s.map c.deepen_tree.new.map
    c.in_ok-depth.depth c.in_ok-depth.top c.in_ok-top.top (c.args.offset / 512) c.max.result deep.ok deep.place
    deep.depth_in c.in_ok-block.block c.overwrite.new.block got.bytes c2 c.put_block.new.map puts c.requires.whole
    c.requires.inside c.requires.some c.requires.within refl c.max.ensures c.overwrite.ensures.here
    c.overwrite.ensures.there
