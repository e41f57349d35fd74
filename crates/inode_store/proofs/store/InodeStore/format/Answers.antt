use Rattle.std.proofs.Common.{◌≡◌, ◌≤◌, ◌<◌, ◌∙◌, ℕ, arith, ap, refl, inl, Some, None}
use Rattle.nfs2_types.specs.declared.fattr.Kind.TheVariants.{Dir}
use Rattle.pointer_tree.specs.declared.node.Area.{Area}
use Rattle.inode_dirs.specs.Files.{File}
use Rattle.inode_store.specs.Inodes.{inode_at}
use Rattle.inode_store.specs.declared.inode.Inode.{Inode}
use Rattle.inode_store.proofs.FormatLaws.{claimed_as, keeps_root, file_root, file_none, root_written, others_written}
use Rattle.inode_store.proofs.OpLaws.{here_of, file_new}
use Rattle.inode_store.proofs.store.InodeStore.format.Goals as goal
use Rattle.inode_store.proofs.store.InodeStore.format.Goals.{In_ok-write}
use Rattle.inode_store.proofs.store.InodeStore.format.Given.{Over}

abbrev root_inode : Inode
root_inode = record { kind = Dir; mode = 0; uid = 0; gid = 0; size = 0; depth = 0; top = 0 }

root : (g : Over) (c : In_ok-write g) →
    inode_at c.put.new.self.area (g.M.Medium.content c.write.new.self) 0 ≡ Some root_inode
root g c =
    let area = c.put.new.self.area in
    let c1 = g.M.Medium.content c.put.new.self.medium in
    root_written area c1 (g.M.Medium.content c.write.new.self) root_inode
    (here_of area c1 0 c.to_block.result (Some root_inode) c.in_ok-put.ensures.here (c.to_block.ensures area
    (inl refl)))
    c.in_ok-write.ensures.others

others : (g : Over) (c : In_ok-write g) → (i : ℕ) → 1 ≤ i → i < c.put.new.self.inodes →
    inode_at c.put.new.self.area (g.M.Medium.content c.write.new.self) i ≡ None
others g c = others_written c.put.new.self.area c.args.self.now.area c.put.new.self.inodes c.args.self.now.inodes
    (g.M.Medium.content c.clear.new.self.medium) (g.M.Medium.content c.put.new.self.medium)
    (g.M.Medium.content c.write.new.self) (c.in_ok-put.ensures.area ∙ c.in_ok-clear.ensures.area)
    (c.in_ok-put.ensures.inodes ∙ c.in_ok-clear.ensures.inodes) c.in_ok-clear.ensures.free
    c.in_ok-put.ensures.others c.in_ok-write.ensures.others

pub returns-clause-kept : goal.returns-clause-kept
returns-clause-kept g c =
    let d = (goal.at.returns-clause-kept g c).In_ok-write in
    let e = c.in_ok-put.ensures in
    let k = c.in_ok-clear.ensures in
    let f = c.in_ok-self.ensures in
    let area = c.put.new.self.area in
    let same = e.area ∙ k.area in
    let size = c.in_ok-write.ensures.size ∙ e.size ∙ k.size in
    let first = ap (λ (a : Area). a.first) same in
    let end = ap (λ (a : Area). a.end) same in
    let count = e.inodes ∙ k.inodes in
    keeps_root area c.put.new.self.inodes (g.M.Medium.size c.write.new.self) (g.M.Medium.content c.write.new.self)
    c.put.new.self.map root_inode (root g d) refl refl refl (others g d)
    (omega (arith, c.requires.first, first, count)) (omega (arith, c.requires.ordered, first, end))
    (omega (arith, c.requires.on_medium, end, size)) (omega (arith, c.requires.small, size))
    (claimed_as _ _ _ _ _ _ (e.map ∙ k.map) first end (record { size = f.size; low = f.low; all = f.all }))

pub returns-clause-root : goal.returns-clause-root
returns-clause-root g c =
    let d = (goal.at.returns-clause-root g c).In_ok-write in
    file_root c.put.new.self.area c.put.new.self.inodes 0 (g.M.Medium.content c.write.new.self) c.put.new.self.map
    root_inode (root g d) refl refl refl (others g d)
    ∙ ap (λ (f : File). Some f) (file_new c.put.new.self.area (g.M.Medium.content c.write.new.self) Dir)

pub returns-clause-others : goal.returns-clause-others
returns-clause-others g c =
    let d = (goal.at.returns-clause-others g c).In_ok-write in
    file_none c.put.new.self.area c.put.new.self.inodes 0 (g.M.Medium.content c.write.new.self) c.put.new.self.map
    root_inode (root g d) refl refl refl (others g d)
