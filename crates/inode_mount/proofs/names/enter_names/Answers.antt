use Rattle.std.proofs.Common.{◌≡◌, ◌+◌, ◌∙◌, ℕ, refl, sym, subst, arith}
use Rattle.inode_tree.specs.Kept.{tables_of}
use Rattle.inode_mount.specs.Reading.{files_in, AreNamed}
use Rattle.inode_mount.proofs.ReadLaws.{on-store, readable-on}
use Rattle.inode_mount.proofs.names.enter_names.Goals as goal

pub loop-inode-init : goal.loop-inode-init
loop-inode-init g c = record {
  state = c.requires.entered;
  epoch = refl;
  content = refl;
  map = refl;
  limits = refl;
  area = refl;
  inodes = refl;
  size = refl;
  faults = refl;
}

pub enter_dir-requires-clause-readable : goal.enter_dir-requires-clause-readable
enter_dir-requires-clause-readable g c =
    let i = c.loop-inode.invariant in
    readable-on g.M.Medium.content g.M.Medium.size c.args.tree.now c.loop-inode.tree i.limits i.area i.inodes i.content
    i.size i.map c.requires.readable

pub enter_dir-requires-clause-so_far : goal.enter_dir-requires-clause-so_far
enter_dir-requires-clause-so_far g c =
    let i = c.loop-inode.invariant in
    on-store g.M.Medium.content g.M.Medium.size (λ n files. AreNamed n files c.loop-inode.inode 0
    (tables_of c.loop-inode.tree.tables)) c.args.tree.now.store c.loop-inode.tree.store i.area i.inodes i.content i.state

pub loop-inode-preserved : goal.loop-inode-preserved
loop-inode-preserved g c =
    let i = c.loop-inode.invariant in
    let e = c.in_ok-enter_dir.ensures in
    record {
      state = on-store g.M.Medium.content g.M.Medium.size (λ n files. AreNamed n files (c.loop-inode.inode + 1) 0
          (tables_of c.enter_dir.new.tree.tables)) c.loop-inode.tree.store c.args.tree.now.store (sym i.area)
          (sym i.inodes) (sym i.content) e.so_far;
      epoch = e.epoch ∙ i.epoch;
      content = e.content ∙ i.content;
      map = e.map ∙ i.map;
      limits = e.limits ∙ i.limits;
      area = e.area ∙ i.area;
      inodes = e.inodes ∙ i.inodes;
      size = e.size ∙ i.size;
      faults = e.cause.ok ∙ i.faults;
    }

pub returns-clause-named : goal.returns-clause-named
returns-clause-named g c =
    let s = c.args.tree.now in
    let i = c.loop-inode.invariant in
    let all : c.loop-inode.inode ≡ s.store.inodes = omega (arith, c.loop-inode-test.false, c.loop-inode.auto.inode-end) in
    subst (λ (k : ℕ). AreNamed s.store.inodes (files_in g.M.Medium.content s.store) k 0
    (tables_of c.loop-inode.tree.tables)) all i.state
