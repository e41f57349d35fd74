use Rattle.std.proofs.Common.{inl, inr, ◌+◌, ◌∙◌, refl, sym, arith}
use Rattle.inode_tree.specs.Kept.{tables_of}
use Rattle.inode_mount.specs.Reading.{files_in, AreEntered, IsEntering}
use Rattle.inode_mount.proofs.EnteredLaws.{entering-all}
use Rattle.inode_mount.proofs.ReadLaws.{on-store, readable-on, no-file, some-inodes}
use Rattle.inode_mount.proofs.enter.enter_inodes.Goals as goal

pub loop-inode-init : goal.loop-inode-init
loop-inode-init g c = record {
  state = inl (refl, c.requires.bare);
  epoch = refl;
  content = refl;
  map = refl;
  limits = refl;
  area = refl;
  inodes = refl;
  size = refl;
  faults = refl;
}

pub enter_inode-requires-clause-readable : goal.enter_inode-requires-clause-readable
enter_inode-requires-clause-readable g c =
    let i = c.loop-inode.invariant in
    readable-on g.M.Medium.content g.M.Medium.size c.args.tree.now c.loop-inode.tree i.limits i.area i.inodes i.content
    i.size i.map c.requires.readable

pub enter_inode-requires-clause-so_far : goal.enter_inode-requires-clause-so_far
enter_inode-requires-clause-so_far g c =
    let i = c.loop-inode.invariant in
    on-store g.M.Medium.content g.M.Medium.size (λ n files. IsEntering n files c.loop-inode.inode
    (tables_of c.loop-inode.tree.tables)) c.args.tree.now.store c.loop-inode.tree.store i.area i.inodes i.content i.state

pub loop-inode-preserved : goal.loop-inode-preserved
loop-inode-preserved g c =
    let i = c.loop-inode.invariant in
    let e = c.in_ok-enter_inode.ensures in
    record {
      state = inr (on-store g.M.Medium.content g.M.Medium.size (λ n files. AreEntered n files (c.loop-inode.inode + 1)
          (tables_of c.enter_inode.new.tree.tables)) c.loop-inode.tree.store c.args.tree.now.store (sym i.area)
          (sym i.inodes) (sym i.content) e.so_far);
      epoch = e.epoch ∙ i.epoch;
      content = e.content ∙ i.content;
      map = e.map ∙ i.map;
      limits = e.limits ∙ i.limits;
      area = e.area ∙ i.area;
      inodes = e.inodes ∙ i.inodes;
      size = e.size ∙ i.size;
      faults = e.cause.ok ∙ i.faults;
    }

pub returns-clause-entered : goal.returns-clause-entered
returns-clause-entered g c =
    let s = c.args.tree.now in
    let i = c.loop-inode.invariant in
    entering-all s.store.inodes (files_in g.M.Medium.content s.store)
    (some-inodes g.M.Medium.content g.M.Medium.size s c.requires.readable)
    (no-file g.M.Medium.content g.M.Medium.size s c.requires.readable) (tables_of c.loop-inode.tree.tables)
    c.loop-inode.inode (omega (arith, c.loop-inode-test.false)) i.state
