use Rattle.std.proofs.Common.{◌≡◌, ◌+◌, ◌∙◌, ℕ, suc, refl, subst, arith}
use Rattle.inode_mount.proofs.Claimed.{ClaimedTo, claimed_none, claimed_more, claimed_all, claims_on, keeps_on}
use Rattle.inode_mount.proofs.claim.claim_inodes.Goals as goal

pub loop-inode-init : goal.loop-inode-init
loop-inode-init g c =
    let s = c.args.store.now in
    let e = c.in_ok-store.ensures in
    record {
      state = claimed_none s.area (g.M.Medium.content s.medium) c.in_ok-store.field-0 e.size e.low e.all;
      content = refl;
      size = refl;
      area = refl;
      inodes = refl;
      faults = refl;
    }

pub loop-inode-preserved : goal.loop-inode-preserved
loop-inode-preserved g c =
    let s = c.args.store.now in
    let t = c.loop-inode.store in
    let u = c.claim_inode.new.store in
    let inv = c.loop-inode.invariant in
    let e = c.in_ok-claim_inode.ensures in
    let next : suc c.loop-inode.inode ≡ c.loop-inode.inode + 1 = omega arith in
    record {
      state = subst (λ (k : ℕ). ClaimedTo s.area (g.M.Medium.content s.medium) k u.map) next
          (claimed_more s.area (g.M.Medium.content s.medium) c.loop-inode.inode t.map u.map inv.state
          (claims_on s.area t.area (g.M.Medium.content s.medium) (g.M.Medium.content t.medium) c.loop-inode.inode t.map
          u.map inv.area inv.content e.ok) e.len);
      content = e.content ∙ inv.content;
      size = e.size ∙ inv.size;
      area = e.area ∙ inv.area;
      inodes = e.inodes ∙ inv.inodes;
      faults = e.cause.ok ∙ inv.faults;
    }

pub returns-clause-kept : goal.returns-clause-kept
returns-clause-kept g c =
    let s = c.args.store.now in
    let t = c.loop-inode.store in
    let inv = c.loop-inode.invariant in
    let r = c.requires in
    let all : c.loop-inode.inode ≡ s.inodes = omega (arith, c.loop-inode-test.false, c.loop-inode.auto.inode-end) in
    keeps_on s.area t.area s.inodes t.inodes (g.M.Medium.size s.medium) (g.M.Medium.size t.medium)
    (g.M.Medium.content s.medium) (g.M.Medium.content t.medium) t.map inv.area inv.inodes inv.size inv.content
    (claimed_all s.area s.inodes (g.M.Medium.size s.medium) (g.M.Medium.content s.medium) t.map r.first r.ordered
    r.on_medium r.small r.whole r.once
    (subst (λ (k : ℕ). ClaimedTo s.area (g.M.Medium.content s.medium) k t.map) all inv.state))
