use Rattle.std.proofs.Common.{◌∙◌, sym, subst, List, Bool}
use Rattle.pointer_tree.specs.Changes.{Claims, IsTop}
use Rattle.pointer_tree.specs.declared.node.Area.{Area}
use Rattle.inode_store.proofs.ChangeLaws.{depths, tops, top_at}
use Rattle.inode_mount.proofs.Claimed.{claims_free, claims_used}
use Rattle.inode_mount.proofs.claim.claim_inode.Goals as goal

pub returns-in_default-clause-ok : goal.returns-in_default-clause-ok
returns-in_default-clause-ok g c =
    let s = c.args.store.now in
    let content = g.M.Medium.content s.medium in
    let e = c.in_ok-x.ensures in
    subst (λ (m : List Bool). Claims s.area (depths s.area content c.args.inode) (tops s.area content c.args.inode)
    content s.map m) (sym e.map)
    (claims_free s.area content c.args.inode s.map (sym e.inode ∙ c.in_default.is))

pub claim_tree-requires-clause-top_is : goal.claim_tree-requires-clause-top_is
claim_tree-requires-clause-top_is g c =
    let s = c.args.store.now in
    let e = c.in_ok-x.ensures in
    subst (λ (a : Area). IsTop a c.in-Some.x.top) (sym e.area)
    (top_at s.area (g.M.Medium.content s.medium) c.args.inode c.in-Some.x (sym e.inode ∙ c.in-Some.is))

pub claim_tree-requires-clause-depth_in : goal.claim_tree-requires-clause-depth_in
claim_tree-requires-clause-depth_in g c =
    (c.requires.whole c.in-Some.x (sym c.in_ok-x.ensures.inode ∙ c.in-Some.is)).depth_in

pub returns-clause-ok : goal.returns-clause-ok
returns-clause-ok g c =
    let s = c.args.store.now in
    let t = c.load.new.self in
    let e = c.in_ok-x.ensures in
    claims_used s.area t.area (g.M.Medium.content s.medium) (g.M.Medium.content t.medium) c.args.inode c.in-Some.x s.map
    t.map c.claim_tree.new.map (sym e.inode ∙ c.in-Some.is) e.area e.content e.map c.in_ok-claim_tree.ensures.ok
