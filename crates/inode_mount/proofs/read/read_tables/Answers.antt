use Rattle.std.proofs.Common.{◌∙◌, refl}
use Rattle.inode_tree.specs.Kept.{tables_of}
use Rattle.inode_mount.specs.Reading.{AreNamed}
use Rattle.inode_mount.proofs.ReadLaws.{on-store, kept-on, readable-kept, whole-read}
use Rattle.inode_mount.proofs.read.read_tables.Goals as goal

pub enter_inodes-requires-clause-readable : goal.enter_inodes-requires-clause-readable
enter_inodes-requires-clause-readable g c =
    let e = c.in_ok-claim_inodes.ensures in
    readable-kept g.M.Medium.content g.M.Medium.size c.args.tree.now _ refl e.area e.inodes e.content e.size
    c.requires.planned c.requires.holds e.kept

pub returns-clause-whole : goal.returns-clause-whole
returns-clause-whole g c =
    let claimed = c.in_ok-claim_inodes.ensures in
    let entered = c.in_ok-enter_inodes.ensures in
    let named = c.in_ok-enter_names.ensures in
    let last = c.enter_names.new.tree in
    whole-read g.M.Medium.content g.M.Medium.size last
    (readable-kept g.M.Medium.content g.M.Medium.size c.args.tree.now last (named.limits ∙ entered.limits)
    (named.area ∙ entered.area ∙ claimed.area) (named.inodes ∙ entered.inodes ∙ claimed.inodes)
    (named.content ∙ entered.content ∙ claimed.content) (named.size ∙ entered.size ∙ claimed.size) c.requires.planned
    c.requires.holds (kept-on g.M.Medium.content g.M.Medium.size c.claim_inodes.new.store last.store
    (named.area ∙ entered.area) (named.inodes ∙ entered.inodes) (named.content ∙ entered.content)
    (named.size ∙ entered.size) (named.map ∙ entered.map) claimed.kept))
    (on-store g.M.Medium.content g.M.Medium.size (λ n files. AreNamed n files n 0 (tables_of last.tables))
    c.enter_inodes.new.tree.store last.store named.area named.inodes named.content named.named)
