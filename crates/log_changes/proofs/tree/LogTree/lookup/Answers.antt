use Rattle.std.proofs.Common.{◌∙◌, sym}
use Rattle.server_trait.specs.Tree.{names_at}
use Rattle.server_trait.proofs.SoftLaws.{some_of}
use Rattle.log_tree.specs.Held.{handle_of}
use Rattle.log_store.specs.Store.{live_in}
use Rattle.log_changes.specs.Kept.{log_tree}
use Rattle.log_changes.proofs.DirLaws.{target_names}
use Rattle.log_changes.proofs.tree.LogTree.lookup.Goals as goal

pub returns-clause-found : goal.returns-clause-found
returns-clause-found g c =
    let t = c.args.self.now in
    let live = live_in g.M.Medium.content g.M.Medium.size t.store in
    let m = some_of (names_at (log_tree g.M.Medium.content g.M.Medium.size t) (handle_of c.args.dir.now)) c.requires.dir in
    c.in_ok-child.ensures.found ∙ sym (target_names live c.args.dir.now m.0 c.told-dir m.1 c.args.name.now)
