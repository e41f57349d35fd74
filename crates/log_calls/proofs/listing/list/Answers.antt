use Rattle.std.proofs.Common.{◌≡◌, ◌∙◌, Some, length, sym, ap, subst, arith}
use Rattle.std.specs.Prelude.{Vec, IsSomeAnd, replicate}
use Rattle.std.proofs.lemmas.List.{length-append}
use Rattle.std.specs.declared.alloc.Global.{Global}
use Rattle.server_trait.specs.Calls.{DirErr, ListNames, Lists}
use Rattle.server_trait.specs.Tree.{names_at}
use Rattle.server_trait.specs.declared.server.Listed.{Listed}
use Rattle.server_trait.proofs.SoftLaws.{dir_soft, some_of}
use Rattle.server_trait.proofs.TreeLaws.{is_some_and}
use Rattle.log_tree.specs.Held.{handle_of, names_of}
use Rattle.log_changes.specs.Kept.{log_live, log_tree}
use Rattle.log_calls.specs.State.{Does}
use Rattle.log_calls.proofs.RowLaws.{names_there}
use Rattle.log_calls.proofs.StateLaws.{all_ok, ended, if_ok, still}
use Rattle.log_calls.proofs.listing.list.Goals as goal

pub returns : goal.returns
returns g c =
    let content = g.M.Medium.content in
    let size = g.M.Medium.size in
    let faults = g.M.Medium.faults in
    let t = c.args.tree.now in
    let new = c.names_of.new.tree in
    let tree = log_tree content size in
    let live = log_live content size t in
    let id = c.in_ok-within.within.id in
    let H = handle_of id in
    let found = c.in_ok-within.ensures in
    let eight : length id ≡ 8 = omega (arith, ap length found.0, c.told-dir, length-append id (replicate 24 0)) in
    let m = some_of (names_at (tree t) c.args.dir.now) found.1 in
    let at : names_at (tree t) H ≡ Some m.0 = ap (names_at (tree t)) (sym found.0) ∙ m.1 in
    subst (λ q. Does content size faults (λ s. ListNames s q) t c.answered.result new) (sym found.0)
    (subst (λ r. Does content size faults (λ s. ListNames s H) t r new) (sym c.answered.ensures)
    (ended content size faults (λ s. ListNames s H)
    (λ t (v : Vec Listed Global) after. IsSomeAnd (names_at t H) (Lists v.items) × (after ≡ Some t))
    (λ t e. DirErr H t e) t new (λ r b k. k)
    c.requires t (still content size faults t c.requires) c.names_of.result c.names_of.ensures.changes
    (all_ok c.names_of.result c.names_of.ensures.kept)
    (λ x e. (
      is_some_and (Lists x.items) at (subst (Lists x.items) (sym (names_there live id m.0 eight at))
          (if_ok (λ (v : Vec Listed Global). Lists v.items (names_of live id)) c.names_of.result x c.names_of.ensures.rows e)),
      ap Some c.names_of.ensures.tree,
    ))
    (dir_soft (tree t) H m.0 at)))
