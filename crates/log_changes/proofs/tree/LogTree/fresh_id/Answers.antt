use Rattle.std.proofs.Common.{◌≡◌, ◌∙◌, ◌<◌, ◌^◌, None, sym, ap, subst, arith}
use Rattle.std.specs.Int.{from_be_bytes, to_be_bytes, w64}
use Rattle.server_trait.specs.Calls.{IsNewNumber}
use Rattle.server_trait.specs.Tree.{node_at}
use Rattle.log_tree.specs.Held.{handle_of}
use Rattle.log_index.specs.Memory.{memory_of}
use Rattle.log_changes.specs.Kept.{log_live, log_tree}
use Rattle.log_changes.proofs.FreshLaws.{fresh_absent, fresh_number}
use Rattle.log_changes.proofs.tree.LogTree.fresh_id.Goals as goal

pub returns-clause-absent : goal.returns-clause-absent
returns-clause-absent g c =
    let t = c.args.self.now in
    let x = memory_of t.index in
    let is : c.to_be_bytes.result ≡ to_be_bytes w64 x.next = c.to_be_bytes.ensures ∙ ap (to_be_bytes w64) c.next.ensures in
    let small : x.next < 2 ^ 64 = omega (arith, c.next.ensures, c.next.type_inv) in
    subst (λ i. node_at (log_tree g.M.Medium.content g.M.Medium.size t) (handle_of i) ≡ None) (sym is)
    (fresh_absent (log_live g.M.Medium.content g.M.Medium.size t) x c.requires.indexed small)

pub returns-clause-number : goal.returns-clause-number
returns-clause-number g c =
    let t = c.args.self.now in
    let x = memory_of t.index in
    let is : c.to_be_bytes.result ≡ to_be_bytes w64 x.next = c.to_be_bytes.ensures ∙ ap (to_be_bytes w64) c.next.ensures in
    let small : x.next < 2 ^ 64 = omega (arith, c.next.ensures, c.next.type_inv) in
    subst (λ i. IsNewNumber (log_tree g.M.Medium.content g.M.Medium.size t) (from_be_bytes w64 i)) (sym is)
    (fresh_number (log_live g.M.Medium.content g.M.Medium.size t) x c.requires.indexed small)
