use Rattle.std.proofs.Common.{◌∙◌, ℕ, List, Some, take, drop, sym, ap}
use Rattle.std.specs.Prelude.{option_map}
use Rattle.server_trait.specs.Tree.{bytes_at}
use Rattle.server_trait.proofs.SoftLaws.{some_of}
use Rattle.log_tree.specs.Held.{handle_of}
use Rattle.log_store.specs.Store.{live_in}
use Rattle.log_index.specs.Memory.{memory_of}
use Rattle.log_changes.specs.Kept.{log_tree}
use Rattle.log_changes.proofs.BytesLaws.{sized}
use Rattle.log_changes.proofs.tree.LogTree.read.Goals as goal

pub read_bytes-requires-clause-chunked : goal.read_bytes-requires-clause-chunked
read_bytes-requires-clause-chunked g c =
    let t = c.args.self.now in
    let live = live_in g.M.Medium.content g.M.Medium.size t.store in
    let b = some_of (bytes_at (log_tree g.M.Medium.content g.M.Medium.size t) (handle_of c.args.id.now)) c.requires.file in
    (sized t.limits live c.args.id.now b.0 (memory_of t.index) c.in-Some.info c.requires.kept.sound
    c.requires.kept.indexed c.told-id b.1 (sym c.in-Some.is ∙ c.get.ensures)).chunked

pub returns-clause-bytes : goal.returns-clause-bytes
returns-clause-bytes g c =
    let t = c.args.self.now in
    let a = c.args in
    let live = live_in g.M.Medium.content g.M.Medium.size t.store in
    let b = some_of (bytes_at (log_tree g.M.Medium.content g.M.Medium.size t) (handle_of a.id.now)) c.requires.file in
    let z = sized t.limits live a.id.now b.0 (memory_of t.index) c.in-Some.info c.requires.kept.sound
    c.requires.kept.indexed c.told-id b.1 (sym c.in-Some.is ∙ c.get.ensures) in
    ap (option_map (λ (l : List ℕ). take a.count (drop a.offset l))) b.1
    ∙ (ap (λ (l : List ℕ). Some (take a.count (drop a.offset l))) z.bytes_is ∙ ap Some (sym c.in_ok-bytes.ensures.bytes))
