use Rattle.std.proofs.Common.{◌≡◌, ◌∙◌, Some, length, sym, ap, arith}
use Rattle.std.proofs.lemmas.List.{take_all}
use Rattle.server_trait.specs.Tree.{text_at}
use Rattle.server_trait.proofs.SoftLaws.{some_of}
use Rattle.log_tree.specs.Held.{handle_of, bytes_of}
use Rattle.log_store.specs.Store.{live_in}
use Rattle.log_index.specs.Memory.{memory_of}
use Rattle.log_changes.specs.Kept.{log_tree}
use Rattle.log_changes.proofs.KeptLaws.{text_sized}
use Rattle.log_changes.proofs.tree.LogTree.read_text.Goals as goal

pub read_bytes-requires-clause-chunked : goal.read_bytes-requires-clause-chunked
read_bytes-requires-clause-chunked g c =
    let t = c.args.self.now in
    let live = live_in g.M.Medium.content g.M.Medium.size t.store in
    let b = some_of (text_at (log_tree g.M.Medium.content g.M.Medium.size t) (handle_of c.args.id.now)) c.requires.link in
    (text_sized live c.args.id.now b.0 (memory_of t.index) c.in-Some.info c.requires.kept.sound.placed
    c.requires.kept.indexed c.told-id b.1 (sym c.in-Some.is ∙ c.get.ensures)).chunked

pub returns-clause-text : goal.returns-clause-text
returns-clause-text g c =
    let t = c.args.self.now in
    let live = live_in g.M.Medium.content g.M.Medium.size t.store in
    let b = some_of (text_at (log_tree g.M.Medium.content g.M.Medium.size t) (handle_of c.args.id.now)) c.requires.link in
    let z = text_sized live c.args.id.now b.0 (memory_of t.index) c.in-Some.info c.requires.kept.sound.placed
    c.requires.kept.indexed c.told-id b.1 (sym c.in-Some.is ∙ c.get.ensures) in
    let size : c.in-Some.info.size ≡ length b.0 = z.size_is in
    let long : length (bytes_of live c.args.id.now) ≡ c.in-Some.info.size = sym (size ∙ ap length z.bytes_is) in
    b.1 ∙ ap Some (z.bytes_is ∙ (sym (take_all c.in-Some.info.size (bytes_of live c.args.id.now) (omega arith))
    ∙ sym c.in_ok-text.ensures.bytes))
