use Rattle.std.proofs.Common.{◌≡◌, ◌+◌, ◌*◌, ◌/◌, ℕ, subst, arith}
use Rattle.std.specs.Prelude.{min}
use Rattle.log_store.specs.Store.{live_in}
use Rattle.log_files.specs.Chunked.{ResizedBytes}
use Rattle.log_files.proofs.ResizeLaws.{resized_twice}
use Rattle.log_files.proofs.resize.cut_bytes.Goals as goal

pub returns-in_ok-cut_last-clause-cut : goal.returns-in_ok-cut_last-clause-cut
returns-in_ok-cut_last-clause-cut g c =
    let a = c.args in
    let live = live_in g.M.Medium.content g.M.Medium.size in
    let s : ℕ = min a.size (480 * ((a.to + 479) / 480)) in
    let left : c.min-left.result ≡ s = c.min-left.ensures in
    let below = c.requires.below in
    let cut : ResizedBytes (live c.drop_chunks.new.store) (live c.cut_last.new.store) a.id.now s a.to =
    subst (λ (n : ℕ). ResizedBytes (live c.drop_chunks.new.store) (live c.cut_last.new.store) a.id.now n a.to) left
    c.in_ok-cut_last.ensures.cut in
    resized_twice (live a.store.now) (live c.drop_chunks.new.store) (live c.cut_last.new.store) a.id.now a.size s a.to
    c.requires.chunked c.in_ok-drop_chunks.ensures.cut cut (omega arith) (omega arith)
