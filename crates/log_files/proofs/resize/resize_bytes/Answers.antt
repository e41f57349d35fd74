use Rattle.std.proofs.Common.{◌≡◌, subst, arith}
use Rattle.log_store.specs.Store.{live_in}
use Rattle.log_files.specs.Chunked.{ResizedBytes}
use Rattle.log_files.proofs.ResizeLaws.{resized_none}
use Rattle.log_files.proofs.resize.resize_bytes.Goals as goal

pub returns-else-to-size-clause-resized : goal.returns-else-to-size-clause-resized
returns-else-to-size-clause-resized g c =
    let a = c.args in
    let live = live_in g.M.Medium.content g.M.Medium.size a.store.now in
    let same : a.size ≡ a.to = omega arith in
    subst (ResizedBytes live live a.id.now a.size) same (resized_none live a.id.now a.size c.told-id c.requires.chunked)
