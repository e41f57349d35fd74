use Rattle.std.proofs.Common.{◌≡◌, ◌∙◌, ◌+◌, ◌-◌, ◌/◌, ◌%◌, ℕ, ap, arith, take, drop, length}
use Rattle.std.specs.Prelude.{min}
use Rattle.log_store.specs.Store.{live_in}
use Rattle.log_files.proofs.ReadLaws.{read_none, read_is, length-part}
use Rattle.log_files.proofs.read.read_bytes.Goals as goal

pub returns-then-end-offset-clause-bytes : goal.returns-then-end-offset-clause-bytes
returns-then-end-offset-clause-bytes g c =
    let a = c.args in
    let live = live_in g.M.Medium.content g.M.Medium.size a.store.now in
    let is : c.min-end.result ≡ min a.size (a.offset + a.count) = omega (arith, c.requires.chunked.few) in
    c.new.ensures.items ∙ read_none live a.id.now a.size a.offset a.count c.min-end.result c.requires.chunked is
    (omega arith)

pub cut-requires : goal.cut-requires
cut-requires g c =
    let a = c.args in
    let end = c.min-end.result in
    let first : ℕ = a.offset / 480 in
    let chunks : ℕ = (end - 1) / 480 + 1 - first in
    let live = live_in g.M.Medium.content g.M.Medium.size a.store.now in
    let long = ap length (c.as_slice.ensures.value ∙ c.in_ok-bytes.ensures.bytes) in
    omega (
      arith,
      long,
      length-part live a.id.now a.size c.requires.chunked chunks first (omega
          (arith, c.requires.chunked.few)),
    )

pub returns-clause-bytes : goal.returns-clause-bytes
returns-clause-bytes g c =
    let a = c.args in
    let end = c.min-end.result in
    let first : ℕ = a.offset / 480 in
    let chunks : ℕ = (end - 1) / 480 + 1 - first in
    let start : ℕ = a.offset % 480 in
    let live = live_in g.M.Medium.content g.M.Medium.size a.store.now in
    let is : end ≡ min a.size (a.offset + a.count) = omega (arith, c.requires.chunked.few) in
    c.in_ok-part.ensures ∙ (ap (λ b. take (end - a.offset) (drop start b)) (c.as_slice.ensures.value
    ∙ c.in_ok-bytes.ensures.bytes)
    ∙ read_is live a.id.now a.size a.offset a.count end first chunks start c.requires.chunked is (omega arith)
    (omega arith) (omega arith) (omega arith) (omega arith))
