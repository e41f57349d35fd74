use Rattle.std.proofs.Common.{◌≡◌, ◌∙◌, ◌+◌, ◌-◌, ◌*◌, ◌/◌, ◌<◌, ◌≤◌, ℕ, refl, arith}
use Rattle.std.specs.Prelude.{max, min}
use Rattle.std.proofs.lemmas.List.{take-replicate}
use Rattle.log_store.specs.Store.{live_in}
use Rattle.log_files.proofs.ResizeLaws.{resized_none, resized_more}
use Rattle.log_files.proofs.resize.fill_bytes.Goals as goal

pub loop-place-init : goal.loop-place-init
loop-place-init g c = record {
  now_is = omega (arith, c.requires.above);
  store = c.requires.store;
  size_is = refl;
  faults = refl;
  grown = resized_none _ _ _ c.told-id c.requires.chunked;
}

pub loop-place-preserved : goal.loop-place-preserved
loop-place-preserved g c =
    let i = c.loop-place.invariant in
    let a = c.args in
    let live = live_in g.M.Medium.content g.M.Medium.size in
    let next = c.min-next.result in
    let now = c.loop-place.now in
    let place = c.loop-place.place in
    let is : next ≡ min a.to (480 * (place + 1)) = c.min-next.ensures in
    let was : now ≡ max a.size (min a.to (480 * place)) = i.now_is in
    let low : a.size / 480 ≤ place = omega arith in
    let inside : 480 * place < a.to = omega (arith, c.loop-place-test.true, c.requires.above) in
    let at : 480 * place ≤ now = omega arith in
    let below : now < 480 * (place + 1) = omega arith in
    let up : now ≤ next = omega arith in
    let writes = c.in_ok-_count.ensures.writes in
    record {
      now_is = omega arith;
      store = writes.store;
      size_is = writes.size_is ∙ i.size_is;
      faults = writes.cause.ok ∙ i.faults;
      grown = resized_more (live a.store.now) (live c.loop-place.store) (live c.write_bytes.new.store) a.id.now a.size now
          (next - now) next c.in_ok-_count._count _ i.grown c.requires.chunked (omega arith) c.in_ok-_count.ensures.wrote
          (take-replicate (next - now) 480 (let z : ℕ = 0 in z) (omega arith)) (omega arith) (omega arith);
    }
