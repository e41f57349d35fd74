use Rattle.std.proofs.Common.{◌≡◌, ◌∙◌, ◌+◌, ◌-◌, ◌*◌, ◌/◌, ℕ, refl, subst, arith}
use Rattle.std.specs.Prelude.{min}
use Rattle.log_store.specs.Store.{live_in}
use Rattle.log_files.specs.Chunked.{ResizedBytes}
use Rattle.log_files.proofs.ChunkLaws.{has_before}
use Rattle.log_files.proofs.ResizeLaws.{resized_none, resized_less}
use Rattle.log_files.proofs.resize.drop_chunks.Goals as goal

pub loop-gone-init : goal.loop-gone-init
loop-gone-init g c =
    let a = c.args in
    let live = live_in g.M.Medium.content g.M.Medium.size a.store.now in
    let all : a.size ≡ min a.size (480 * ((a.size + 479) / 480 - 0)) = omega arith in
    record {
      store = c.requires.store;
      size_is = refl;
      faults = refl;
      cut = subst (ResizedBytes live live a.id.now a.size) all
          (resized_none live a.id.now a.size c.told-id c.requires.chunked);
    }

pub drop_chunk-requires-clause-before : goal.drop_chunk-requires-clause-before
drop_chunk-requires-clause-before g c =
    let a = c.args in
    let live = live_in g.M.Medium.content g.M.Medium.size c.loop-gone.store in
    let chunks : ℕ = (a.size + 479) / 480 in
    let gone = c.loop-gone.gone in
    let inside = c.loop-gone-test.true in
    has_before live a.id.now (min a.size (480 * (chunks - gone))) (chunks - 1 - gone) c.loop-gone.invariant.cut.chunked
    (omega arith)

pub loop-gone-preserved : goal.loop-gone-preserved
loop-gone-preserved g c =
    let i = c.loop-gone.invariant in
    let a = c.args in
    let live = live_in g.M.Medium.content g.M.Medium.size in
    let chunks : ℕ = (a.size + 479) / 480 in
    let gone = c.loop-gone.gone in
    let p : ℕ = chunks - 1 - gone in
    let s : ℕ = min a.size (480 * (chunks - gone)) in
    let inside = c.loop-gone-test.true in
    let e = c.in_ok-drop_chunk.ensures in
    let end : 480 * p ≡ min a.size (480 * (chunks - (gone + 1))) = omega arith in
    record {
      store = e.writes.store;
      size_is = e.writes.size_is ∙ i.size_is;
      faults = e.writes.cause.ok ∙ i.faults;
      cut = subst (ResizedBytes (live a.store.now) (live c.drop_chunk.new.self) a.id.now a.size) end
          (resized_less (live a.store.now) (live c.loop-gone.store) (live c.drop_chunk.new.self) a.id.now a.size s p
          c.told-id c.requires.chunked i.cut (omega arith) (omega arith) (omega arith) e.drops e.none e.others);
    }
