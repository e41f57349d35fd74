use Rattle.std.proofs.Common.{◌∙◌, drop, refl, subst, arith}
use Rattle.std.proofs.lemmas.List.{length-drop, length-take-le, take_all, take_rest}
use Rattle.log_files.specs.Chunked.{IsChunked, WroteBytes}
use Rattle.log_store.specs.Store.{live_in}
use Rattle.log_changes.specs.Made.{TextPut}
use Rattle.log_changes.proofs.TextLaws.{text_none, text_more}
use Rattle.log_changes.proofs.text.put_text.Goals as goal

pub loop-done-init : goal.loop-done-init
loop-done-init g c = record {
  within = omega arith;
  store = c.requires.store;
  size_is = refl;
  faults = refl;
  put = text_none _ _ c.requires.chunked;
}

pub write_bytes-requires-clause-room : goal.write_bytes-requires-clause-room
write_bytes-requires-clause-room g c =
    let i = c.loop-done.invariant in
    let few = i.put.few in
    let below = c.loop-done-test.true in
    let long = length-take-le c.loop-done.done c.args.text.now i.within in
    let same = i.size_is in
    omega (arith, c.requires.room, c.requires.short)

pub write_bytes-requires-clause-chunked : goal.write_bytes-requires-clause-chunked
write_bytes-requires-clause-chunked g c =
    let i = c.loop-done.invariant in
    subst (IsChunked (live_in g.M.Medium.content g.M.Medium.size c.loop-done.store) c.args.id.now)
    (length-take-le c.loop-done.done c.args.text.now i.within) i.put.chunked

pub loop-done-preserved : goal.loop-done-preserved
loop-done-preserved g c =
    let i = c.loop-done.invariant in
    let a = c.args in
    let live = live_in g.M.Medium.content g.M.Medium.size in
    let writes = c.in_ok-count.ensures.writes in
    let text = a.text.now in
    let at = c.loop-done.done in
    let wrote : WroteBytes (live c.loop-done.store) (live c.write_bytes.new.store) a.id.now at at (drop at text)
    c.in_ok-count.count =
    subst (λ p. WroteBytes (live c.loop-done.store) (live c.write_bytes.new.store) a.id.now at at p c.in_ok-count.count)
    (take_rest text at) c.in_ok-count.ensures.wrote in
    let most = wrote.most in
    let rest = length-drop at text in
    record {
      within = omega (arith, i.within);
      store = writes.store;
      size_is = writes.size_is ∙ i.size_is;
      faults = writes.cause.ok ∙ i.faults;
      put = text_more (live a.store.now) (live c.loop-done.store) (live c.write_bytes.new.store) a.id.now a.text.now
          c.loop-done.done c.in_ok-count.count c.loop-done-test.true i.put wrote;
    }

pub returns-clause-put : goal.returns-clause-put
returns-clause-put g c =
    let i = c.loop-done.invariant in
    let live = live_in g.M.Medium.content g.M.Medium.size in
    subst (TextPut (live c.args.store.now) (live c.loop-done.store) c.args.id.now)
    (take_all c.loop-done.done c.args.text.now c.loop-done-test.false) i.put
