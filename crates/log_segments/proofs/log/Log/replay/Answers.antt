use Rattle.std.proofs.Common.{rules, ◌∙◌}
use Rattle.log_segments.proofs.Replays.{read_none, read_more, open_at_end, open_whole}
use Rattle.log_segments.proofs.Halves.{noted_as}
use Rattle.log_segments.proofs.log.Log.replay.Goals as goal

pub loop-place-init : goal.loop-place-init
loop-place-init g c = record {
  content_is = search rules;
  size_is = search rules;
  few = c.half-half.ensures.few;
  half = search rules;
  start = search rules;
  end = search rules;
  read = rw c.new.ensures (read_none _ _ _);
  faults = search rules;
}

pub returns-then-is_end-clause-log : goal.returns-then-is_end-clause-log
returns-then-is_end-clause-log g c =
    let i = c.loop-place.invariant in
    rw (c.in_ok-read.ensures.content, c.in_ok-read.ensures.size, i.content_is, i.size_is, i.end)
    (open_at_end _ _ _ c.loop-place.place _ c.read.new.into i.few i.start (search rules) i.read
    (rw i.content_is at c.in_ok-read.ensures.bytes) (search rules))

pub loop-place-preserved : goal.loop-place-preserved
loop-place-preserved g c =
    let i = c.loop-place.invariant in
    let k = noted_as _ _ _ _ _ _ _ c.in_ok-note.ensures c.in_ok-key.ensures c.is_gone.ensures in
    record {
      content_is = c.in_ok-read.ensures.content ∙ i.content_is;
      size_is = c.in_ok-read.ensures.size ∙ i.size_is;
      few = i.few;
      half = i.half;
      start = i.start;
      end = search rules;
      read = read_more _ _ _ c.loop-place.place _ _ c.read.new.into (search rules)
          (rw i.content_is at c.in_ok-read.ensures.bytes) (search rules) i.read k;
      faults = search rules;
    }

pub returns-clause-log : goal.returns-clause-log
returns-clause-log g c =
    let i = c.loop-place.invariant in
    rw (i.content_is, i.size_is, i.end) (open_whole _ _ _ c.loop-place.place _ i.few i.start (search rules) i.read)
