use Rattle.std.proofs.Common.{rules, arith, inl, Some, ◌≡◌, ◌∙◌, ◌<◌, refl}
use Rattle.std.specs.FinMap as map
use Rattle.log_segments.specs.Segments.{half_size}
use Rattle.log_segments.proofs.Blocks.{on_err, torn}
use Rattle.log_segments.proofs.Copies.{HasCopied, apart, copy_none, skip_turn, copy_turn, count_fits, compacted, records_kept, torn_copy, torn_head}
use Rattle.log_segments.proofs.Halves.{end_fits}
use Rattle.log_segments.proofs.log.Log.compact.Goals as goal

pub loop-place-init : goal.loop-place-init
loop-place-init g c = record {
  start = search rules;
  end = search rules;
  kept = search rules;
  size_is = search rules;
  few = c.requires.log.few;
  most = end_fits _ _ _ _ c.requires.log.begins c.requires.log.ends;
  other = c.other-target.ensures;
  copied = rw c.new-places.ensures (copy_none _ _ _ _);
  faults = search rules;
}

pub returns-in_err-read-clause-torn : goal.returns-in_err-read-clause-torn
returns-in_err-read-clause-torn g c =
    let i = c.loop-place.invariant in
    rw (c.in_err-read.ensures.content, c.in_err-read.ensures.size, i.size_is)
    (on_err c.from_residual.result _ (inl (records_kept _ _ _ _ _ _ _ _ c.requires.log.begins i.copied)))

pub returns-in_err-key-clause-torn : goal.returns-in_err-key-clause-torn
returns-in_err-key-clause-torn g c =
    let i = c.loop-place.invariant in
    rw (c.in_ok-read.ensures.content, c.in_ok-read.ensures.size, i.size_is)
    (on_err c.from_residual-in_err-key.result _ (inl (records_kept _ _ _ _ _ _ _ _ c.requires.log.begins i.copied)))

pub returns-in_err-write-clause-torn : goal.returns-in_err-write-clause-torn
returns-in_err-write-clause-torn g c =
    let s = c.args.self.now in
    let l = c.loop-place in
    let old = g.M.Medium.content s.medium in
    let now = g.M.Medium.content c.read.new.self in
    let size = g.M.Medium.size s.medium in
    let same = c.in_err-write.ensures.size ∙ (c.in_ok-read.ensures.size ∙ l.invariant.size_is) in
    let fits : l.count < half_size size = omega (arith, l.invariant.copied.below, l.invariant.most) in
    let copied : HasCopied old now size s.start c.other-target.result l.place l.count l.places =
    rw c.in_ok-read.ensures.content l.invariant.copied in
    rw same (on_err c.from_residual-in_err-write.result _ (inl
    (torn_copy old now _ size s.start c.other-target.result l.place l.count l.places _
    c.requires.log.begins l.invariant.other fits copied (torn _ _ _ c.in_err-write.ensures.others))))

pub returns-in_err-note-clause-torn : goal.returns-in_err-note-clause-torn
returns-in_err-note-clause-torn g c =
    let s = c.args.self.now in
    let l = c.loop-place in
    let old = g.M.Medium.content s.medium in
    let now = g.M.Medium.content c.read.new.self in
    let size = g.M.Medium.size s.medium in
    let same = c.in_ok-write.ensures.size ∙ (c.in_ok-read.ensures.size ∙ l.invariant.size_is) in
    let fits : l.count < half_size size = omega (arith, l.invariant.copied.below, l.invariant.most) in
    let copied : HasCopied old now size s.start c.other-target.result l.place l.count l.places =
    rw c.in_ok-read.ensures.content l.invariant.copied in
    rw same (on_err c.from_residual-in_err-note.result _ (inl
    (torn_copy old now _ size s.start c.other-target.result l.place l.count l.places _
    c.requires.log.begins l.invariant.other fits copied (torn _ _ _ c.in_ok-write.ensures.others))))

pub loop-place-preserved-then-not-is_at : goal.loop-place-preserved-then-not-is_at
loop-place-preserved-then-not-is_at g c =
    let i = c.loop-place.invariant in
    let no : map.get c.args.self.now.places c.in_ok-key.key ≡ Some c.loop-place.place → ⊥ =
    λ q. (let t = c.is_at.ensures.1 (rw i.kept q) in search rules) in
    record {
      start = i.start;
      end = i.end;
      kept = i.kept;
      size_is = c.in_ok-read.ensures.size ∙ i.size_is;
      few = i.few;
      most = i.most;
      other = i.other;
      copied = skip_turn _ _ _ _ _ _ _ _ _ _ c.read.new.into c.in_ok-key.key c.requires.log (search rules)
          (rw c.in_ok-read.ensures.content (rw i.start at c.in_ok-read.ensures.bytes)) c.in_ok-key.ensures no
          (rw c.in_ok-read.ensures.content i.copied);
      faults = search rules;
    }

pub loop-place-preserved : goal.loop-place-preserved
loop-place-preserved g c =
    let i = c.loop-place.invariant in
    let yes : map.get c.args.self.now.places c.in_ok-key.key
    ≡ Some c.loop-place.place = rw (← i.kept) (c.is_at.ensures.0 (search rules)) in
    record {
      start = i.start;
      end = i.end;
      kept = i.kept;
      size_is = c.in_ok-write.ensures.size ∙ (c.in_ok-read.ensures.size ∙ i.size_is);
      few = i.few;
      most = i.most;
      other = i.other;
      copied = copy_turn _ (g.M.Medium.content c.read.new.self) _ _ _ _ _ _ _ _ _ _ c.read.new.into c.in_ok-key.key
          c.requires.log i.other (search rules)
          (rw c.in_ok-read.ensures.content (rw i.start at c.in_ok-read.ensures.bytes)) c.in_ok-key.ensures yes
          (record { at = c.in_ok-write.ensures.bytes; others = c.in_ok-write.ensures.others }) c.in_ok-note.ensures
          (rw c.in_ok-read.ensures.content i.copied);
      faults = search rules;
    }

pub write-requires-2 : goal.write-requires-2
write-requires-2 g c =
    let i = c.loop-place.invariant in
    let last : c.loop-place.place ≡ c.args.self.now.end = search rules in
    let half = half_size (g.M.Medium.size c.args.self.now.medium) in
    let fits : c.loop-place.count < half = count_fits _ _ _ _ _ c.loop-place.place _ _ c.requires.log.begins (last
    ∙ c.requires.log.ends) c.requires.room i.copied in
    let sides = apart _ _ _ (omega arith) i.other in
    let within = sides.within_t in
    omega (arith, i.size_is)

pub returns-in_err-write-2-clause-torn : goal.returns-in_err-write-2-clause-torn
returns-in_err-write-2-clause-torn g c =
    let i = c.loop-place.invariant in
    let last : c.loop-place.place ≡ c.args.self.now.end = search rules in
    let size = c.in_err-write-2.ensures.size ∙ i.size_is in
    let fits = count_fits _ _ _ _ _ c.loop-place.place _ _ c.requires.log.begins (last
    ∙ c.requires.log.ends) c.requires.room i.copied in
    rw size (on_err c.from_residual-in_err-write-2.result _ (inl
    (torn_copy _ _ _ _ _ _ _ _ _ _ c.requires.log.begins i.other fits i.copied
    (torn _ _ _ c.in_err-write-2.ensures.others))))

pub returns-in_err-write-3-clause-torn : goal.returns-in_err-write-3-clause-torn
returns-in_err-write-3-clause-torn g c =
    let i = c.loop-place.invariant in
    let size = c.in_err-write-3.ensures.size ∙ (c.in_ok-write-2.ensures.size ∙ i.size_is) in
    rw size (on_err c.from_residual-in_err-write-3.result _ (torn_head _ _
    (g.M.Medium.content c.write-2.new.self) _ _ _ _ _ c.loop-place.place _ _ _ _ _ c.requires.log i.other
    (search rules) c.requires.room i.copied refl
    (record { at = c.in_ok-write-2.ensures.bytes; others = c.in_ok-write-2.ensures.others })
    (torn _ _ _ c.in_err-write-3.ensures.others)))

pub returns-clause-log : goal.returns-clause-log
returns-clause-log g c =
    let i = c.loop-place.invariant in
    let size = c.in_ok-write-3.ensures.size ∙ (c.in_ok-write-2.ensures.size ∙ i.size_is) in
    rw size (compacted _ _ (g.M.Medium.content c.write-2.new.self) _ _ _ _ _ c.loop-place.place _ _ _ _
    c.name_of.result c.requires.log i.other
    (search rules) c.requires.room i.copied refl c.name_of.ensures
    (record { at = c.in_ok-write-2.ensures.bytes; others = c.in_ok-write-2.ensures.others })
    (record { at = c.in_ok-write-3.ensures.bytes; others = c.in_ok-write-3.ensures.others })).log

pub returns-clause-records : goal.returns-clause-records
returns-clause-records g c =
    let i = c.loop-place.invariant in
    let size = c.in_ok-write-3.ensures.size ∙ (c.in_ok-write-2.ensures.size ∙ i.size_is) in
    rw size (compacted _ _ (g.M.Medium.content c.write-2.new.self) _ _ _ _ _ c.loop-place.place _ _ _ _
    c.name_of.result c.requires.log i.other
    (search rules) c.requires.room i.copied refl c.name_of.ensures
    (record { at = c.in_ok-write-2.ensures.bytes; others = c.in_ok-write-2.ensures.others })
    (record { at = c.in_ok-write-3.ensures.bytes; others = c.in_ok-write-3.ensures.others })).records_are
