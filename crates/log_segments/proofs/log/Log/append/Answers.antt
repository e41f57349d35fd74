use Rattle.std.proofs.Common.{◌+◌, inl, refl}
use Rattle.log_segments.proofs.Blocks.{on_err, torn}
use Rattle.log_segments.proofs.Halves.{appended, torn_mark, torn_record, noted_as}
use Rattle.log_segments.proofs.log.Log.append.Goals as goal

pub returns-in_err-write-clause-torn : goal.returns-in_err-write-clause-torn
returns-in_err-write-clause-torn g c =
    let s = c.args.self.now in
    rw c.in_err-write.ensures.size
    (on_err c.from_residual-in_err-write.result _ (inl (torn_mark (g.M.Medium.content s.medium)
    (g.M.Medium.content c.write.new.self) _ s.start s.end s.places _
    c.requires.log c.requires.room (torn _ _ _ c.in_err-write.ensures.others))))

pub returns-in_err-write-2-clause-torn : goal.returns-in_err-write-2-clause-torn
returns-in_err-write-2-clause-torn g c =
    let s = c.args.self.now in
    rw (c.in_err-write-2.ensures.size, c.in_ok-write.ensures.size)
    (on_err c.from_residual-in_err-write-2.result _ (torn_record (g.M.Medium.content s.medium)
    (g.M.Medium.content c.write.new.self)
    (g.M.Medium.content c.write-2.new.self) _ s.start s.end s.places _ _ c.requires.log c.requires.room refl
    (g.met.M.Medium.lengths c.write-2.new.self (s.start + s.end))
    (record { at = c.in_ok-write.ensures.bytes; others = c.in_ok-write.ensures.others })
    (torn _ _ _ c.in_err-write-2.ensures.others)))

pub returns-in_err-note-clause-torn : goal.returns-in_err-note-clause-torn
returns-in_err-note-clause-torn g c =
    let s = c.args.self.now in
    rw (c.in_ok-write-2.ensures.size, c.in_ok-write.ensures.size)
    (on_err c.from_residual-in_err-note.result _ (torn_record (g.M.Medium.content s.medium)
    (g.M.Medium.content c.write.new.self)
    (g.M.Medium.content c.write-2.new.self) _ s.start s.end s.places _ _ c.requires.log c.requires.room refl
    (g.met.M.Medium.lengths c.write-2.new.self (s.start + s.end))
    (record { at = c.in_ok-write.ensures.bytes; others = c.in_ok-write.ensures.others })
    (torn _ _ _ c.in_ok-write-2.ensures.others)))

pub returns-clause-log : goal.returns-clause-log
returns-clause-log g c =
    let s = c.args.self.now in
    rw (c.in_ok-write-2.ensures.size, c.in_ok-write.ensures.size)
    (appended (g.M.Medium.content s.medium) (g.M.Medium.content c.write.new.self)
    (g.M.Medium.content c.write-2.new.self) _ s.start s.end s.places _
    c.args.block.now _ c.requires.log c.requires.room c.requires.stands refl
    (record { at = c.in_ok-write.ensures.bytes; others = c.in_ok-write.ensures.others })
    (record { at = c.in_ok-write-2.ensures.bytes; others = c.in_ok-write-2.ensures.others })
    (noted_as _ _ _ _ _ _ _ c.in_ok-note.ensures c.in_ok-key.ensures c.is_gone.ensures)).log

pub returns-clause-records : goal.returns-clause-records
returns-clause-records g c =
    let s = c.args.self.now in
    rw (c.in_ok-write-2.ensures.size, c.in_ok-write.ensures.size)
    (appended (g.M.Medium.content s.medium) (g.M.Medium.content c.write.new.self)
    (g.M.Medium.content c.write-2.new.self) _ s.start s.end s.places _
    c.args.block.now _ c.requires.log c.requires.room c.requires.stands refl
    (record { at = c.in_ok-write.ensures.bytes; others = c.in_ok-write.ensures.others })
    (record { at = c.in_ok-write-2.ensures.bytes; others = c.in_ok-write-2.ensures.others })
    (noted_as _ _ _ _ _ _ _ c.in_ok-note.ensures c.in_ok-key.ensures c.is_gone.ensures)).records_are
