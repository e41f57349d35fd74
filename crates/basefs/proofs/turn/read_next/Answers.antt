use Rattle.basefs.proofs.turn.read_next.Goals as goal

pub returns-in-Ok-clause-bytes : goal.returns-in-Ok-clause-bytes
returns-in-Ok-clause-bytes g c = let r = c.in-Ok.ensures.bytes in record { taken = r.taken; consumed = r.consumed; outcome = r.outcome }

pub returns-in-Err-clause-bytes : goal.returns-in-Err-clause-bytes
returns-in-Err-clause-bytes g c = let r = c.in-Err.ensures.bytes in record { taken = r.taken; consumed = r.consumed; outcome = r.outcome }
