use Rattle.std.proofs.Common.{arith}
use Rattle.log_segments.proofs.Puts.{inside, is_at}
use Rattle.log_segments.proofs.log.Log.read.Goals as goal

pub overflow_add-self : goal.overflow_add-self
overflow_add-self g c = let h = inside _ _ _ _ _ _ c.requires.log c.requires.within in omega
    (arith, h, c.requires.log.few)

pub read-requires : goal.read-requires
read-requires g c = inside _ _ _ _ _ _ c.requires.log c.requires.within

pub returns-clause-read : goal.returns-clause-read
returns-clause-read g c = is_at _ _ _ _ _ _ c.read.new.into c.requires.log c.requires.within c.in_ok-read.ensures.bytes
