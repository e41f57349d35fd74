-- Small runs of four replicas, of which one may be unsound: they show that Fair can be met, and that it can fail.
use Rattle.std.specs.Prelude.{List, [], ◌∷◌}
use Rattle.nfs2_types.specs.declared.Limits.{Limits}
use Rattle.nfs2_types.specs.declared.Time.{Time}
use Rattle.nfs2_types.specs.declared.Word.TheVariants.{Reply}
use Rattle.log_format.specs.declared.Event.{Event}
use Rattle.log_format.specs.declared.Event.TheVariants.{Request, RunAll, Rogue, LieReply, End}
use Rattle.server_trait.specs.declared.FaultPoint.{FaultPoint}

-- four replicas over sixteen entries, with a checkpoint at each fourth place
abbrev pub four : Limits
four = record { n = 16; k = 4; t = 65536; f = 1 }

-- the first moment
abbrev pub first_time : Time
first_time = record { secs = 0; micros = 0 }

-- a request of no bytes, to which the answer is silence
abbrev pub asks : Event
asks = Request 0 first_time []

-- all replicas run it
abbrev pub asked : List Event
asked = asks ∷ RunAll ∷ End ∷ []

-- the server of the second replica fails while it does
abbrev pub one_failure : List FaultPoint
one_failure = record { event = 2; stage = 1; replica = 1 } ∷ []

-- the first replica lies about the answer
abbrev pub lying : List Event
lying = asks ∷ LieReply 0 1 (Reply (7 ∷ [])) ∷ RunAll ∷ End ∷ []

-- two replicas run another request in its place
abbrev pub two_rogues : List Event
two_rogues = asks ∷ Rogue 0 first_time (7 ∷ []) ∷ Rogue 1 first_time (7 ∷ []) ∷ []
