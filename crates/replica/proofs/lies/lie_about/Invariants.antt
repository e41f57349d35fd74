use Rattle.std.proofs.Common.{◌≡◌, drop}
use Rattle.cluster_model.specs.State.{lookup}
use Rattle.replica.proofs.lies.lie_about.Given as goal

-- none of those before is about the place
abbrev pub invariant-loop-about : goal.invariant-loop-about
invariant-loop-about g l = lookup l.place (drop l.about-index l.lies) ≡ lookup l.place l.lies
