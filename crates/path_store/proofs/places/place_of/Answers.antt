use Rattle.std.proofs.Common.{ap, ◌∙◌}
use Rattle.std.specs.Int.{w64, from_be_bytes}
use Rattle.path_store.specs.Tables.{place_of}
use Rattle.path_store.proofs.places.place_of.Goals as goal

pub returns : goal.returns
unfolding place_of
returns c = c.from_be_bytes.ensures ∙ ap (from_be_bytes w64) c.copy_from_slice.ensures.after
