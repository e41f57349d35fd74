use Rattle.abs_model.proofs.Seen.{result_shows}
use Rattle.abs_model.proofs.laws.shows_objects_alone.Goals as goal

pub returns : goal.returns
returns c = result_shows
