use Rattle.conf_map.proofs.OneArray.{one_array}
use Rattle.conf_map.proofs.meaning.one_array.Goals as goal

pub returns : goal.returns
returns c = one_array
