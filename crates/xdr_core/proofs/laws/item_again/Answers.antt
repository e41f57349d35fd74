use Rattle.xdr_core.proofs.ItemLaws.{item_again}
use Rattle.xdr_core.proofs.laws.item_again.Goals as goal

pub returns : goal.returns
returns c = item_again
