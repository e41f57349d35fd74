use Rattle.xdr_core.proofs.ItemLaws.{item_took}
use Rattle.xdr_core.proofs.laws.item_took.Goals as goal

pub returns : goal.returns
returns c = item_took
