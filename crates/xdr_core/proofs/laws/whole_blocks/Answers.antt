use Rattle.xdr_core.proofs.ItemLaws.{whole_blocks}
use Rattle.xdr_core.proofs.laws.whole_blocks.Goals as goal

pub returns : goal.returns
returns c = whole_blocks
