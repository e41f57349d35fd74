use Rattle.staging.proofs.Decimals.{decimal_is_name}
use Rattle.staging.proofs.making.staged_name.Goals as goal

pub returns-clause-good : goal.returns-clause-good
returns-clause-good c = decimal_is_name c.args.index c.ranges.index.fits
