use Rattle.fetch_laws.proofs.Made.{fits_next}
use Rattle.fetch_laws.proofs.laws.true_items_fit.Goals as goal

pub returns : goal.returns
returns q limits sized t_small A c good fine got b h e apart x xs rest =
    fits_next limits sized t_small A good got b h c fine e apart x xs rest
