use Rattle.std.proofs.Common.{refl}
use Rattle.abs_model.proofs.Placed.{placed_is}
use Rattle.abs_plain.proofs.rows.placed.Goals as goal

pub returns : goal.returns
returns c = rw (c.in_ok-insert.ensures.items, c.in_ok-out.ensures, c.place_of-at.ensures.place, c.as_slice.ensures, placed_is) refl
