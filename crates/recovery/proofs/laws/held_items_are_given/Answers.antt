use Rattle.cluster_model.specs.Tested.{tested}
use Rattle.recovery.proofs.HeldItems.{held_is}
use Rattle.recovery.proofs.laws.held_items_are_given.Goals as goal

pub returns : goal.returns
returns c T real l s size store_size holds sizes place level number text inside is =
    held_is (tested T) real l s place size store_size holds sizes level number text inside is
