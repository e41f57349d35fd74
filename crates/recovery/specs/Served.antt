-- What a live replica hands out of a checkpoint.
use Rattle.std.specs.Prelude.{◌≡◌, ◌↔◌, ℕ, zero, suc, List, Option, IfSome, IsSome}
use Rattle.abs_model.specs.declared.Entry.{Entry}
use Rattle.cow_checkpoint.specs.Store.{Store, HasNode, IsNodeText, held_text}

-- this is held of the item with this level and number at a place, where the array is A: of an entry its text there, and
-- of a node its text, exactly where there is such a node
abbrev pub IsHeldItem : ℕ → ℕ → ℕ → List Entry → Store → Option (List ℕ) → Type 0
IsHeldItem place zero number A s text = text ≡ held_text place number A s
IsHeldItem place (suc level) number A s text =
    IfSome text (IsNodeText place (suc level) number s.holds)
    × (IsSome text ↔ HasNode place (suc level) number s.holds)
