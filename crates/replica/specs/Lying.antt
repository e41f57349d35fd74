-- What a replica keeps of what it is told to lie about: the lies of the model.
use Rattle.std.specs.Prelude.{ℕ, List, ◌∷◌, map}
use Rattle.cluster_model.specs.State.{Lies}
use Rattle.cluster_model.specs.Tree.{Item, item}
use Rattle.replica.specs.declared.lie.Lie.{Lie}
use Rattle.replica.specs.declared.lie.Lie.TheVariants.{OfWord, OfRoot, OfItem}
use Rattle.replica.specs.declared.lies.ItemLie.{ItemLie}

-- each text that is given, with the item that it is given for
abbrev pub item_lies : List ItemLie → List (Item × List ℕ)
item_lies lies = map (λ (l : ItemLie). (item l.level l.number, l.text)) lies

-- one lie more, before the others
abbrev pub lied : Lie → Lies → Lies
lied (OfWord place word) l = record l { words = (place, word) ∷ l.words }
lied (OfRoot place root) l = record l { roots = (place, root) ∷ l.roots }
lied (OfItem level number text) l = record l { items = (item level number, text) ∷ l.items }
