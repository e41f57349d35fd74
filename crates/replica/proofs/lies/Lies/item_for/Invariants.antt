use Rattle.std.proofs.Common.{◌≡◌, drop}
use Rattle.cluster_model.specs.State.{lookup_item}
use Rattle.cluster_model.specs.Tree.{item}
use Rattle.replica.specs.Lying.{item_lies}
use Rattle.replica.proofs.lies.Lies.item_for.Given as goal

-- none of those before is about the item
abbrev pub invariant-loop-lie : goal.invariant-loop-lie
invariant-loop-lie l =
    lookup_item (item l.level l.number) (item_lies (drop l.lie-index l.lie-items))
    ≡ lookup_item (item l.level l.number) l.self.items
