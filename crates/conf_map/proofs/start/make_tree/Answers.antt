use Rattle.std.proofs.Common.{sym, subst, ◌∙◌}
use Rattle.conf_map.specs.Fresh.{HoldsUpTo}
use Rattle.conf_map.proofs.FreshTree.{lacks_export, room_export, lacks_staging, room_staging, has_export, still_export, is_empty_tree}
use Rattle.conf_map.proofs.start.make_tree.Goals as goal

pub make_node_dir-requires-clause-lacks : goal.make_node_dir-requires-clause-lacks
make_node_dir-requires-clause-lacks g c = lacks_export _ c.root-root.result c.in-Ok.ensures.tree c.root-root.ensures

pub make_node_dir-requires-clause-room : goal.make_node_dir-requires-clause-room
make_node_dir-requires-clause-room g c = room_export _ c.root-root.result c.in-Ok.ensures.tree c.root-root.ensures _
    (subst (λ l. HoldsUpTo l 3 1024) (sym c.in-Ok.ensures.limits) c.requires)

pub make_node_dir-requires-2-clause-lacks : goal.make_node_dir-requires-2-clause-lacks
make_node_dir-requires-2-clause-lacks g c =
    lacks_staging _ c.root-root.result c.in-Ok.ensures.tree c.root-root.ensures _ c.in_ok-handle.handle c.in_ok-handle.ensures.made

pub make_node_dir-requires-2-clause-room : goal.make_node_dir-requires-2-clause-room
make_node_dir-requires-2-clause-room g c =
    room_staging _ c.root-root.result c.in-Ok.ensures.tree c.root-root.ensures _ c.in_ok-handle.handle c.in_ok-handle.ensures.made _
    (subst (λ l. HoldsUpTo l 3 1024) (sym (c.in_ok-handle.ensures.watched.limits ∙ c.in-Ok.ensures.limits)) c.requires)

pub open_to_all-requires : goal.open_to_all-requires
open_to_all-requires g c = record {
  node = has_export _ c.root-root.result c.in-Ok.ensures.tree c.root-root.ensures _ c.in_ok-handle.handle c.in_ok-handle.ensures.made _ c.in_ok-make_node_dir.field-0 c.in_ok-make_node_dir.ensures.made;
}

pub number_of-requires : goal.number_of-requires
number_of-requires g c = record {
  node = still_export _ c.root-root.result c.in-Ok.ensures.tree c.root-root.ensures _ c.in_ok-handle.handle c.in_ok-handle.ensures.made _ c.in_ok-make_node_dir.field-0 c.in_ok-make_node_dir.ensures.made
      _ c.in_ok-open_to_all.ensures.set;
}

pub returns-clause-empty : goal.returns-clause-empty
returns-clause-empty g c =
    is_empty_tree _ c.root-root.result c.in-Ok.ensures.tree c.root-root.ensures _ c.in_ok-handle.handle c.in_ok-handle.ensures.made _ c.in_ok-make_node_dir.field-0 c.in_ok-make_node_dir.ensures.made
    _ c.in_ok-open_to_all.ensures.set _ c.in_ok-number.number c.in_ok-number.ensures.tree c.in_ok-number.ensures.number
