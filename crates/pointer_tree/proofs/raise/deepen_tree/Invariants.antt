use Rattle.std.proofs.Common.{◌≡◌, ◌+◌, ◌-◌, ◌≤◌, length}
use Rattle.block_alloc.specs.Free.{free_count}
use Rattle.pointer_tree.specs.Changes.{Fits, Stands, Deepens}
use Rattle.pointer_tree.proofs.raise.deepen_tree.Given as goal

abbrev pub invariant-levels : goal.invariant-levels
invariant-levels g l = record {
  deepens : Deepens l.area l.fn.depth l.fn.top (g.M.Medium.content l.fn.medium) l.fn.map l.depth l.top
      (g.M.Medium.content l.medium) l.map;
  fits : Fits l.area (g.M.Medium.size l.medium) l.map;
  stands : Stands l.area l.depth l.top (g.M.Medium.content l.medium) l.map;
  depth_in : l.depth ≤ 3;
  room : free_count l.fn.map ≤ free_count l.map + l.depth;
  len : length l.map ≡ length l.fn.map;
  size : g.M.Medium.size l.medium ≡ g.M.Medium.size l.fn.medium;
  faults : g.M.Medium.faults l.medium ≡ g.M.Medium.faults l.fn.medium;
}

abbrev pub decreases-levels : goal.decreases-levels
decreases-levels g l = 4 - l.depth
