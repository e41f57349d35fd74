use Rattle.std.proofs.Common.{◌≡◌, ◌<◌, ◌+◌, length, List, Bool, ap, ◌∙◌, arith, get_or, set, false, not, ℕ}
use Rattle.std.proofs.lemmas.List.{with_items_is}
use Rattle.std.specs.Vec.{with_items}
use Rattle.block_alloc.specs.Bits.{blocks_of}
use Rattle.block_alloc.specs.Free.{one_if, free_count}
use Rattle.block_alloc.proofs.Counts.{free_count-marked}
use Rattle.block_alloc.proofs.MapLaws.{WritesPath, kept_marked, block_within, count_fits, count_pos, blocks_of-written}
use Rattle.block_alloc.proofs.block_map.BlockMap.mark.Goals as goal
use Rattle.block_alloc.proofs.block_map.BlockMap.mark.Goals.{After-deref_mut, After-write_path, then-free, else-free}

-- the block is one of the map
within : (c : After-deref_mut) → c.args.block < c.self.inside.blocks
within c = let i = c.self.inside in block_within i.words.items i.leaf i.blocks c.args.block _ c.self.view_is
    c.requires.within

pub write_path-requires-clause-within : goal.write_path-requires-clause-within
write_path-requires-clause-within c = rw c.deref_mut.ensures.value (omega (arith, within c, c.self.invariant.within))

pub write_path-requires-clause-below : goal.write_path-requires-clause-below
write_path-requires-clause-below c = (omega arith, omega (arith, within c, c.self.invariant.room))

pub write_path-requires-clause-kept : goal.write_path-requires-clause-kept
write_path-requires-clause-kept c = rw c.deref_mut.ensures.value c.self.invariant.links

pub overflow_add-count : goal.overflow_add-count
overflow_add-count c =
    let i = c.self.inside in
    omega (
      arith,
      count_fits i.words.items i.depth i.leaf i.blocks i.count c.args.block _ c.self.invariant
          c.self.view_is c.requires.within (c.requires.other ∙ ap not c.if-free.true),
      c.self.invariant.few,
    )

pub overflow_sub-count : goal.overflow_sub-count
overflow_sub-count c =
    let i = c.self.inside in
    count_pos i.words.items i.depth i.leaf i.blocks i.count c.args.block _ c.self.invariant c.self.view_is
    (c.requires.other ∙ ap not c.if-free.false)

-- what the write did to the words of the map
written : (c : After-write_path) → WritesPath c.self.inside.words.items c.write_path.new.words c.self.inside.leaf
    (c.self.inside.leaf + c.args.block) c.args.free
written c = record {
  size = c.write_path.auto.words ∙ ap length c.deref_mut.ensures.value;
  kept = c.write_path.ensures.kept;
  here = c.write_path.ensures.here;
  others = rw c.deref_mut.ensures.value at c.write_path.ensures.others;
}

counted : (c : After-write_path) → c.if-free.count + one_if (not c.args.free) ≡ c.self.inside.count + one_if c.args.free
counted c = elim c.if-free.branch [
  | then-free w ↦ rw w.if-free.true (omega (arith, w.count-is))
  | else-free w ↦
      let i = c.self.inside in
      let pos = count_pos i.words.items i.depth i.leaf i.blocks i.count c.args.block _ c.self.invariant c.self.view_is
      (c.requires.other ∙ ap not w.if-free.false) in
      rw w.if-free.false (omega (arith, w.count-is, pos))
]

items : (c : After-write_path) → (with_items c.self.inside.words c.write_path.new.words).items ≡ c.write_path.new.words
items c = with_items_is c.self.inside.words c.write_path.new.words
    (omega (arith, (written c).size, c.self.inside.words.ok.0))

pub invariant_of-self : goal.invariant_of-self
invariant_of-self c =
    let w = (goal.at.invariant_of-self c).After-write_path in
    let i = c.self.inside in
    let e = items w in
    rw e (kept_marked i.words.items _ i.depth i.leaf i.blocks i.count _ c.args.block c.args.free c.self.invariant
    (block_within i.words.items i.leaf i.blocks c.args.block _ c.self.view_is c.requires.within)
    (ap (λ (m : List Bool). get_or m c.args.block false) c.self.view_is ∙ c.requires.other) (written w) (counted w))

-- the map that is seen
seen : (c : After-write_path) → blocks_of (with_items c.self.inside.words c.write_path.new.words).items
    c.self.inside.leaf c.self.inside.blocks ≡ set c.args.self.now c.args.block c.args.free
seen c =
    let i = c.self.inside in
    ap (λ (ws : List ℕ). blocks_of ws i.leaf i.blocks) (items c) ∙ blocks_of-written i.words.items
    c.write_path.new.words i.leaf i.blocks c.args.block c.args.free (block_within i.words.items i.leaf i.blocks
    c.args.block _ c.self.view_is c.requires.within) (written c) ∙ ap (λ (m : List Bool). set m c.args.block
    c.args.free) c.self.view_is

pub returns-clause-after : goal.returns-clause-after
returns-clause-after c = seen (goal.at.returns-clause-after c).After-write_path

pub returns-clause-count : goal.returns-clause-count
returns-clause-count c = ap (λ (m : List Bool). free_count m + one_if (not c.args.free))
    (seen (goal.at.returns-clause-count c).After-write_path) ∙ free_count-marked c.args.self.now c.args.block
    c.args.free c.requires.within c.requires.other
