use Rattle.std.proofs.Common.{◌<◌, length, List, Bool, sym, ap, ◌∙◌, refl, arith, get_or, false}
use Rattle.block_alloc.proofs.MapLaws.{length-blocks_of, get_or-blocks_of}
use Rattle.block_alloc.proofs.block_map.BlockMap.is_free.Goals as goal
use Rattle.block_alloc.proofs.block_map.BlockMap.is_free.Goals.{After-deref}

-- the block is one of the map
within : (c : After-deref) → c.args.block < c.self.inside.blocks
within c = omega (
  arith,
  length-blocks_of c.self.inside.words.items c.self.inside.leaf c.self.inside.blocks,
  ap length
      c.self.view_is,
  c.requires.within,
)

pub has_bit-requires : goal.has_bit-requires
has_bit-requires c = rw c.deref.ensures.value (omega (arith, within c, c.self.invariant.within))

pub returns : goal.returns
returns c =
    let i = c.self.inside in
    let l = within (goal.at.returns c).After-deref in
    c.has_bit.ensures ∙ rw c.deref.ensures.value (sym (get_or-blocks_of i.words.items i.leaf i.blocks c.args.block _ l
    refl)) ∙ ap (λ (m : List Bool). get_or m c.args.block false) c.self.view_is
