use Rattle.std.proofs.Common.{length, sym, ap, ◌∙◌}
use Rattle.block_alloc.proofs.MapLaws.{length-blocks_of}
use Rattle.block_alloc.proofs.block_map.BlockMap.blocks.Goals as goal

pub returns : goal.returns
returns c = let i = c.self.inside in sym (length-blocks_of i.words.items i.leaf i.blocks) ∙ ap length c.self.view_is
