use Rattle.block_alloc.specs.Bits.{has_bits}
use Rattle.block_alloc.proofs.PathLaws.{written_first, written_next}
use Rattle.block_alloc.proofs.bits.write_path.Goals as goal

pub loop-at-init : goal.loop-at-init
loop-at-init c = written_first _ _ _ _ _ c.requires.within c.requires.below.1 c.requires.kept c.requires.below.0
    (record {
      size = c.write_bit.auto.words;
      here = c.write_bit.ensures.here;
      others = c.write_bit.ensures.others;
      apart = c.write_bit.ensures.words;
    })

pub loop-at-preserved : goal.loop-at-preserved
unfolding has_bits
loop-at-preserved c = written_next _ _ _ _ _ _ _ c.loop-at-test.true c.requires.below.0 c.loop-at.invariant
    (record {
      size = c.write_bit-in-loop-at.auto.words;
      here = c.write_bit-in-loop-at.ensures.here;
      others =
          c.write_bit-in-loop-at.ensures.others;
      apart = c.write_bit-in-loop-at.ensures.words;
    })
