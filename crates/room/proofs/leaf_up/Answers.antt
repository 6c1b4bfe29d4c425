use Rattle.room.proofs.LeafSteps.{leaf_up_start, up_asked, up_fits, up_turn}
use native.Mathlib.Omega.{arith}
use Rattle.room.proofs.leaf_up.Goals as goal

pub loop-k-init : goal.loop-k-init
loop-k-init c = (omega (arith, c.requires.stored, c.pair_count-k.ensures), omega (arith, c.pair_count-k.ensures), leaf_up_start c.pair_count-k.ensures.0)

pub overflow_sub-start : goal.overflow_sub-start
overflow_sub-start c = omega (arith, up_fits c.requires c.loop-k.invariant.2 _ (omega arith) (omega arith) c.part_size-size.ensures)

pub slide_part-requires : goal.slide_part-requires
slide_part-requires c = up_asked c.requires c.loop-k.invariant.2 _ (omega arith) (omega arith) c.part_size-size.ensures c.loop-k.auto.arena

pub loop-k-preserved : goal.loop-k-preserved
loop-k-preserved c =
    (omega arith, omega arith, up_turn c.requires c.loop-k.invariant.2 _ (omega arith) (omega arith) c.part_size-size.ensures c.slide_part.ensures c.slide_part.auto.arena)
