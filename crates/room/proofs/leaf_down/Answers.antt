use Rattle.room.proofs.LeafSteps.{down_asked, down_fits, down_turn, leaf_down_start}
use native.Mathlib.Omega.{arith}
use Rattle.room.proofs.leaf_down.Goals as goal

pub loop-k-init : goal.loop-k-init
loop-k-init c = leaf_down_start

pub slide_part-requires : goal.slide_part-requires
slide_part-requires c = down_asked c.requires c.loop-k.invariant (omega arith) c.part_size-size.ensures c.loop-k.auto.arena

pub overflow_add-end : goal.overflow_add-end
overflow_add-end c = omega (arith, down_fits c.requires c.loop-k.invariant (omega arith) c.part_size-size.ensures, c.requires.arena_fits)

pub loop-k-preserved : goal.loop-k-preserved
loop-k-preserved c = down_turn c.requires c.loop-k.invariant (omega arith) c.part_size-size.ensures c.slide_part.ensures
