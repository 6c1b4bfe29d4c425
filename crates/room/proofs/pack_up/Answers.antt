use Rattle.room.proofs.PackSteps.{pack_up_asked, pack_up_start, pack_up_turn}
use native.Mathlib.Omega.{arith}
use Rattle.room.proofs.pack_up.Goals as goal

pub loop-i-init : goal.loop-i-init
loop-i-init c = (omega (arith, c.requires.used), omega arith, pack_up_start c.requires)

pub leaf_up-start-requires : goal.leaf_up-start-requires
leaf_up-start-requires c = pack_up_asked c.requires c.loop-i.invariant.2 _ (omega arith) (omega arith) c.loop-i.auto.arena

pub loop-i-preserved : goal.loop-i-preserved
loop-i-preserved c = (omega arith, omega arith, pack_up_turn c.requires c.loop-i.invariant.2 _ (omega arith) (omega arith) c.leaf_up-start.ensures c.leaf_up-start.auto.slots)
