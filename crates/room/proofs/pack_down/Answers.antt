use Rattle.room.proofs.PackSteps.{pack_down_asked, pack_down_start, pack_down_turn}
use Rattle.room.proofs.pack_down.Goals as goal

pub loop-d-init : goal.loop-d-init
loop-d-init c = pack_down_start

pub leaf_down-end-requires : goal.leaf_down-end-requires
leaf_down-end-requires c = pack_down_asked c.requires c.loop-d.invariant c.loop-d-test.true c.pair_count.ensures.0 c.loop-d.auto.arena

pub loop-d-preserved : goal.loop-d-preserved
loop-d-preserved c = pack_down_turn c.requires c.loop-d.invariant c.loop-d-test.true c.pair_count.ensures.0 c.leaf_down-end.ensures c.leaf_down-end.auto.slots
