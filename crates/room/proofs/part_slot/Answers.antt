-- `part_slot` meets its contract.
-- Assumes nothing.
use Rattle.room.proofs.Steps.{first_place, low_is, low_place, pair_is}
use Rattle.room.proofs.part_slot.Goals as goal

pub low_key_slot-requires : goal.low_key_slot-requires
low_key_slot-requires c = low_place c.requires c.leaf_number-leaf.ensures.0

pub returns-then-k-eq0 : goal.returns-then-k-eq0
returns-then-k-eq0 c = low_is c.requires c.if-k-eq0.true c.leaf_number-leaf.ensures.0 c.low_key_slot.ensures

pub first_slot-requires : goal.first_slot-requires
first_slot-requires c = first_place c.requires c.leaf_number-leaf.ensures.0

pub returns-else-k-eq0 : goal.returns-else-k-eq0
returns-else-k-eq0 c = pair_is _ c.requires c.if-k-eq0.false c.leaf_number-leaf.ensures.0 c.first_slot.ensures
