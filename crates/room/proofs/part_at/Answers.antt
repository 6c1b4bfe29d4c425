-- `part_at` meets its contract.
-- Assumes nothing.
use Rattle.room.proofs.Steps.{slot_inside}
use Rattle.room.proofs.part_at.Goals as goal

pub bounds-slots-part_slot : goal.bounds-slots-part_slot
bounds-slots-part_slot c = slot_inside _ c.requires c.part_slot.ensures

pub returns : goal.returns
returns c = rw c.part_slot.ensures at c.from.ensures
