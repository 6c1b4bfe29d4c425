-- `slot_at` meets its contract.
-- Assumes nothing.
use Rattle.slots.proofs.Steps.{slot_of_lem}
use Rattle.slots.proofs.slot_at.Goals as goal

pub returns : goal.returns
returns c = slot_of_lem _ _ _ c.leaf_number.ensures.0 c.first_slot.ensures
