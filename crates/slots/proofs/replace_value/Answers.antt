-- `replace_value` meets its contract.
-- Assumes nothing.
use Rattle.slots.proofs.Steps.{place_inside, replace_value_met}
use Rattle.slots.proofs.replace_value.Goals as goal

pub copy_into-requires : goal.copy_into-requires
copy_into-requires c = place_inside _ _ c.requires c.slot_at-at.ensures c.from-s.ensures

pub returns : goal.returns
returns c = replace_value_met _ _ _ c.requires c.slot_at-at.ensures c.from-s.ensures c.copy_into.ensures c.pack_slot.ensures
