-- `take_out` meets its contract.
-- Assumes nothing.
use Rattle.slots.proofs.Steps.{take_out_met}
use Rattle.slots.proofs.take_out.Goals as goal

pub returns : goal.returns
returns c = take_out_met _ _ _ _ c.requires c.leaf_number-leaf.ensures.0 c.pair_count-count.ensures.0 c.slot_at-at.ensures c.move_within.ensures c.pack_directory.ensures
