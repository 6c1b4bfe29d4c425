-- `put_in` meets its contract.
-- Assumes nothing.
use Rattle.slots.proofs.Steps.{put_in_met}
use Rattle.slots.proofs.put_in.Goals as goal

pub returns : goal.returns
returns c = put_in_met _ _ _ _ _ c.requires c.leaf_number-leaf.ensures.0 c.pair_count-count.ensures.0 c.slot_at-slot.ensures c.pack_slot-w.ensures c.write_pair.ensures c.open_word.ensures c.pack_directory.ensures
