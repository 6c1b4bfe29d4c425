-- `slide_low` meets its contract.
-- Assumes nothing.
use Rattle.arena.proofs.Steps.{low_room, low_move, slid_low}
use Rattle.arena.proofs.slide_low.Goals as goal

pub bounds-slots-at : goal.bounds-slots-at
bounds-slots-at c = (low_room c.requires c.leaf_number.ensures.0 c.low_key_slot-at.ensures).word

pub bounds-slots-at-2 : goal.bounds-slots-at-2
bounds-slots-at-2 c = (low_room c.requires c.leaf_number.ensures.0 c.low_key_slot-at.ensures).word

pub move_within-requires : goal.move_within-requires
move_within-requires c = low_move (low_room c.requires c.leaf_number.ensures.0 c.low_key_slot-at.ensures) c.from-old.ensures

pub returns : goal.returns
returns c = slid_low c.requires c.leaf_number.ensures.0 c.low_key_slot-at.ensures c.from-old.ensures c.pack_low_key.ensures c.move_within.ensures
