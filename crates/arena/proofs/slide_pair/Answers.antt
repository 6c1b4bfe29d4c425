-- `slide_pair` meets its contract.
-- Assumes nothing.
use Rattle.arena.proofs.Steps.{pair_room, pair_move, slid_pair}
use Rattle.arena.proofs.slide_pair.Goals as goal

pub bounds-slots-at : goal.bounds-slots-at
bounds-slots-at c = (pair_room c.requires c.leaf_number.ensures.0 c.first_slot.ensures).word

pub bounds-slots-at-2 : goal.bounds-slots-at-2
bounds-slots-at-2 c = (pair_room c.requires c.leaf_number.ensures.0 c.first_slot.ensures).word

pub move_within-requires : goal.move_within-requires
move_within-requires c = pair_move (pair_room c.requires c.leaf_number.ensures.0 c.first_slot.ensures) c.from-old.ensures

pub returns : goal.returns
returns c = slid_pair c.requires c.leaf_number.ensures.0 c.first_slot.ensures c.from-old.ensures c.pack_slot.ensures c.move_within.ensures
