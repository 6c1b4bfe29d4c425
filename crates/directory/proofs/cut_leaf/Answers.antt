-- `cut_leaf` meets its contract.
-- Assumes nothing.
use Rattle.directory.proofs.CutSteps.{place_room, write_room, cut_room, cut_done}
use Rattle.directory.proofs.cut_leaf.Goals as goal

pub move_within-requires : goal.move_within-requires
move_within-requires c = cut_room c.requires c.leaf_number-number.ensures.0 c.first_slot-from.ensures c.first_slot-to.ensures c.pair_count.ensures.0

pub bounds-slots-at : goal.bounds-slots-at
bounds-slots-at c = place_room c.requires c.move_within.new.a c.move_within.auto.a c.low_key_slot-at.ensures

pub bounds-dir-j-3 : goal.bounds-dir-j-3
bounds-dir-j-3 c = write_room c.requires c.move_within-2.new.a c.pack_directory.result c.move_within-2.auto.a

pub returns : goal.returns
returns c =
    cut_done c.requires c.leaf_number-number.ensures.0 c.pair_count.ensures.0 c.first_slot-from.ensures c.first_slot-to.ensures
    c.move_within.ensures c.move_within.auto.a c.low_key_slot-at.ensures c.pack_low_key.ensures
    c.move_within-2.ensures c.pack_directory.ensures c.pack_directory-2.ensures
