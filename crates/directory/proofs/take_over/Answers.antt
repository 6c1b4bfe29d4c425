-- `take_over` meets its contract.
-- Assumes nothing.
use mathlib.Core.Path.{◌∙◌}
use lib.ListN.{length-set}
use Rattle.directory.proofs.Steps.{words_room, entries_room, taken_over}
use Rattle.directory.proofs.take_over.Goals as goal

pub move_within-requires : goal.move_within-requires
move_within-requires c = words_room c.requires c.leaf_number-taker.ensures.0 c.first_slot-to.ensures c.leaf_number.ensures.0 c.first_slot-from.ensures c.pair_count-pairs.ensures.0

pub move_within-requires-2 : goal.move_within-requires-2
move_within-requires-2 c =
    let g = c.args in
    let t = c.requires.takes in
    entries_room g.dir.now _ _ c.pack_directory.result t.next t.used

pub shape_of-dir : goal.shape_of-dir
shape_of-dir c =
    let g = c.args in
    c.move_within-2.auto.a ∙ length-set g.dir.now g.j c.pack_directory.result

pub returns : goal.returns
returns c =
    taken_over c.requires c.leaf_number-taker.ensures.0 c.first_slot-to.ensures c.leaf_number.ensures.0 c.first_slot-from.ensures c.pair_count-pairs.ensures.0
    c.move_within.ensures c.pack_directory.ensures c.move_within-2.ensures
