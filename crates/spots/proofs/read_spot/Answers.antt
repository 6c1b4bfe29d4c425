-- `read_spot` meets its contract.
-- Assumes nothing.
use Rattle.spots.specs.SpotLaws.{spot_first, spot_low, spot_pieces, spot_word, spot_word_is}
use native.Mathlib.Omega.{arith}
use Rattle.spots.proofs.read_spot.Goals as goal

pub low_key-requires : goal.low_key-requires
low_key-requires c = spot_low c.args.v.now.index.presumed c.requires

pub first_slot-first-requires : goal.first_slot-first-requires
first_slot-first-requires c = omega (arith, spot_first c.args.v.now.index.presumed c.requires c.leaf_number.ensures.0)

pub overflow_add-first : goal.overflow_add-first
overflow_add-first c = omega (arith, spot_word c.args.v.now.index.presumed c.requires c.leaf_number.ensures.0 c.first_slot-first.ensures)

pub offset_bounds-v-first : goal.offset_bounds-v-first
offset_bounds-v-first c = omega (arith, spot_word c.args.v.now.index.presumed c.requires c.leaf_number.ensures.0 c.first_slot-first.ensures)

pub bounds-v-first : goal.bounds-v-first
bounds-v-first c = spot_word c.args.v.now.index.presumed c.requires c.leaf_number.ensures.0 c.first_slot-first.ensures

pub returns : goal.returns
returns c = spot_pieces c.args.v.now.index.presumed c.requires c.low_key.ensures c.leaf_of.ensures (spot_word_is c.args.v.now.header c.args.v.now.dir.now c.args.t c.leaf_number.ensures.0 c.first_slot-first.ensures) c.from.ensures
