-- `replace_pair` meets its contract.
-- Assumes nothing.
use Rattle.spots.specs.SpotLaws.{spot_asked, spot_told}
use Rattle.pair_edit.specs.ReplaceLaws.{replace_asks, replace_charged, replace_met, replace_place, replace_spot}
use native.Mathlib.Omega.{arith}
use Rattle.pair_edit.proofs.replace_pair.Goals as goal

pub read_spot-x-requires : goal.read_spot-x-requires
read_spot-x-requires c = spot_asked _ c.new.ensures (replace_spot c.requires)

pub offset_bounds-dir-t : goal.offset_bounds-dir-t
offset_bounds-dir-t c = omega (arith, replace_place c.requires)

pub bounds-dir-t : goal.bounds-dir-t
bounds-dir-t c = replace_place c.requires

pub replace_value-requires : goal.replace_value-requires
replace_value-requires c = replace_asks c.requires (spot_told _ c.new.ensures c.read_spot-x.ensures)

pub overflow_sub-result : goal.overflow_sub-result
overflow_sub-result c = omega (arith, replace_charged c.requires (spot_told _ c.new.ensures c.read_spot-x.ensures))

pub returns : goal.returns
returns c = replace_met c.requires (spot_told _ c.new.ensures c.read_spot-x.ensures) c.replace_value.ensures
