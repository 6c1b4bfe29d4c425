-- `remove_pair` meets its contract.
-- Assumes nothing.
use Rattle.spots.specs.SpotLaws.{spot_asked, spot_told}
use Rattle.pair_edit.specs.RemoveLaws.{remove_met, remove_reached, remove_spot, remove_takes}
use native.Mathlib.Omega.{arith}
use Rattle.pair_edit.proofs.remove_pair.Goals as goal

pub read_spot-x-requires : goal.read_spot-x-requires
read_spot-x-requires c = spot_asked _ c.new.ensures (remove_spot c.requires)

pub take_out-requires : goal.take_out-requires
take_out-requires c = remove_takes c.requires

pub overflow_sub-result : goal.overflow_sub-result
overflow_sub-result c = omega (arith, remove_reached c.requires (spot_told _ c.new.ensures c.read_spot-x.ensures))

pub overflow_sub-result-2 : goal.overflow_sub-result-2
overflow_sub-result-2 c = omega (arith, remove_reached c.requires (spot_told _ c.new.ensures c.read_spot-x.ensures))

pub returns : goal.returns
returns c = remove_met c.requires (spot_told _ c.new.ensures c.read_spot-x.ensures) c.take_out.ensures
