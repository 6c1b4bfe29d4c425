-- `next_spot` meets its contract. The invariant: no pair between the first spot and the present one.
-- Assumes nothing.
use Rattle.spots.specs.SpotLaws.{Level}
use Rattle.spots.proofs.next_spot.Given as goal

abbrev pub invariant-loop-leaf : goal.invariant-loop-leaf
invariant-loop-leaf l = Level l.leaves l.dir l.fn.s.leaf l.fn.s.slot l.leaf l.slot
