use mathlib.Core.Path.{refl}
use native.Mathlib.Omega.{arith}
use Rattle.spots.specs.SpotLaws.{level_on, level_past}
use Rattle.spots.proofs.next_spot.Goals as goal

pub loop-leaf-preserved : goal.loop-leaf-preserved
loop-leaf-preserved c = level_on c.loop-leaf.invariant (omega arith) c.pair_count.ensures.0 c.if-slot-pair_count.false refl refl

pub returns : goal.returns
returns c = level_past c.loop-leaf.invariant (omega arith)
