-- `owner` meets its contract (L1). The invariant: the low key of leaf `low` is not above the key; that of leaf `high`, where there is one,
-- is above it.
-- Assumes nothing.
use Prim.Native.Nat.{◌-◌}
use Rattle.layout.specs.Viewed.{leaves_of}
use Rattle.route.proofs.Steps.{Narrowed}
use Rattle.route.proofs.owner.Given as goal

abbrev pub invariant-loop-high : goal.invariant-loop-high
invariant-loop-high l = Narrowed (leaves_of l.v) l.v.header.leaves l.key l.low l.high

abbrev pub decreases-loop-high : goal.decreases-loop-high
decreases-loop-high l = l.high - l.low
