use Rattle.route.proofs.Steps.{narrow_end, narrow_start}
use native.Mathlib.Omega.{arith}
use Rattle.route.proofs.owner.Goals as goal

pub loop-high-init : goal.loop-high-init
loop-high-init c = narrow_start _ c.args.v.now.index.presumed

pub returns : goal.returns
returns c = narrow_end c.loop-high.invariant (omega arith) c.args.v.now.index.presumed
