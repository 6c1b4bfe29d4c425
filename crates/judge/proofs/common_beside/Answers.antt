-- `common_beside` meets its contract.
-- Assumes nothing.
use Rattle.judge.specs.PlanReads.{beside_common, beside_fits}
use native.Mathlib.Omega.{arith}
use Rattle.judge.proofs.common_beside.Goals as goal

pub overflow_add-result : goal.overflow_add-result
overflow_add-result c = omega (arith, beside_fits c.requires c.read_spot-x.ensures c.read_spot-y.ensures c.common.ensures)

pub returns : goal.returns
returns c = beside_common c.requires (omega arith) c.read_spot-x.ensures c.read_spot-y.ensures c.common.ensures
