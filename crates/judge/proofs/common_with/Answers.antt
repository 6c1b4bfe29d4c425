-- `common_with` meets its contract.
-- Assumes nothing.
use Rattle.judge.specs.PlanReads.{with_common, with_fits, with_long}
use native.Mathlib.Omega.{arith}
use Rattle.judge.proofs.common_with.Goals as goal

pub slice_bounds-common-count : goal.slice_bounds-common-count
slice_bounds-common-count c = omega (arith, with_long c.requires c.read_spot-x.ensures)

pub slice_bounds-common-start : goal.slice_bounds-common-start
slice_bounds-common-start c = omega (arith, with_long c.requires c.read_spot-x.ensures)

pub overflow_add-result : goal.overflow_add-result
overflow_add-result c = omega (arith, with_fits c.requires c.read_spot-x.ensures c.common.ensures)

pub returns : goal.returns
returns c = with_common c.requires c.read_spot-x.ensures c.common.ensures
