-- `get_value` meets its contract.
-- Assumes nothing.
use Rattle.tree_get.specs.ValueLaws.{value_at, value_inside}
use Rattle.std.proofs.Common.{Ok, ap, ◌∙◌}
use native.Mathlib.Omega.{arith}
use Rattle.tree_get.proofs.get_value.Goals as goal

pub overflow_add-end : goal.overflow_add-end
overflow_add-end c = omega (arith, value_inside c.args.key.now c.get.ensures (c.in-Ok-Some.is ∙ ap Ok c.in-Ok-Some.field-0-is))

pub slice_bounds-result-end : goal.slice_bounds-result-end
slice_bounds-result-end c = omega (arith, value_inside c.args.key.now c.get.ensures (c.in-Ok-Some.is ∙ ap Ok c.in-Ok-Some.field-0-is))

pub returns-in-Ok-Some : goal.returns-in-Ok-Some
returns-in-Ok-Some c = value_at c.args.key.now c.get.ensures (c.in-Ok-Some.is ∙ ap Ok c.in-Ok-Some.field-0-is)
