-- `shorten_prefix` meets its contract.
-- Assumes nothing.
use Rattle.regrow.proofs.MergeSteps.{can_regrow, from_same, from_small, shortened}
use Rattle.regrow.specs.MergeLaws.{regrown_none}
use native.Mathlib.Omega.{arith}
use Rattle.regrow.proofs.shorten_prefix.Goals as goal

pub overflow_add-from : goal.overflow_add-from
overflow_add-from c =
    let g = c.args in
    omega (arith, from_small c.requires.1, from_same g.fanout g.slots.now g.d g.kept c.leaf_number.ensures.0 c.low_key_slot-at.ensures c.from-low.ensures)

pub regrow-requires : goal.regrow-requires
regrow-requires c = can_regrow _ c.requires.1 c.leaf_number.ensures.0 c.low_key_slot-at.ensures c.from-low.ensures

pub returns-then-is_shorter : goal.returns-then-is_shorter
returns-then-is_shorter c = shortened _ c.leaf_number.ensures.0 c.low_key_slot-at.ensures c.from-low.ensures c.regrow.ensures

pub returns-else-is_shorter : goal.returns-else-is_shorter
returns-else-is_shorter c = regrown_none (omega arith) c.requires.1
