-- `next_start` meets its contract.
-- Assumes nothing.
use Rattle.room.specs.GapLaws.{next_in_leaf, next_in_next, next_none, place_read}
use mathlib.Core.Path.{◌∙◌}
use native.Mathlib.Omega.{arith}
use Rattle.room.proofs.next_start.Goals as goal

pub bounds-dir-j : goal.bounds-dir-j
bounds-dir-j c = place_read c.requires

pub returns-then-i-pair_count : goal.returns-then-i-pair_count
returns-then-i-pair_count c = c.part_at.ensures.offset_is ∙ next_in_leaf c.requires (omega (arith, c.pair_count.ensures.0))

pub returns-then-j-leaves : goal.returns-then-j-leaves
returns-then-j-leaves c = c.part_at-then-j-leaves.ensures.offset_is ∙ next_in_next c.requires (omega (arith, c.pair_count.ensures.0)) (omega arith)

pub returns-else-j-leaves : goal.returns-else-j-leaves
returns-else-j-leaves c = next_none c.requires (omega (arith, c.pair_count.ensures.0)) (omega arith)
