-- `plan_split` meets its contract.
-- Assumes nothing.
use Rattle.judge.specs.PlanLaws.{common_asked, gap_in, plan_left, plan_right, separator_fits}
use native.Mathlib.Omega.{arith}
use Rattle.judge.proofs.plan_split.Goals as goal

pub offset_of-s-requires : goal.offset_of-s-requires
offset_of-s-requires c = gap_in c.requires

pub common_at-separator-requires : goal.common_at-separator-requires
common_at-separator-requires c = common_asked c.requires c.offset_of-s.ensures

pub overflow_add-separator : goal.overflow_add-separator
overflow_add-separator c = omega (arith, separator_fits c.requires c.offset_of-s.ensures c.common_at-separator.ensures)

pub returns-then-i-s : goal.returns-then-i-s
returns-then-i-s c = plan_left c.requires c.offset_of-s.ensures c.common_at-separator.ensures c.if-i-s.true

pub returns : goal.returns
returns c = plan_right c.requires c.offset_of-s.ensures c.common_at-separator.ensures c.if-i-s.false
