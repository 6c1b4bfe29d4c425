-- `order::compare` meets its contract.
-- Assumes nothing.
use Rattle.std.proofs.Common.{◌∙◌, arith}
use Rattle.order.proofs.Steps.{agree_apart, agree_end, agree_more, agree_start}
use Rattle.order.proofs.compare.Goals as goal

pub loop-i-init : goal.loop-i-init
loop-i-init c = agree_start _ _

pub loop-i-preserved : goal.loop-i-preserved
loop-i-preserved c = agree_more c.loop-i.invariant (omega arith) (omega arith) c.if-a-i.false

pub returns-then-i-a : goal.returns-then-i-a
returns-then-i-a c = record { is = c.cmp.ensures ∙ agree_end c.loop-i.invariant (λ h k. grind arith) }

pub returns-then-a-i : goal.returns-then-a-i
returns-then-a-i c = record { is = c.cmp-then-a-i.ensures ∙ agree_apart c.loop-i.invariant (omega arith) (omega arith) c.if-a-i.true }
