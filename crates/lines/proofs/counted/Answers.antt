-- `counted` meets its contract.
-- Assumes nothing.
use Rattle.lines.specs.NumberLaws.{count_start, count_turn, count_done, none_byte}
use mathlib.Core.Path.{refl}
use native.Mathlib.Omega.{arith}
use Rattle.lines.proofs.counted.Goals as goal

pub returns-in_err-v : goal.returns-in_err-v
returns-in_err-v c = rw c.from_residual.ensures (none_byte _ 0 (omega arith) c.in_err-v.ensures)

pub loop-i-init : goal.loop-i-init
loop-i-init c = count_start _ _ (omega arith) c.requires.2 c.in_ok-v.ensures

pub loop-i-preserved : goal.loop-i-preserved
loop-i-preserved c = count_turn _ _ _ _ _ (omega arith) c.requires.1 refl c.in_ok-v-2.ensures c.loop-i.invariant

pub returns : goal.returns
returns c = count_done _ _ _ (omega arith) (omega arith) c.loop-i.invariant

pub returns-in_err-v-2 : goal.returns-in_err-v-2
returns-in_err-v-2 c = rw c.from_residual-in_err-v-2.ensures (none_byte _ _ (omega arith) c.in_err-v-2.ensures)
