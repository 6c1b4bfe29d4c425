-- `number` meets its contract.
-- Assumes nothing.
use Rattle.lines.specs.NumberLaws.{none_empty, none_long, none_zero, is_zero}
use Rattle.std.proofs.Common.{arith, tests}
use Rattle.lines.proofs.number.Goals.{in_default-via-then-word-lt2+in_default-1, in_default-via-else-word-lt2+in_default-1}
use Rattle.lines.proofs.number.Goals as goal

pub returns-in-empty : goal.returns-in-empty
returns-in-empty c = none_empty _ (omega arith)

pub returns-in-48 : goal.returns-in-48
returns-in-48 c = is_zero _ (omega arith) (omega arith)

pub returns-in-48-2 : goal.returns-in-48-2
returns-in-48-2 c = none_zero _ (omega arith) (omega arith)

pub returns-in_default : goal.returns-in_default
returns-in_default c = none_long _ (omega arith)

pub counted-requires : goal.counted-requires
counted-requires c =
    elim c.in_default.branch [
      | in_default-via-then-word-lt2+in_default-1 w ↦ (grind (arith, tests), omega arith, λ e. omega arith)
      | in_default-via-else-word-lt2+in_default-1 w ↦ (grind (arith, tests), omega arith, λ e. omega arith)
    ]
