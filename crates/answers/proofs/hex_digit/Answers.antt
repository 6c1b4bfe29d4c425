-- `hex_digit` meets its contract.
-- Assumes nothing.
use mathlib.Core.Path.{sym}
use Rattle.lines.specs.HexLaws.{digit_low, digit_high}
use native.Mathlib.Omega.{arith}
use Rattle.answers.proofs.hex_digit.Goals as goal

pub returns-then-d-lt10 : goal.returns-then-d-lt10
returns-then-d-lt10 c = sym (digit_low _ c.if-d-lt10.true)

pub returns-else-d-lt10 : goal.returns-else-d-lt10
returns-else-d-lt10 c = omega (arith, digit_high c.args.d (omega arith))
