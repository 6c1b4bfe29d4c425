-- `hex_value` meets its contract.
-- Assumes nothing.
use Rattle.lines.specs.HexLaws.{hex_none, hex_low, hex_high}
use native.Mathlib.Omega.{arith}
use Rattle.lines.proofs.hex_value.Goals as goal

pub returns-in-48-to-57 : goal.returns-in-48-to-57
returns-in-48-to-57 c = hex_low _ (omega arith) (omega arith)

pub returns-in-97-to-102 : goal.returns-in-97-to-102
returns-in-97-to-102 c = hex_high _ (omega arith) (omega arith)

pub returns-in_default : goal.returns-in_default
returns-in_default c = hex_none _ (λ d h e. omega arith) (λ d h k e. omega arith)

pub returns-in_default-2 : goal.returns-in_default-2
returns-in_default-2 c = hex_none _ (λ d h e. omega arith) (λ d h k e. omega arith)

pub returns-in_default-3 : goal.returns-in_default-3
returns-in_default-3 c = hex_none _ (λ d h e. omega arith) (λ d h k e. omega arith)
