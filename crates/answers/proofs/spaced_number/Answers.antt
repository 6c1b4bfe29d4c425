-- `spaced_number` meets its contract.
-- Assumes nothing.
use Rattle.answers.specs.AnswerLaws.{wrote_more}
use native.Mathlib.Omega.{arith}
use Rattle.answers.proofs.spaced_number.Goals as goal

pub returns : goal.returns
returns c = wrote_more (omega (arith, c.requires.1)) c.write_byte-e.ensures c.write_number.ensures
