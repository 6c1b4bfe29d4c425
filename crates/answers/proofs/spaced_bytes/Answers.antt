-- `spaced_bytes` meets its contract.
-- Assumes nothing.
use Rattle.answers.specs.AnswerLaws.{wrote_more}
use native.Mathlib.Omega.{arith}
use Rattle.answers.proofs.spaced_bytes.Goals as goal

pub returns : goal.returns
returns c = wrote_more (omega (arith, c.requires)) c.write_byte-e.ensures c.write_bytes.ensures
