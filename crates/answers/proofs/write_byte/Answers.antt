-- `write_byte` meets its contract.
-- Assumes nothing.
use Rattle.answers.specs.AnswerLaws.{wrote_byte}
use Rattle.answers.proofs.write_byte.Goals as goal

pub returns : goal.returns
returns c = wrote_byte _ _ _ c.requires
