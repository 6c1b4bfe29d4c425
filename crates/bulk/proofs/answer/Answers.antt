-- `answer` is safe and ends: a line that was read asks for no more pairs than `run` takes.
-- Assumes nothing.
use Rattle.bulk.specs.JobLaws.{asked_most}
use Rattle.bulk.proofs.answer.Goals as goal

pub run-requires : goal.run-requires
run-requires g c = asked_most _ c.in-Some.is c.parse.ensures
