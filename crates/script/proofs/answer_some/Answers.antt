-- `answer_some` meets its contract.
-- Assumes nothing.
use Rattle.script.specs.ScriptLaws.{stepped_by}
use Rattle.script.proofs.answer_some.Goals as goal

pub returns : goal.returns
returns g c = record { stepped = stepped_by c.read-got.result _ c.read-got.auto.buf c.read-got.ensures.bound c.answer_got.ensures.got; same = c.answer_got.ensures.same }
