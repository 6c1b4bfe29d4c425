-- `answer_all` is safe and ends.
-- Assumes nothing.
use Rattle.script.specs.ScriptLaws.{led_ready}
use Rattle.script.proofs.answer_all.Goals as goal

pub answer_last-requires : goal.answer_last-requires
answer_last-requires g c = led_ready c.answer_reads-r.ensures.read.led
