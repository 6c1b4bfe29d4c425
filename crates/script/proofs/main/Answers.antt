-- `main` is safe and ends: the buffers are as large as `answer_all` asks.
-- Assumes nothing.
use Rattle.script.specs.ScriptLaws.{program_room}
use borrow.Author.Rules.{rules}
use Rattle.script.proofs.main.Goals as goal

pub answer_all-requires : goal.answer_all-requires
answer_all-requires c = program_room (search rules) (search rules) (search rules) (search rules) (search rules) (search rules) (search rules) (search rules)
