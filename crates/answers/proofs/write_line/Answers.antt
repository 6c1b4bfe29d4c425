-- `write_line` meets its contract.
-- Assumes nothing.
use Rattle.answers.specs.AnswerLaws.{line_end, line_length, wrote_is, wrote_more}
use native.Mathlib.Omega.{arith}
use Rattle.answers.proofs.write_line.Goals as goal

pub write_word-e-requires : goal.write_word-e-requires
write_word-e-requires c = omega (arith, line_length c.args.text.now, c.requires)

pub write_byte-requires : goal.write_byte-requires
write_byte-requires c = omega (arith, line_length c.args.text.now, c.requires, c.write_word-e.ensures.behind, c.write_word-e.ensures.long)

pub returns : goal.returns
returns c = wrote_is (wrote_more (omega (arith, c.requires)) c.write_word-e.ensures c.write_byte.ensures) (line_end _)
