-- `write_refused` meets its contract.
-- Assumes nothing.
use Rattle.lines.specs.Grammar.{number_text}
use Rattle.answers.specs.Answers.{refused_word}
use Rattle.answers.specs.AnswerLaws.{two_length, two_text, wrote_is, wrote_more}
use native.Mathlib.Omega.{arith}
use Rattle.answers.proofs.write_refused.Goals as goal

pub write_word-w-requires : goal.write_word-w-requires
write_word-w-requires c = omega (arith, two_length refused_word (number_text c.args.n), c.requires.1)

pub spaced_number-e-requires : goal.spaced_number-e-requires
spaced_number-e-requires c = (c.requires.0, omega (arith, two_length refused_word (number_text c.args.n), c.requires.1, c.write_word-w.ensures.behind, c.write_word-w.ensures.long))

pub write_byte-requires : goal.write_byte-requires
write_byte-requires c = omega (arith, two_length refused_word (number_text c.args.n), c.requires.1, c.write_word-w.ensures.behind, c.write_word-w.ensures.long, c.spaced_number-e.ensures.behind, c.spaced_number-e.ensures.long)

pub returns : goal.returns
returns c = (let p = c.requires.1 in wrote_is (wrote_more (omega arith) (wrote_more (omega arith) c.write_word-w.ensures c.spaced_number-e.ensures) c.write_byte.ensures) (two_text _ _))
