-- `write_tagged` meets its contract.
-- Assumes nothing.
use Rattle.lines.specs.Grammar.{bytes_text}
use Rattle.answers.specs.AnswerLaws.{two_length, two_text, wrote_is, wrote_more}
use native.Mathlib.Omega.{arith}
use Rattle.answers.proofs.write_tagged.Goals as goal

pub write_word-w-requires : goal.write_word-w-requires
write_word-w-requires c = omega (arith, two_length c.args.word.now (bytes_text c.args.s.now), c.requires)

pub spaced_bytes-e-requires : goal.spaced_bytes-e-requires
spaced_bytes-e-requires c = omega (arith, two_length c.args.word.now (bytes_text c.args.s.now), c.requires, c.write_word-w.ensures.behind, c.write_word-w.ensures.long)

pub write_byte-requires : goal.write_byte-requires
write_byte-requires c = omega (arith, two_length c.args.word.now (bytes_text c.args.s.now), c.requires, c.write_word-w.ensures.behind, c.write_word-w.ensures.long, c.spaced_bytes-e.ensures.behind, c.spaced_bytes-e.ensures.long)

pub returns : goal.returns
returns c = (let h = two_length c.args.word.now (bytes_text c.args.s.now) in let p = c.requires in wrote_is (wrote_more (omega arith) (wrote_more (omega arith) c.write_word-w.ensures c.spaced_bytes-e.ensures) c.write_byte.ensures) (two_text _ _))
