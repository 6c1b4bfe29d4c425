-- `write_pair` meets its contract.
-- Assumes nothing.
use Rattle.lines.specs.Grammar.{bytes_text}
use Rattle.answers.specs.Answers.{pair_word}
use Rattle.answers.specs.AnswerLaws.{three_length, three_text, wrote_is, wrote_more}
use native.Mathlib.Omega.{arith}
use Rattle.answers.proofs.write_pair.Goals as goal

pub write_word-w-requires : goal.write_word-w-requires
write_word-w-requires c = omega (arith, three_length pair_word (bytes_text c.args.key.now) (bytes_text c.args.s.now), c.requires)

pub spaced_bytes-k-requires : goal.spaced_bytes-k-requires
spaced_bytes-k-requires c = omega (arith, three_length pair_word (bytes_text c.args.key.now) (bytes_text c.args.s.now), c.requires, c.write_word-w.ensures.behind, c.write_word-w.ensures.long)

pub spaced_bytes-e-requires : goal.spaced_bytes-e-requires
spaced_bytes-e-requires c = omega (arith, three_length pair_word (bytes_text c.args.key.now) (bytes_text c.args.s.now), c.requires, c.write_word-w.ensures.behind, c.write_word-w.ensures.long, c.spaced_bytes-k.ensures.behind, c.spaced_bytes-k.ensures.long)

pub write_byte-requires : goal.write_byte-requires
write_byte-requires c = omega (arith, three_length pair_word (bytes_text c.args.key.now) (bytes_text c.args.s.now), c.requires, c.write_word-w.ensures.behind, c.write_word-w.ensures.long, c.spaced_bytes-k.ensures.behind, c.spaced_bytes-k.ensures.long, c.spaced_bytes-e.ensures.behind, c.spaced_bytes-e.ensures.long)

pub returns : goal.returns
returns c = (let p = c.requires in wrote_is (wrote_more (omega arith) (wrote_more (omega arith) (wrote_more (omega arith) c.write_word-w.ensures c.spaced_bytes-k.ensures) c.spaced_bytes-e.ensures) c.write_byte.ensures) (three_text _ _ _))
