-- `write_counts` meets its contract.
-- Assumes nothing.
use Rattle.answers.specs.AnswerLaws.{counts_length, counts_text_lem, wrote_is, wrote_more}
use native.Mathlib.Omega.{arith}
use Rattle.answers.proofs.write_counts.Goals as goal

pub spaced_number-p-requires : goal.spaced_number-p-requires
spaced_number-p-requires c = (c.requires.0, omega (arith, counts_length c.args.prefix c.args.pairs, c.requires.2))

pub spaced_number-n-requires : goal.spaced_number-n-requires
spaced_number-n-requires c = (c.requires.1, omega (arith, counts_length c.args.prefix c.args.pairs, c.requires.2, c.spaced_number-p.ensures.behind, c.spaced_number-p.ensures.long))

pub write_byte-requires : goal.write_byte-requires
write_byte-requires c = omega (arith, counts_length c.args.prefix c.args.pairs, c.requires.2, c.spaced_number-p.ensures.behind, c.spaced_number-p.ensures.long, c.spaced_number-n.ensures.behind, c.spaced_number-n.ensures.long)

pub returns : goal.returns
returns c = (let p = c.requires.2 in wrote_is (wrote_more (omega arith) (wrote_more (omega arith) c.spaced_number-p.ensures c.spaced_number-n.ensures) c.write_byte.ensures) (counts_text_lem _ _))
