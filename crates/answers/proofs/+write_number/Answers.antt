-- `write_number` meets its contract.
-- Assumes nothing.
use mathlib.Core.Path.{sym, ap}
use lib.ListN.{length}
use Rattle.lines.specs.NumberLaws.{number_small, number_step}
use Rattle.answers.specs.AnswerLaws.{tenth_text, wrote_is, wrote_more}
use native.Mathlib.Omega.{arith}
use Rattle.answers.proofs.+write_number.Goals as goal

pub write_byte-requires : goal.write_byte-requires
write_byte-requires t c = omega (arith, ap length (number_small c.args.n c.if-n-lt10.true), c.requires.1)

pub returns-then-n-lt10 : goal.returns-then-n-lt10
returns-then-n-lt10 t c = wrote_is c.write_byte.ensures (sym (number_small c.args.n c.if-n-lt10.true))

pub write_number-e-requires : goal.write_number-e-requires
write_number-e-requires t c =
    (omega (arith, c.if-n-lt10.false), (omega (arith, c.requires.0), omega (arith, tenth_text c.args.n c.if-n-lt10.false c.requires.0, c.requires.1)))

pub write_byte-requires-2 : goal.write_byte-requires-2
write_byte-requires-2 t c =
    omega (arith, c.write_number-e.ensures.behind, c.write_number-e.ensures.long, tenth_text c.args.n c.if-n-lt10.false c.requires.0, c.requires.1)

pub returns : goal.returns
returns t c =
    wrote_is (wrote_more (omega (arith, c.requires.1)) c.write_number-e.ensures c.write_byte-2.ensures)
    (sym (number_step c.args.n c.if-n-lt10.false c.requires.0))
