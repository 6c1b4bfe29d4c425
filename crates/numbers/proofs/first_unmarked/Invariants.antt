-- `first_unmarked` meets its contract. The invariant: every lower number is marked.
-- Assumes nothing.
use Rattle.numbers.specs.BitLaws.{AllMarked}
use Rattle.numbers.proofs.first_unmarked.Given as goal

abbrev pub invariant-loop-i : goal.invariant-loop-i
invariant-loop-i l = AllMarked l.seen l.i
