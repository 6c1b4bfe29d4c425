-- `moves::copy_into` meets its contract. The invariant: the first i elements of s are written, and the others of a are as they were.
-- Assumes nothing.
use Rattle.lists.specs.Fill.{Filling}
use Rattle.moves.proofs.copy_into.Given as goal

abbrev pub invariant-loop-i : goal.invariant-loop-i
invariant-loop-i g l = Filling l.initial.a l.to l.s l.i l.a
