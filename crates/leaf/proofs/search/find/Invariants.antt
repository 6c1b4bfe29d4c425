-- `find` meets its contract. The invariant: every suffix before the i-th is below the one sought.
-- Assumes nothing.
use Rattle.leaf.proofs.Steps.{Passed}
use Rattle.leaf.proofs.search.find.Given as goal

abbrev pub invariant-loop-i : goal.invariant-loop-i
invariant-loop-i l = Passed l.slots l.arena l.suffix l.first.0 l.leaf.pairs l.i
