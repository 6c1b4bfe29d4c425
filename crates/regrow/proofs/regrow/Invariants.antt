-- `regrow` meets its contract. The invariant: the pairs from the i-th on are regrown, and the others as they were.
-- Assumes nothing.
use Rattle.regrow.proofs.Steps.{Regrowing}
use Rattle.regrow.proofs.regrow.Given as goal

abbrev pub invariant-loop-i : goal.invariant-loop-i
invariant-loop-i l = Regrowing l.fanout l.initial.slots l.initial.arena l.d l.g l.from.0 l.slots l.arena l.i
