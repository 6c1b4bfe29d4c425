-- `order::compare` meets its contract. The invariant: the first i bytes are equal.
-- Assumes nothing.
use Rattle.order.proofs.Steps.{Agree}
use Rattle.order.proofs.compare.Given as goal

abbrev pub invariant-loop-i : goal.invariant-loop-i
invariant-loop-i l = Agree l.a l.b l.i
