-- `check_rest` meets its contract. The invariant is `Rest`.
-- Assumes nothing.
use Rattle.tree_read.proofs.Rest.{Rest}
use Rattle.tree_read.proofs.check.Lent.check_rest.Given as goal

abbrev pub invariant-loop-i : goal.invariant-loop-i
invariant-loop-i l = Rest l.self.slots.now l.self.arena.now l.fn.first.0 l.count l.prefix l.i l.charge
