-- `check_leaves` meets its contract. The invariant is `Going`.
-- Assumes nothing.
use Rattle.tree_read.proofs.Run.{Going}
use Rattle.tree_read.proofs.check.Lent.check_leaves.Given as goal

abbrev pub invariant-loop-j : goal.invariant-loop-j
invariant-loop-j l = Going l.self.header.fanout l.self.header.leaves l.self.dir.now l.self.slots.now l.self.arena.now l.j l.s
