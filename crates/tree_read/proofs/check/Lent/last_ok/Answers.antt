-- `last_ok` meets its contract.
-- Assumes nothing.
use Rattle.tree_read.proofs.Steps.{last_below}
use Rattle.tree_read.proofs.check.Lent.last_ok.Goals as goal

pub returns : goal.returns
returns c = last_below _ _ _ c.in-Some.is c.from-s.ensures c.below.ensures
