-- `not_empty` meets its contract. (Written out, so that an edit is refused by the fact that fails.)
-- Assumes nothing.
use Rattle.tree_read.proofs.Leaves.{empty_inner}
use Rattle.tree_read.proofs.check.not_empty.Goals as goal

pub returns : goal.returns
returns c = empty_inner _ c.in-Some.is
