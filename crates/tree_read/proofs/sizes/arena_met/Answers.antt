-- `arena_met` meets its contract: the constant is document 01's limit.
-- Assumes nothing.
use Rattle.lists.specs.Exact.{exact_leb}
use Rattle.model.specs.Limits.{arena_limit}
use Rattle.tree_read.proofs.sizes.arena_met.Goals as goal

pub returns : goal.returns
unfolding arena_limit
returns c = exact_leb _ _
