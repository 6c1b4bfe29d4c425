-- `Leaf::long_value` meets its contract: the constant is document 01's limit.
-- Assumes nothing.
use Rattle.lists.specs.Exact.{exact_ltb}
use Rattle.model.specs.Limits.{value_limit}
use Rattle.leaf.proofs.Leaf.long_value.Goals as goal

pub returns : goal.returns
unfolding value_limit
returns c = exact_ltb _ _
