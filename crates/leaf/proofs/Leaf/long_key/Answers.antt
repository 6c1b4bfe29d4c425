-- `Leaf::long_key` meets its contract: the constant is document 01's limit.
-- Assumes nothing.
use Rattle.lists.specs.Exact.{exact_ltb}
use Rattle.model.specs.Limits.{key_limit}
use Rattle.leaf.proofs.Leaf.long_key.Goals as goal

pub returns : goal.returns
unfolding key_limit
returns c = exact_ltb _ _
