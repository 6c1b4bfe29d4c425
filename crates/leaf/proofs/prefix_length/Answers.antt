-- `prefix_length` meets its contract (L2).
-- Assumes nothing.
use Rattle.leaf.specs.KeyLaws.{prefix_some, upper_key}
use Rattle.leaf.proofs.prefix_length.Goals as goal

pub returns : goal.returns
returns c = prefix_some _ c.in-Some.is c.requires.0 (upper_key _ _ c.in-Some.is c.requires.1) c.common.ensures
