-- `compare_suffix` meets its contract.
-- Assumes nothing.
use Rattle.leaf.proofs.Steps.{suffix_compared}
use Rattle.leaf.proofs.search.compare_suffix.Goals as goal

pub returns : goal.returns
returns c = suffix_compared _ c.from-slot.result c.from-slot.ensures c.compare.ensures
