-- `Leaf::fanout_met` meets its contract: the constants are document 01's limits.
-- Assumes nothing.
use Rattle.leaf.proofs.Steps.{within_exact}
use Rattle.model.specs.Limits.{fanout_least, fanout_limit}
use Rattle.leaf.proofs.Leaf.fanout_met.Goals as goal

pub returns : goal.returns
unfolding fanout_least fanout_limit
returns c = within_exact c.new.ensures.start c.new.ensures.end c.new.ensures.exhausted c.contains.ensures.value
