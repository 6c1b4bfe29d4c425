-- `start_spot` meets its contract.
-- Assumes nothing.
use Rattle.tree_range.specs.ScanSteps.{open_begins}
use Rattle.tree_range.proofs.start.start_spot.Goals as goal

pub returns-in-Open : goal.returns-in-Open
returns-in-Open c = open_begins _ c.in-Open.is c.args.v.now.index.presumed
