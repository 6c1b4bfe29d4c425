-- `gather` meets its contract.
-- Assumes nothing.
use Rattle.feed.specs.FeedLaws.{gathers_none, gathers_found}
use Rattle.feed.proofs.gather.Goals as goal

pub returns-in-Some : goal.returns-in-Some
returns-in-Some c = gathers_found c.requires.0 c.in-Some.ensures c.hold.ensures

pub returns-in-None : goal.returns-in-None
returns-in-None c = gathers_none c.requires.0 c.in-None.ensures c.hold-in-None.ensures
