-- `slide_part` meets its contract.
-- Assumes nothing.
use Rattle.room.proofs.Steps.{low_asked, low_done, pair_asked, pair_done}
use Rattle.room.proofs.slide_part.Goals as goal

pub slide_low-requires : goal.slide_low-requires
slide_low-requires c = low_asked c.requires c.if-k-eq0.true

pub slide_pair-requires : goal.slide_pair-requires
slide_pair-requires c = pair_asked _ c.requires c.if-k-eq0.false

pub returns-then-k-eq0 : goal.returns-then-k-eq0
returns-then-k-eq0 c = low_done c.if-k-eq0.true c.slide_low.ensures

pub returns-else-k-eq0 : goal.returns-else-k-eq0
returns-else-k-eq0 c = pair_done _ c.if-k-eq0.false c.slide_pair.ensures
