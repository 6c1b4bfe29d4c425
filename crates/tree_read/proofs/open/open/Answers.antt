-- `open` meets its contract. (Written out, so that an edit is refused by the fact that fails.)
-- Assumes nothing.
use Rattle.tree_read.proofs.open.open.Goals as goal

pub returns : goal.returns
returns c = (c.new.ensures, c.holds_index.ensures.sound c.if-not-holds_index.false)
