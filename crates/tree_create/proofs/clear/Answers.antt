-- `clear` meets its contract.
-- Assumes nothing.
use Rattle.tree_create.proofs.Steps.{sizes_room, clear_done}
use Rattle.tree_create.proofs.clear.Goals as goal

pub make_fresh-requires : goal.make_fresh-requires
make_fresh-requires c = sizes_room (c.holds_index.ensures.sound c.if-not-holds_index.false).holds.sizes

pub returns : goal.returns
returns c = clear_done _ _ _ _ (c.holds_index.ensures.sound c.if-not-holds_index.false) c.make_fresh.ensures
