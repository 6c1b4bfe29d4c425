-- `make_fresh` meets its contract (L8).
-- Assumes nothing.
use Rattle.tree_create.proofs.Steps.{made_fresh}
use native.Mathlib.Omega.{arith}
use Rattle.tree_create.proofs.make_fresh.Goals as goal

pub returns : goal.returns
returns c =
    let e = c.empty-leaf.ensures in
    made_fresh _ _ _ _ _ _ _ _ e.number_is e.pairs_are c.low_key_slot.ensures c.pack_directory.ensures c.pack_low_key.ensures
    (omega arith) (omega arith)
