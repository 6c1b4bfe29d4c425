-- `write_pair` meets its contract.
-- Assumes nothing.
use Rattle.slots.proofs.Steps.{pair_put}
use Rattle.slots.proofs.write_pair.Goals as goal

pub returns : goal.returns
returns c =
    let g = c.args in
    pair_put g.arena.now _ g.suffix.now g.value.now c.requires c.copy_into.ensures c.copy_into-2.ensures
