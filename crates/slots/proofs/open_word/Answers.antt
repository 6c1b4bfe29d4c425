-- `open_word` meets its contract.
-- Assumes nothing.
use Rattle.slots.proofs.Steps.{word_opened}
use Rattle.slots.proofs.open_word.Goals as goal

pub returns : goal.returns
returns c =
    let g = c.args in
    word_opened g.slots.now _ _ _ c.requires c.move_within.ensures
