-- `moves::move_within` meets its contract.
-- Assumes nothing.
use Rattle.std.proofs.Common.{◌∙◌}
use Rattle.moves.proofs.Steps.{moved-put, stays}
use Rattle.moves.proofs.move_within.Goals as goal

pub returns-then-from-to : goal.returns-then-from-to
returns-then-from-to g c = c.copy_within.ensures.after ∙ moved-put _ _ _ _ c.requires.0

pub returns-else-from-to : goal.returns-else-from-to
returns-else-from-to g c = stays _ _ _ _ c.if-from-to.false c.requires.0
