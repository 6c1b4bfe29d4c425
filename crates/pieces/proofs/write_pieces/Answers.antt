-- `write_pieces` meets its contract.
-- Assumes nothing.
use mathlib.Core.Path.{refl}
use Rattle.pieces.specs.PieceLaws.{pieces_put}
use Rattle.pieces.proofs.write_pieces.Goals as goal

pub returns : goal.returns
returns c = pieces_put _ _ _ _ _ _ c.requires c.copy_into.ensures c.copy_into-2.ensures refl
