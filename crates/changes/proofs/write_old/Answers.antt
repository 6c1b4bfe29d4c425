-- `write_old` meets its contract. (Written out, so that an edit is refused by the fact that fails.)
-- Assumes nothing.
use Rattle.changes.specs.OldLaws.{old_written}
use Rattle.changes.proofs.write_old.Goals as goal

pub returns : goal.returns
returns c = old_written c.requires c.read_spot-x.ensures c.copy_into.ensures
