-- `reply_del` meets its contract.
-- Assumes nothing.
use Rattle.session.specs.ServeLaws.{del_asked, del_served}
use Rattle.session.proofs.reply_del.Goals as goal

pub write_change-requires : goal.write_change-requires
write_change-requires c = del_asked _ _ _ _ _ c.remove-c.ensures c.requires

pub returns : goal.returns
returns c = rw c.write_change.ensures.header (del_served _ _ _ _ _ c.remove-c.ensures c.requires.old_long c.write_change.ensures.wrote)
