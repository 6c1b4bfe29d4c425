-- `reply_put` meets its contract.
-- Assumes nothing.
use Rattle.session.specs.ServeLaws.{put_asked, put_served}
use Rattle.session.proofs.reply_put.Goals as goal

pub write_change-requires : goal.write_change-requires
write_change-requires c = put_asked _ _ _ _ c.args.key.now c.args.value.now c.insert-c.ensures c.requires

pub returns : goal.returns
returns c = rw c.write_change.ensures.header (put_served _ _ _ _ c.args.key.now c.args.value.now c.insert-c.ensures c.requires.old_long c.write_change.ensures.wrote)
