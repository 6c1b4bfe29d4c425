-- `reply_get` meets its contract.
-- Assumes nothing.
use Rattle.std.proofs.Common.{Ok, ap, ◌∙◌}
use Rattle.replies.specs.Replies.{get_said}
use Rattle.replies.specs.ReplyLaws.{get_none_said, get_value_said, replied}
use Rattle.replies.proofs.reply_get.Goals as goal

pub returns-in-Ok-Some : goal.returns-in-Ok-Some
returns-in-Ok-Some c = replied (get_said c.args.key.now) (get_value_said c.args.key.now c.get.ensures (c.in-Ok-Some.is ∙ ap Ok c.in-Ok-Some.field-0-is) c.get_value-value.ensures) c.write.ensures

pub returns-in-Ok-None : goal.returns-in-Ok-None
returns-in-Ok-None c = replied (get_said c.args.key.now) (get_none_said c.args.key.now c.get.ensures (c.in-Ok-None.is ∙ ap Ok c.in-Ok-None.field-0-is)) c.write-in-Ok-None.ensures
