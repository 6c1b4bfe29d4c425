-- `reply_next` meets its contract.
-- Assumes nothing.
use lib.ListN.{length}
use Rattle.std.proofs.Common.{Ok, ap, ◌∙◌}
use Rattle.replies.specs.Replies.{next_said}
use Rattle.replies.specs.ReplyLaws.{asked_room, next_end_said, next_found, next_pair_said, next_refused_said, replied}
use Rattle.replies.proofs.reply_next.Goals as goal

pub write-requires : goal.write-requires
write-requires c = (tt, asked_room c.requires (next_pair_said c.args.key.now c.get_gt.ensures (c.in-Ok-Some.is ∙ ap Ok c.in-Ok-Some.field-0-is) c.range_value-value.ensures))

pub returns-in-Ok-Some : goal.returns-in-Ok-Some
returns-in-Ok-Some c = record { said = replied (next_said c.args.key.now (length c.args.found.now)) (next_pair_said c.args.key.now c.get_gt.ensures (c.in-Ok-Some.is ∙ ap Ok c.in-Ok-Some.field-0-is) c.range_value-value.ensures) c.write.ensures; found_is = next_found c.args.key.now c.get_gt.ensures }

pub returns-in-Ok-None : goal.returns-in-Ok-None
returns-in-Ok-None c = record { said = replied (next_said c.args.key.now (length c.args.found.now)) (next_end_said c.args.key.now c.get_gt.ensures (c.in-Ok-None.is ∙ ap Ok c.in-Ok-None.field-0-is)) c.write-in-Ok-None.ensures; found_is = next_found c.args.key.now c.get_gt.ensures }

pub returns-in-Err : goal.returns-in-Err
returns-in-Err c = record { said = replied (next_said c.args.key.now (length c.args.found.now)) (next_refused_said c.args.key.now c.get_gt.ensures c.in-Err.is) c.refuse.ensures; found_is = next_found c.args.key.now c.get_gt.ensures }
