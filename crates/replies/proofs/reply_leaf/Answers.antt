-- `reply_leaf` meets its contract.
-- Assumes nothing.
use Rattle.std.proofs.Common.{Ok, ap, ◌∙◌}
use Rattle.replies.specs.LeavesLaws.{end_said, not_refused, view_asked, view_said}
use Rattle.replies.proofs.reply_leaf.Goals as goal

pub write_view-requires : goal.write_view-requires
write_view-requires c = view_asked c.args.place _ c.requires c.leaf_at.ensures (c.in-Ok-Some.is ∙ ap Ok c.in-Ok-Some.field-0-is)

pub refuse-requires : goal.refuse-requires
refuse-requires c = absurd (not_refused c.args.place c.requires.index c.leaf_at.ensures c.in-Err.is)

pub returns-in-Ok-Some : goal.returns-in-Ok-Some
returns-in-Ok-Some c = view_said c.args.place _ c.leaf_at.ensures (c.in-Ok-Some.is ∙ ap Ok c.in-Ok-Some.field-0-is) c.write_view.ensures

pub returns-in-Ok-None : goal.returns-in-Ok-None
returns-in-Ok-None c = end_said c.args.place c.leaf_at.ensures (c.in-Ok-None.is ∙ ap Ok c.in-Ok-None.field-0-is)

pub returns-in-Err : goal.returns-in-Err
returns-in-Err c = absurd (not_refused c.args.place c.requires.index c.leaf_at.ensures c.in-Err.is)
