-- `serve` meets its contract.
-- Assumes nothing.
use lib.ListN.{take}
use Rattle.lines.specs.declared.Line.TheVariants.{Del, Get, Leaves, Next}
use Rattle.session.specs.ServeLaws.{get_asked, get_served, leaves_asked, leaves_served, next_asked, next_served, told_served}
use Rattle.session.proofs.serve.Goals as goal

pub reply_get-requires : goal.reply_get-requires
reply_get-requires c = get_asked c.requires.asked (take c.in-Get.n c.args.key.now)

pub reply_next-requires : goal.reply_next-requires
reply_next-requires c = next_asked c.requires.asked (take c.in-Next.n c.args.key.now)

pub reply_leaves-requires : goal.reply_leaves-requires
reply_leaves-requires c = leaves_asked c.requires.asked

pub returns-in-Get : goal.returns-in-Get
returns-in-Get c = told_served c.args.line (Get c.in-Get.n) c.args.key.now c.args.value.now c.in-Get.is (get_served (take c.in-Get.n c.args.key.now) c.reply_get.ensures)

pub returns-in-Next : goal.returns-in-Next
returns-in-Next c = told_served c.args.line (Next c.in-Next.n) c.args.key.now c.args.value.now c.in-Next.is (next_served _ _ _ c.requires.asked.old_long c.reply_next.ensures)

pub returns-in-Leaves : goal.returns-in-Leaves
returns-in-Leaves c = told_served c.args.line Leaves c.args.key.now c.args.value.now c.in-Leaves.is (leaves_served c.reply_leaves.ensures)

pub returns-in-Del : goal.returns-in-Del
returns-in-Del c = told_served c.args.line (Del c.in-Del.n) c.args.key.now c.args.value.now c.in-Del.is c.reply_del.ensures
