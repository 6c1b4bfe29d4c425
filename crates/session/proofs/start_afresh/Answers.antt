-- `start_afresh` meets its contract.
-- Assumes nothing.
use mathlib.Core.Path.{◌∙◌, sym}
use Rattle.session.specs.FrontLaws.{not_above}
use Rattle.session.specs.NewLaws.{kept_is, kept_replied, made_is, made_replied, new_asked, new_parts, refuse_asked}
use Rattle.session.proofs.start_afresh.Goals as goal

pub refuse-requires : goal.refuse-requires
refuse-requires c = refuse_asked c.requires

pub reply_new-r-requires : goal.reply_new-r-requires
reply_new-r-requires c = new_asked c.requires c.args.n.fanout c.args.n.pool c.args.n.arena

pub returns-in-Some : goal.returns-in-Some
returns-in-Some c = made_replied c.args.out.now c.args.at c.args.s c.args.n.fanout c.args.n.pool c.args.n.arena (not_above (sym c.above_ceiling.ensures ∙ c.if-above_ceiling.false)) (new_parts c.requires c.above_ceiling.ensures c.if-above_ceiling.false) (sym c.above_ceiling.ensures ∙ c.if-above_ceiling.false) c.reply_new-r.new.dir c.reply_new-r.new.slots c.reply_new-r.new.out c.reply_new-r.result c.reply_new-r.auto.dir c.reply_new-r.auto.slots c.reply_new-r.ensures (made_is c.reply_new-r.result c.in-Some.is) c.opened-session.ensures

pub returns-in-None : goal.returns-in-None
returns-in-None c = kept_replied c.args.out.now c.args.at c.args.s c.args.n.fanout c.args.n.pool c.args.n.arena (not_above (sym c.above_ceiling.ensures ∙ c.if-above_ceiling.false)) (new_parts c.requires c.above_ceiling.ensures c.if-above_ceiling.false) (sym c.above_ceiling.ensures ∙ c.if-above_ceiling.false) c.reply_new-r.new.dir c.reply_new-r.new.slots c.reply_new-r.new.out c.reply_new-r.result c.reply_new-r.auto.dir c.reply_new-r.auto.slots c.reply_new-r.ensures (kept_is c.reply_new-r.result c.in-None.is)
