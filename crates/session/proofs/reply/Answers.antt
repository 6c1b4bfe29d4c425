-- `reply` meets its contract.
-- Assumes nothing.
use mathlib.Core.Path.{refl}
use Rattle.std.proofs.Common.{None, Some}
use Rattle.lines.specs.declared.Line.TheVariants.{New}
use Rattle.session.proofs.Keys.{ordinary_key}
use Rattle.session.specs.LineLaws.{bad_line, closed_line, new_line, open_line, reply_bad_asked, reply_made}
use Rattle.session.proofs.reply.Goals as goal

pub reply_bad-requires : goal.reply_bad-requires
reply_bad-requires c = reply_bad_asked c.requires

pub returns-in_default : goal.returns-in_default
returns-in_default c = reply_made c.requires c.args.line.now c.parse.new.key c.parse.new.value None c.in_default.ensures refl refl refl (bad_line c.reply_bad.ensures c.parse.new.key c.parse.new.value)

pub returns-in-New : goal.returns-in-New
returns-in-New c = reply_made c.requires c.args.line.now c.parse.new.key c.parse.new.value (Some (New c.in-New.n)) (rw c.in-New.is at c.in-Some.ensures) c.start_afresh.auto.dir c.start_afresh.auto.slots refl (new_line c.in-New.n c.parse.new.key c.parse.new.value c.start_afresh.ensures)

pub reply_bad-requires-in_default-index : goal.reply_bad-requires-in_default-index
reply_bad-requires-in_default-index c = reply_bad_asked c.requires

pub returns-in_default-index : goal.returns-in_default-index
returns-in_default-index c = reply_made c.requires c.args.line.now c.parse.new.key c.parse.new.value (Some c.in-Some.said) c.in-Some.ensures refl refl refl (closed_line c.reply_bad-in_default-index.ensures c.in-Some.said c.parse.new.key c.parse.new.value (ordinary_key c.in-Some.said c.in_default-said.not-New) c.in_default-index.is)

pub returns : goal.returns
returns c = reply_made c.requires c.args.line.now c.parse.new.key c.parse.new.value (Some c.in-Some.said) c.in-Some.ensures c.reply_open.auto.dir c.reply_open.auto.slots c.reply_open.auto.arena (open_line c.in-Some-index.is c.reply_open.ensures)
