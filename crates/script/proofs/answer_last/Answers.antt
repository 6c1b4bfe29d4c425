-- `answer_last` meets its contract.
-- Assumes nothing.
use mathlib.Core.Path.{sym, ◌∙◌}
use Rattle.script.specs.ScriptLaws.{last_line, ready_reply, reply_due, reply_fits}
use Rattle.script.proofs.answer_last.Goals as goal

pub reply-r-requires : goal.reply-r-requires
reply-r-requires g c = ready_reply c.requires

pub write_front-requires : goal.write_front-requires
write_front-requires g c = (reply_fits c.requires c.reply-r.ensures, reply_due c.requires c.reply-r.ensures)

pub returns-clause-last : goal.returns-clause-last
returns-clause-last g c = last_line c.requires (sym c.has_failed.ensures ∙ c.if-has_failed.false) c.if-c-eq0.false c.reply-r.ensures
