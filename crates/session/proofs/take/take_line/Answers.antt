-- `take_line` meets its contract.
-- Assumes nothing.
use Rattle.session.specs.TakeLaws.{take_rest, take_whole}
use Rattle.session.proofs.take.take_line.Goals as goal

pub returns-in_default-clause-taken : goal.returns-in_default-clause-taken
returns-in_default-clause-taken c = take_rest c.requires c.gather-g.ensures c.in_default.is

pub returns-clause-taken : goal.returns-clause-taken
returns-clause-taken c = take_whole c.requires c.gather-g.ensures c.in-Some.is c.reply-r.ensures
