-- `reply_open` meets its contract.
-- Assumes nothing.
use Rattle.session.specs.FrontLaws.{open_line, open_served}
use Rattle.std.proofs.Common.{Some}
use Rattle.session.specs.Serving.{told_command}
use Rattle.session.proofs.reply_open.Goals as goal

pub serve-r-requires : goal.serve-r-requires
serve-r-requires c = open_line c.requires

pub returns : goal.returns
returns c = open_served c.requires (told_command (Some c.args.line) c.args.key.now c.args.value.now) c.serve-r.auto.dir c.serve-r.auto.slots c.serve-r.auto.arena c.serve-r.ensures c.opened.ensures
