-- `write_out` meets its contract.
-- Assumes nothing.
use Rattle.script.specs.ScriptLaws.{filled_due, filled_fits}
use Rattle.script.proofs.write_out.Goals as goal

pub write_front-requires : goal.write_front-requires
write_front-requires g c = (filled_fits c.requires, filled_due c.requires)
