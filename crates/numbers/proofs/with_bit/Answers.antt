-- `with_bit` meets its contract.
-- Assumes nothing.
use Rattle.numbers.specs.BitLaws.{set_bit}
use Rattle.numbers.proofs.with_bit.Goals as goal

pub returns : goal.returns
returns c = set_bit c.args.w c.args.b c.requires
