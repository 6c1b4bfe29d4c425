-- `has_bit` meets its contract.
-- Assumes nothing.
use Rattle.numbers.specs.BitLaws.{bit_read}
use Rattle.numbers.proofs.has_bit.Goals as goal

pub returns : goal.returns
returns c = bit_read c.args.w c.args.b
