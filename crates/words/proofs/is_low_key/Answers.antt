-- `words::is_low_key` meets its contract.
-- Assumes nothing.
use Rattle.lists.specs.Exact.{exact_eqb}
use Rattle.words.proofs.is_low_key.Goals as goal

pub returns : goal.returns
returns c = exact_eqb _ _
