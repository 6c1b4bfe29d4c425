-- `order::compare_whole` meets its contract.
-- Assumes nothing.
use Rattle.std.proofs.Common.{◌∙◌}
use Rattle.order.proofs.Steps.{is_cmp}
use Rattle.order.proofs.compare_whole.Goals as goal

pub returns : goal.returns
returns c = record { is = c.cmp.ensures ∙ is_cmp _ _ }
