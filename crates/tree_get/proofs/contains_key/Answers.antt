-- `contains_key` meets its contract.
-- Assumes nothing.
use Rattle.layout.specs.Viewed.{view_held}
use Rattle.tree_get.specs.GetLaws.{outcome_held}
use Rattle.tree_get.specs.Outcomes.{Contains}
use Rattle.tree_get.proofs.contains_key.Goals as goal

pub returns : goal.returns
returns c =
    outcome_held _ _ c.in_ok-open.ensures.1
    (view_held (λ h dir slots arena ns. Contains c.args.key.now c.contains_key.result ns) c.in_ok-open.field-0 c.in_ok-open.ensures.0 c.contains_key.ensures)
