-- `get` meets its contract.
-- Assumes nothing.
use Rattle.layout.specs.Viewed.{view_held}
use Rattle.tree_get.specs.GetLaws.{outcome_held}
use Rattle.tree_get.specs.Outcomes.{Gets}
use Rattle.tree_get.proofs.get.Goals as goal

pub returns : goal.returns
returns c =
    outcome_held _ _ c.in_ok-open.ensures.1
    (view_held (λ h dir slots arena ns. Gets h dir slots arena c.args.key.now c.get.result ns) c.in_ok-open.field-0 c.in_ok-open.ensures.0 c.get.ensures)
