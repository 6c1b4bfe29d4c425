-- `leaf_at` meets its contract.
-- Assumes nothing.
use Rattle.layout.specs.Presumed.{entry_held}
use Rattle.layout.specs.Viewed.{view_held}
use Rattle.model.specs.Answers.{leaf_at}
use Rattle.tree_get.specs.GetLaws.{gives_shown}
use Rattle.tree_get.specs.Outcomes.{ShownBy}
use Rattle.tree_get.proofs.leaf_at.Goals as goal

pub returns : goal.returns
returns c =
    entry_held c.in_ok-open.ensures.1
    (gives_shown c.args.place (view_held (λ h dir slots arena ns. ShownBy h dir slots arena c.args.place (leaf_at c.args.place ns) c.leaf_at.result) c.in_ok-open.field-0 c.in_ok-open.ensures.0 c.leaf_at.ensures))
