-- `split_if_full` meets its contract.
-- Assumes nothing.
use Rattle.tree_insert.specs.PlacedLaws.{leaf_fits, slack_placed, split_asked, split_placed, spot_left, spot_right}
use native.Mathlib.Omega.{arith}
use Rattle.tree_insert.proofs.inner.split_if_full.Goals as goal

pub split_leaf-header-requires : goal.split_leaf-header-requires
split_leaf-header-requires c = split_asked c.in-Full.is c.requires

pub overflow_add-spot : goal.overflow_add-spot
overflow_add-spot c = omega (arith, leaf_fits c.in-Full.is c.requires)

pub returns-in-Slack : goal.returns-in-Slack
returns-in-Slack c = slack_placed c.in-Slack.is

pub returns-in-Left : goal.returns-in-Left
returns-in-Left c = split_placed c.in-Full.is c.split_leaf-header.ensures (spot_left c.in-Full.p c.in-Left.is)

pub returns-in-Right : goal.returns-in-Right
returns-in-Right c = split_placed c.in-Full.is c.split_leaf-header.ensures (spot_right c.in-Full.p c.in-Right.is)
