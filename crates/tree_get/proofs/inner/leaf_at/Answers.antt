-- `inner::leaf_at` meets its contract.
-- Assumes nothing.
use Rattle.route.specs.RouteLaws.{directed}
use Rattle.tree_get.specs.GetLaws.{leaf_none, leaf_some}
use native.Mathlib.Omega.{arith}
use Rattle.tree_get.proofs.inner.leaf_at.Goals as goal

pub returns-then-v-place : goal.returns-then-v-place
returns-then-v-place c = leaf_none c.args.v.now c.args.place (omega arith)

pub low_key-low-requires : goal.low_key-low-requires
low_key-low-requires c = let d = directed c.args.v.now.index.presumed in (d.some_slot, d.lows_in _ (omega arith))

pub upper_key-upper-requires : goal.upper_key-upper-requires
upper_key-upper-requires c = (directed c.args.v.now.index.presumed, omega arith)

pub returns : goal.returns
returns c = leaf_some c.args.v.now _ _ (omega arith) c.low_key-low.ensures c.upper_key-upper.ensures c.leaf_of-leaf.ensures
