-- `offset_of` meets its contract.
-- Assumes nothing.
use Rattle.judge.specs.PlanReads.{offset_read}
use Rattle.model.specs.LimitLaws.{fanout_three}
use Rattle.route.specs.RouteLaws.{directed}
use native.Mathlib.Omega.{arith}
use Rattle.judge.proofs.offset_of.Goals as goal

pub low_key-low-requires : goal.low_key-low-requires
low_key-low-requires c = let d = directed c.args.v.now.index.presumed in (d.some_slot, d.lows_in _ c.requires)

pub upper_key-upper-requires : goal.upper_key-upper-requires
upper_key-upper-requires c = (directed c.args.v.now.index.presumed, c.requires)

pub split_offset-requires : goal.split_offset-requires
split_offset-requires c = omega (arith, fanout_three c.args.v.now.index.presumed.holds.sizes.fanout_enough)

pub returns : goal.returns
returns c = offset_read c.args.v.now _ _ c.requires c.low_key-low.ensures c.upper_key-upper.ensures c.split_offset.ensures
