-- `leaf_of` meets its contract (L2).
-- Assumes nothing.
use mathlib.Core.Path.{refl}
use Rattle.route.proofs.Steps.{leaf_met}
use Rattle.route.specs.RouteLaws.{directed, low_key_at, upper_stands}
use Rattle.route.proofs.leaf_of.Goals as goal

pub low_key-low-requires : goal.low_key-low-requires
low_key-low-requires c = let d = directed c.args.v.now.index.presumed in (d.some_slot, d.lows_in _ c.requires)

pub upper_key-upper-requires : goal.upper_key-upper-requires
upper_key-upper-requires c = (directed c.args.v.now.index.presumed, c.requires)

pub prefix_length-requires : goal.prefix_length-requires
prefix_length-requires c =
    let p = c.args.v.now.index.presumed in
    (low_key_at p _ c.requires c.low_key-low.ensures, upper_stands p c.args.j c.upper_key-upper.result c.upper_key-upper.ensures)

pub returns : goal.returns
returns c = leaf_met _ _ c.requires c.leaf_number.ensures.0 refl c.pair_count.ensures.0 c.pair_count.ensures.1 c.low_key-low.ensures c.upper_key-upper.ensures c.prefix_length.ensures c.args.v.now.index.presumed
