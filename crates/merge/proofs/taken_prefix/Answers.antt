-- `taken_prefix` meets its contract (L2).
-- Assumes nothing.
use Rattle.merge.specs.MergeLaws.{kept_read}
use Rattle.route.specs.RouteLaws.{directed, low_key_at, upper_stands}
use native.Mathlib.Omega.{arith}
use Rattle.merge.proofs.taken_prefix.Goals as goal

pub low_key-low-requires : goal.low_key-low-requires
low_key-low-requires c =
    let d = directed c.args.v.now.index.presumed in
    (d.some_slot, d.lows_in _ (omega (arith, c.requires)))

pub upper_key-upper-requires : goal.upper_key-upper-requires
upper_key-upper-requires c = (directed c.args.v.now.index.presumed, omega (arith, c.requires))

pub prefix_length-requires : goal.prefix_length-requires
prefix_length-requires c =
    let x = c.args.v.now.index.presumed in
    (low_key_at x _ (omega (arith, c.requires)) c.low_key-low.ensures, upper_stands x _ c.upper_key-upper.result c.upper_key-upper.ensures)

pub returns : goal.returns
returns c = kept_read c.upper_key-upper.result (omega arith) c.requires c.low_key-low.ensures c.upper_key-upper.ensures c.prefix_length.ensures _ c.args.v.now.index.presumed
