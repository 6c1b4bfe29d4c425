-- `reaches` meets its contract: Less and Equal reach, Greater does not (L1).
-- Assumes nothing.
use Rattle.route.proofs.Steps.{low_end_lem, reaches_equal, reaches_greater, reaches_less}
use Rattle.route.specs.RouteLaws.{directed}
use native.Mathlib.Omega.{arith}
use Rattle.route.proofs.reaches.Goals as goal

pub low_key-low-requires : goal.low_key-low-requires
low_key-low-requires c = let d = directed c.args.v.now.index.presumed in (d.some_slot, d.lows_in _ c.requires)

pub slice_bounds-compare-end : goal.slice_bounds-compare-end
slice_bounds-compare-end c = omega (arith, low_end_lem c.args.v.now.index.presumed c.requires c.low_key-low.ensures)

pub returns-in-Less : goal.returns-in-Less
returns-in-Less c = reaches_less c.args.v.now.index.presumed c.requires c.low_key-low.ensures c.compare.ensures c.in-Less.is

pub returns-in-Equal : goal.returns-in-Equal
returns-in-Equal c = reaches_equal c.args.v.now.index.presumed c.requires c.low_key-low.ensures c.compare.ensures c.in-Equal.is

pub returns-in-Greater : goal.returns-in-Greater
returns-in-Greater c = reaches_greater c.args.v.now.index.presumed c.requires c.low_key-low.ensures c.compare.ensures c.in-Greater.is
