-- `seek` meets its contract.
-- Assumes nothing.
use Rattle.route.specs.FindRouted.{find_asks}
use Rattle.route.specs.RouteLaws.{key_long, routed}
use Rattle.spots.specs.SeekLaws.{sought_at, sought_gap}
use native.Mathlib.Omega.{arith}
use Rattle.spots.proofs.seek.Goals as goal

pub leaf_of-read-requires : goal.leaf_of-read-requires
leaf_of-read-requires c = (routed c.args.v.now.index.presumed _ c.owner-leaf.ensures).within

pub slice_bounds-find-count : goal.slice_bounds-find-count
slice_bounds-find-count c = omega (arith, key_long c.leaf_of-read.ensures (routed c.args.v.now.index.presumed _ c.owner-leaf.ensures))

pub slice_bounds-find-start : goal.slice_bounds-find-start
slice_bounds-find-start c = omega (arith, key_long c.leaf_of-read.ensures (routed c.args.v.now.index.presumed _ c.owner-leaf.ensures))

pub find-requires : goal.find-requires
find-requires c = let x = c.args.v.now.index.presumed in find_asks x c.leaf_of-read.ensures (routed x _ c.owner-leaf.ensures).within

pub returns-in-Ok : goal.returns-in-Ok
returns-in-Ok c = sought_at c.args.v.now.index.presumed _ c.owner-leaf.ensures c.leaf_of-read.ensures c.find.ensures _ c.in-Ok.is

pub returns-in-Err : goal.returns-in-Err
returns-in-Err c = sought_gap c.args.v.now.index.presumed _ c.owner-leaf.ensures c.leaf_of-read.ensures c.find.ensures _ c.in-Err.is
