-- `keyed_spot` meets its contract: the search is in the leaf that owns the start.
-- Assumes nothing.
use Rattle.route.specs.FindRouted.{find_asks, find_routed}
use Rattle.route.specs.RouteLaws.{key_long, routed}
use Rattle.tree_range.specs.ScanSteps.{keyed_begins, slot_fits}
use Rattle.tree_range.proofs.start.keyed_spot.Goals as goal

pub leaf_of-leaf-requires : goal.leaf_of-leaf-requires
leaf_of-leaf-requires c = (routed c.args.v.now.index.presumed _ c.owner-j.ensures).within

pub slice_bounds-find-count : goal.slice_bounds-find-count
slice_bounds-find-count c = key_long c.leaf_of-leaf.ensures (routed c.args.v.now.index.presumed _ c.owner-j.ensures)

pub slice_bounds-find-start : goal.slice_bounds-find-start
slice_bounds-find-start c = key_long c.leaf_of-leaf.ensures (routed c.args.v.now.index.presumed _ c.owner-j.ensures)

pub find-requires : goal.find-requires
find-requires c =
    let x = c.args.v.now.index.presumed in
    find_asks x c.leaf_of-leaf.ensures (routed x _ c.owner-j.ensures).within

pub slot_from-requires : goal.slot_from-requires
slot_from-requires c =
    let x = c.args.v.now.index.presumed in
    slot_fits x _ c.owner-j.ensures _ c.leaf_of-leaf.ensures (find_routed x c.leaf_of-leaf.ensures _ c.owner-j.ensures c.find.ensures)

pub returns : goal.returns
returns c =
    let x = c.args.v.now.index.presumed in
    keyed_begins x _ c.owner-j.ensures _ c.requires (find_routed x c.leaf_of-leaf.ensures _ c.owner-j.ensures c.find.ensures) c.slot_from.ensures
