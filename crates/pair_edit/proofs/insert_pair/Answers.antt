-- `insert_pair` meets its contract.
-- Assumes nothing.
use native.Mathlib.Omega.{arith}
use Rattle.route.specs.RouteLaws.{leaf_told}
use Rattle.pair_edit.specs.InsertLaws.{can_make_room, can_put, can_read_leaf, inserted_pair, key_from_prefix, pairs_small}
use Rattle.pair_edit.proofs.insert_pair.Goals as goal

pub leaf_of-leaf-requires : goal.leaf_of-leaf-requires
leaf_of-leaf-requires c = rw c.new.ensures.header_is (can_read_leaf c.requires).1

pub slice_bounds-suffix-count : goal.slice_bounds-suffix-count
slice_bounds-suffix-count c = key_from_prefix c.requires (leaf_told _ c.new.ensures c.leaf_of-leaf.ensures)

pub slice_bounds-suffix-start : goal.slice_bounds-suffix-start
slice_bounds-suffix-start c = omega (arith, key_from_prefix c.requires (leaf_told _ c.new.ensures c.leaf_of-leaf.ensures))

pub make_room-at-requires : goal.make_room-at-requires
make_room-at-requires c = can_make_room c.requires (leaf_told _ c.new.ensures c.leaf_of-leaf.ensures)

pub put_in-requires : goal.put_in-requires
put_in-requires c =
    let i = c.requires in
    can_put i.presumed i.asks (leaf_told _ c.new.ensures c.leaf_of-leaf.ensures i.nodes i.presumed) c.make_room-at.ensures

pub overflow_add-result : goal.overflow_add-result
overflow_add-result c = omega (arith, pairs_small c.requires)

pub returns : goal.returns
returns c =
    let room = c.make_room-at in
    let wrote = c.put_in in
    let g = c.args in
    inserted_pair {h = g.h} {k = g.key.now} {v = g.value.now} {t = g.t} (leaf_told _ c.new.ensures c.leaf_of-leaf.ensures) room.ensures wrote.ensures c.put_in.auto.dir c.put_in.auto.slots c.put_in.auto.arena
