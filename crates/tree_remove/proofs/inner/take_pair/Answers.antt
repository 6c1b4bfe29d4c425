-- `inner::take_pair` meets its contract.
-- Assumes nothing.
use Rattle.tree_remove.specs.TakeLaws.{take_last, take_left, take_merged, take_merges, take-place, take_small}
use native.Mathlib.Omega.{arith}
use Rattle.tree_remove.proofs.inner.take_pair.Goals as goal
use Rattle.tree_remove.proofs.inner.take_pair.Goals.{else-is_empty-via-then-is_empty+else-j-r, else-is_empty-via-else-is_empty}

pub offset_bounds-dir-j : goal.offset_bounds-dir-j
offset_bounds-dir-j c = omega (arith, take_small c.requires)

pub bounds-dir-j : goal.bounds-dir-j
bounds-dir-j c = omega (arith, take-place c.requires, (c.remove_pair-r.ensures c.requires.key).same_dir)

pub overflow_add-j : goal.overflow_add-j
overflow_add-j c = omega (arith, take_small c.requires)

pub merge_leaf-requires : goal.merge_leaf-requires
merge_leaf-requires c = take_merges c.remove_pair-r.ensures c.pair_count-is_empty.ensures.0 c.if-is_empty.true c.if-j-r.true c.requires

pub returns-then-j-r : goal.returns-then-j-r
returns-then-j-r c = take_merged c.remove_pair-r.ensures c.pair_count-is_empty.ensures.0 c.if-is_empty.true c.if-j-r.true c.merge_leaf.ensures

pub returns : goal.returns
returns c =
    elim c.else-is_empty.branch [
      | else-is_empty-via-then-is_empty+else-j-r w ↦ take_last c.remove_pair-r.ensures w.if-j-r.false
      | else-is_empty-via-else-is_empty w ↦ take_left c.remove_pair-r.ensures c.pair_count-is_empty.ensures.0 w.if-is_empty.false
    ]
