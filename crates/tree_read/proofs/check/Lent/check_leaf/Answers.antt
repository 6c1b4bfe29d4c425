-- `check_leaf` meets its contract.
-- Assumes nothing.
use mathlib.Core.Path.{refl}
use Rattle.lists.specs.Exact.{refuted}
use Rattle.tree_read.proofs.Leaves.{leaf_after, leaf_under, leaf_count, leaf_empty, leaf_pairs, leaf_all, first_is}
use native.Mathlib.Omega.{arith}
use Rattle.tree_read.proofs.check.Lent.check_leaf.Goals as goal
use Rattle.tree_read.proofs.check.Lent.check_leaf.Goals.{then-low-end-via-then-low-end, then-low-end-via-else-low-end+then-not-low_below, then-low-end-via-else-low-end+else-not-low_below+then-self-count, then-low-end-via-else-low-end+else-not-low_below+else-self-count+then-not-not_empty}

pub returns-then-low-end : goal.returns-then-low-end
returns-then-low-end c =
    elim c.then-low-end.branch [
      | then-low-end-via-then-low-end w ↦ leaf_after _ _ _ _ _ _ _ c.requires w.if-low-end.true
      | then-low-end-via-else-low-end+then-not-low_below w ↦ leaf_under _ _ _ _ _ _ _ c.requires (refuted w.if-not-low_below.true w.low_below.ensures)
      | then-low-end-via-else-low-end+else-not-low_below+then-self-count w ↦ leaf_count _ _ _ _ _ _ _ c.requires _ c.pair_count-count.ensures.0 w.if-self-count.true
      | then-low-end-via-else-low-end+else-not-low_below+else-self-count+then-not-not_empty w ↦
          leaf_empty _ _ _ _ _ _ _ c.requires _ c.pair_count-count.ensures.0 (refuted w.if-not-not_empty.true (w.not_empty.ensures _))
    ]

pub returns-in_err-sum : goal.returns-in_err-sum
returns-in_err-sum c =
    rw c.from_residual.ensures (leaf_pairs _ _ _ _ _ _ _ c.requires _ _ _ c.prefix_length-prefix.ensures (first_is _ _ _ _ c.first_slot-first.ensures c.leaf_number.ensures.0) c.pair_count-count.ensures.0
    c.in_err-sum.ensures)

pub returns : goal.returns
returns c =
    let o = c.in_ok-sum.ensures in
    leaf_all _ _ _ _ _ _ _ c.requires _ _ _ c.prefix_length-prefix.ensures (first_is _ _ _ _ c.first_slot-first.ensures c.leaf_number.ensures.0) c.pair_count-count.ensures.0
    _ _ (omega (arith, c.if-low-end.false)) (c.low_below.ensures.sound c.if-not-low_below.false) (omega (arith, c.if-self-count.false))
    ((c.not_empty.ensures _).sound c.if-not-not_empty.false) o.0 o.1 c.pair_count-count.ensures.1 refl
