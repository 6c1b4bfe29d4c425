-- `sizes_met` meets its contract: the product is taken only of a fanout and a pool within their limits.
-- Assumes nothing.
use mathlib.Core.Path.{sym, ◌∙◌}
use Rattle.lists.specs.Exact.{no_way}
use Rattle.tree_read.proofs.Run.{product_fits}
use native.Mathlib.Omega.{arith}
use Rattle.tree_read.proofs.sizes.sizes_met.Goals as goal
use Rattle.tree_read.proofs.sizes.sizes_met.Goals.{then-fanout_met, else-fanout_met}

pub overflow_mul-fanout : goal.overflow_mul-fanout
overflow_mul-fanout c =
    elim c.if-fanout_met.branch [
      | then-fanout_met w ↦ omega (arith, product_fits _ _ (c.fanout_met.ensures.sound w.if-fanout_met.true).1 (w.pool_met.ensures.sound (sym w.value-is ∙ c.if-pool_met.true)).1)
      | else-fanout_met w ↦ no_way (sym w.if-fanout_met.false ∙ sym w.value-is ∙ c.if-pool_met.true)
    ]
