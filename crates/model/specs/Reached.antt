-- The leaf lists that calls within K and V (here kmost and vmost) make from a fresh one.
use Rattle.std.specs.Prelude.{◌≤◌, ℕ, true, List, length}
use Rattle.model.specs.Good.{Bounds}
use Rattle.model.specs.Leaves.{Node}
use Rattle.model.specs.Rules.{clear_rule, fresh, insert_rule, remove_rule}
use Rattle.order.specs.Bytes.{Bytes}

abbrev pub bounds : (fanout kmost vmost : ℕ) → Bounds
bounds fanout kmost vmost = record { fanout = fanout; key_most = kmost; value_most = vmost }

-- the leaf lists that calls make from a fresh one
pub data Reached (fanout kmost vmost : ℕ) : List Node → Type 0 where
  created : Reached fanout kmost vmost fresh
  inserted : {ns : List Node} (k v : Bytes) → length k ≤ kmost → length v ≤ vmost → Reached fanout kmost vmost ns
      → Reached fanout kmost vmost (insert_rule fanout k v ns)
  removed : {ns : List Node} (k : Bytes) → Reached fanout kmost vmost ns → Reached fanout kmost vmost (remove_rule true k ns)
  cleared : {ns : List Node} → Reached fanout kmost vmost ns → Reached fanout kmost vmost (clear_rule ns)
