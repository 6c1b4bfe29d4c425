-- The leaf at a place of the list spans a key.
use Prim.Native.Nat.{◌<◌, suc, ℕ}
use mathlib.Core.List.{List, []}
use Rattle.std.specs.Prelude.{drop, get_or, length}
use Rattle.model.specs.Leaves.{node, Node, Spans, low_of}
use Rattle.order.specs.Bytes.{Bytes}

-- the leaf at place j spans k
pub record SpansAt (ns : List Node) (k : Bytes) (j : ℕ) : Type 0 where
  pub within : j < length ns
  pub spans : Spans (get_or ns j (node 0 [] [])).low (low_of (drop (suc j) ns)) k
