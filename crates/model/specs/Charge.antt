-- L9: the charge of a leaf list, and the bytes that the arena then stores.
use Rattle.std.specs.Prelude.{ℕ, ◌+◌, ◌-◌, List, [], ◌∷◌, length}
use Rattle.model.specs.Map.{Pair}
use Rattle.model.specs.Leaves.{Node, low_of, prefix_length}

-- full key length + value length over all pairs of a leaf
unfoldable pub weight : List Pair → ℕ
weight [] = 0
weight (p ∷ m) = length p.key + length p.value + weight m

-- that over all leaves, plus all low-key lengths
unfoldable pub charge : List Node → ℕ
charge [] = 0
charge (n ∷ ns) = length n.low + weight n.pairs + charge ns

-- a slot stores the suffix of the key from the prefix length on (L2), and the value
unfoldable pub stored_pairs : (prefix : ℕ) → List Pair → ℕ
stored_pairs prefix [] = 0
stored_pairs prefix (p ∷ m) = (length p.key - prefix) + length p.value + stored_pairs prefix m

unfoldable pub stored : List Node → ℕ
stored [] = 0
stored (n ∷ ns) = length n.low + stored_pairs (prefix_length n.low (low_of ns)) n.pairs + stored ns
