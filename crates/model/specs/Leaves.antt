-- The leaf list of document 01: leaves in key order. L1 and L2, and which leaf owns a key.
use Rattle.std.specs.Prelude.{ℕ, suc, Bool, true, false, cond, List, [], ◌∷◌, ◌++◌}
use Rattle.std.proofs.Math.Option.{Option, none, some}
use Rattle.order.specs.Bytes.{Bytes, cmp, common, ◌≺◌, ◌≼◌}
use Rattle.model.specs.Map.{Pair, by}

-- a leaf: its number in the pool, its low key, and its pairs with whole keys
pub record Node : Type 0 where
  pub number : ℕ
  pub low : Bytes
  pub pairs : List Pair

abbrev pub node : ℕ → Bytes → List Pair → Node
node i low m = record { number = i; low = low; pairs = m }

abbrev pub with_pairs : Node → List Pair → Node
with_pairs n m = node n.number n.low m

-- the low key of the first leaf; of the leaves after a leaf it is that leaf's upper key, and the last leaf has none
abbrev pub low_of : List Node → Option Bytes
low_of [] = none
low_of (n ∷ ns) = some n.low

-- all pairs, in order
abbrev pub pairs_of : List Node → List Pair
pairs_of [] = []
pairs_of (n ∷ ns) = n.pairs ++ pairs_of ns

-- L1: low key <= k < upper key. A key equal to a separator belongs to the right leaf
abbrev pub Under : Option Bytes → Bytes → Type 0
Under none k = Unit {0}
Under (some upper) k = k ≺ upper

abbrev pub Spans : Bytes → Option Bytes → Bytes → Type 0
Spans low upper k = (low ≼ k) × Under upper k

-- L2
abbrev pub prefix_length : Bytes → Option Bytes → ℕ
prefix_length low none = 0
prefix_length low (some upper) = common low upper

-- the key belongs to these leaves, and not to one before them: the first low key is not above it
abbrev pub reaches : Bytes → List Node → Bool
reaches k [] = false
reaches k (n ∷ ns) = by (cmp k n.low) false true true

-- the place of the leaf that owns k: the last whose low key is not above it
unfoldable pub owner : Bytes → List Node → ℕ
owner k [] = 0
owner k (n ∷ ns) = cond (reaches k ns) (suc (owner k ns)) 0

-- its pairs
unfoldable pub owned : Bytes → List Node → List Pair
owned k [] = []
owned k (n ∷ ns) = cond (reaches k ns) (owned k ns) n.pairs

-- that leaf, and the leaves after it, changed by f
unfoldable pub at_owner : (Node → List Node → List Node) → Bytes → List Node → List Node
at_owner f k [] = []
at_owner f k (n ∷ ns) = cond (reaches k ns) (n ∷ at_owner f k ns) (f n ns)
