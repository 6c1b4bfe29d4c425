-- What W asks of a leaf list, in three parts: `Tiles`, `Filled`, `Fits`. (What it asks of words and bytes is said where they are.)
use Rattle.std.specs.Prelude.{ℕ, ◌≤◌, ◌<◌, List, [], ◌∷◌, ◌≡◌, length}
use Rattle.std.proofs.Math.Option.{Option, some}
use Rattle.lists.specs.All.{All}
use Rattle.order.specs.Bytes.{Bytes}
use Rattle.model.specs.Map.{Pair, Rising}
use Rattle.model.specs.Leaves.{Node, low_of, Under, Spans}
use Rattle.model.specs.Limits.{key_limit, value_limit}
use Rattle.model.specs.Charge.{charge}

-- the bounds on one leaf: its fanout, and the longest key and value. Document 01's limits are one case, demand 3's K and V another
pub record Bounds : Type 0 where
  pub fanout : ℕ
  pub key_most : ℕ
  pub value_most : ℕ

abbrev pub limits : ℕ → Bounds
limits fanout = record { fanout = fanout; key_most = key_limit; value_most = value_limit }

abbrev pub Within : Bounds → Pair → Type 0
Within B p = (length p.key ≤ B.key_most) × (length p.value ≤ B.value_most)

-- a leaf: its low key below its upper key, its pairs rising strictly within its span (L1), all lengths within bounds
pub record GoodLeaf (B : Bounds) (n : Node) (upper : Option Bytes) : Type 0 where
  pub low_within : length n.low ≤ B.key_most
  pub low_under : Under upper n.low
  pub rises : Rising n.pairs
  pub spanned : All (λ p. Spans n.low upper p.key) n.pairs
  pub within : All (Within B) n.pairs

-- and between calls it holds at most F - 1 pairs (L3)
abbrev pub Tiled : Bounds → List Node → Type 0
Tiled B [] = Unit {0}
Tiled B (n ∷ ns) = (GoodLeaf B n (low_of ns) × (length n.pairs < B.fanout)) × Tiled B ns

-- the leaves tile the keys: low keys rise strictly from the empty key, each upper key is the next low key
pub record Tiles (B : Bounds) (ns : List Node) : Type 0 where
  pub starts : low_of ns ≡ some []
  pub tiled : Tiled B ns

-- only the last leaf may be empty
abbrev pub Filled : List Node → Type 0
Filled [] = Unit {0}
Filled (n ∷ []) = Unit {0}
Filled (n ∷ m ∷ ns) = (0 < length n.pairs) × Filled (m ∷ ns)

-- leaves with different numbers
abbrev pub Distinct : List Node → Type 0
Distinct [] = Unit {0}
Distinct (n ∷ ns) = All (λ m. n.number ≡ m.number → ⊥) ns × Distinct ns

-- the leaves are in the pool, each once, and the charge is within the arena's length (L9)
pub record Fits (pool arena : ℕ) (ns : List Node) : Type 0 where
  pub counted : length ns ≤ pool
  pub in_pool : All (λ n. n.number < pool) ns
  pub distinct : Distinct ns
  pub charged : charge ns ≤ arena

pub record Good (B : Bounds) (pool arena : ℕ) (ns : List Node) : Type 0 where
  pub tiles : Tiles B ns
  pub filled : Filled ns
  pub fits : Fits pool arena ns
