-- Demand 3's split rule: how an insert that makes F pairs leaves its leaf.
use Rattle.std.specs.Prelude.{◌<◌, ◌≤◌, ℕ, ◌≡◌, length}
use mathlib.Core.List.{List, ◌++◌, ◌∷◌}
use Rattle.lists.specs.All.{All}
use Rattle.model.specs.Leaves.{Node, node, owned, with_pairs}
use Rattle.model.specs.Map.{Below, From, Pair, put}
use Rattle.order.specs.Bytes.{Bytes}

-- m is cut into l and r at the string s
pub record Divided (m l r : List Pair) (s : Bytes) : Type 0 where
  pub whole : l ++ r ≡ m
  pub left : 0 < length l
  pub right : 0 < length r
  pub above : All (Below s) l
  pub upto : All (From s) r
  pub shortest : (x : Bytes) → All (Below x) l → All (From x) r → length s ≤ length x

-- the owner, with the new pair put, stands as a left leaf and a right one with the new number; the other leaves are as they were
pub record SplitOf (k v : Bytes) (free : ℕ) (ns after : List Node) : Type 0 where
  pub ahead : List Node
  pub leaf : Node
  pub behind : List Node
  pub separator : Bytes
  pub l : List Pair
  pub r : List Pair
  pub was : ns ≡ ahead ++ (leaf ∷ behind)
  pub owns : owned k ns ≡ leaf.pairs
  pub now : after ≡ ahead ++ (with_pairs leaf l ∷ node free separator r ∷ behind)
  pub cut : Divided (put k v leaf.pairs) l r separator
