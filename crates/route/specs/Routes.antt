-- Reading one leaf of the directory: what the functions ask, and what their answers are.
use Rattle.std.proofs.Common.{Option}
use Rattle.std.specs.Prelude.{ℕ, suc, ◌^◌, ◌≤◌, ◌<◌, List, [], ◌≡◌, drop, get_or, length, take, Some, None}
use Rattle.std.proofs.Math.Option as math
use Rattle.order.specs.Bytes.{Bytes}
use Rattle.words.specs.Words.{LowKeyUnpacked, low_key_slot, word_count, word_leaf}
use Rattle.model.specs.Leaves.{Node, Spans, low_of, node, prefix_length}
use Rattle.layout.specs.declared.Header.{Header}
use Rattle.leaf.specs.declared.Leaf.{Leaf}
use Rattle.words.specs.declared.LowKey.{LowKey}

-- the j-th leaf of a leaf list, its upper key and its prefix length (L2)

abbrev pub leaf_at : List Node → ℕ → Node
leaf_at ns j = get_or ns j (node 0 [] [])

abbrev pub upper_of : List Node → ℕ → math.Option Bytes
upper_of ns j = low_of (drop (suc j) ns)

abbrev pub prefix_at : List Node → ℕ → ℕ
prefix_at ns j = prefix_length (leaf_at ns j).low (upper_of ns j)

-- where the j-th leaf's low-key word stands
abbrev pub low_place : Header → (dir : List ℕ) → ℕ → ℕ
low_place h dir j = low_key_slot h.fanout (word_leaf (get_or dir j 0))

-- the directory has a word for each leaf, the slot buffer that leaf's low-key word
pub record Directed (h : Header) (dir slots : List ℕ) : Type 0 where
  pub some_slot : 0 < h.fanout
  pub listed : h.leaves ≤ length dir
  pub lows_in : (j : ℕ) → j < h.leaves → low_place h dir j < length slots

-- the j-th leaf's upper key as its place and length, or none
abbrev pub UpperRead : Header → (dir slots : List ℕ) → ℕ → Option LowKey → Type 0
UpperRead h dir slots j (Some k) = (suc j < h.leaves) × LowKeyUnpacked (get_or slots (low_place h dir (suc j)) 0) k
UpperRead h dir slots j None = h.leaves ≤ suc j

-- the j-th leaf by value
pub record LeafIs (h : Header) (dir : List ℕ) (ns : List Node) (j : ℕ) (leaf : Leaf) : Type 0 where
  pub number_is : leaf.number.0 ≡ word_leaf (get_or dir j 0)
  pub fanout_is : leaf.fanout ≡ h.fanout
  pub pairs_are : leaf.pairs ≡ word_count (get_or dir j 0)
  pub prefix_is : leaf.prefix_length ≡ prefix_at ns j
  pub pairs_fit : leaf.pairs < 2 ^ 20
  pub prefix_fits : leaf.prefix_length < 2 ^ 12

-- the leaf at place j spans the key, which begins with the leaf's prefix
pub record Routed (h : Header) (ns : List Node) (k : Bytes) (j : ℕ) : Type 0 where
  pub within : j < h.leaves
  pub spans : Spans (leaf_at ns j).low (upper_of ns j) k
  pub begins : take (prefix_at ns j) k ≡ take (prefix_at ns j) (leaf_at ns j).low
  pub long : prefix_at ns j ≤ length k
