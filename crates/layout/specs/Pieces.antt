-- A pair as it lies in the arena, and that each pair of the list lies so.
use Rattle.std.specs.Prelude.{◌+◌, ◌^◌, ◌<◌, ◌≤◌, ℕ, ◌≡◌}
use mathlib.Core.List.{List, [], ◌++◌}
use Rattle.std.proofs.Math.ListN.{get_or, length}
use Rattle.layout.specs.Places.{place_of}
use Rattle.layout.specs.declared.Header.{Header}
use Rattle.lists.specs.Part.{part}
use Rattle.model.specs.Leaves.{Node, node}
use Rattle.model.specs.Map.{Pair, pair}
use Rattle.words.specs.Words.{first_slot, word_leaf}

-- the i-th pair of the j-th leaf
abbrev pub pair_in : List Node → (j i : ℕ) → Pair
pair_in ns j i = get_or (get_or ns j (node 0 [] [])).pairs i (pair [] [])

-- there is one
pub record InList (ns : List Node) (j i : ℕ) : Type 0 where
  pub leaf_in : j < length ns
  pub slot_in : i < length (get_or ns j (node 0 [] [])).pairs

-- x lies so: `prefix` bytes from `low` on, then `suffix` bytes from `offset` on are its key, and `value` bytes behind them its value
pub record Pieces (h : Header) (dir slots arena : List ℕ) (ns : List Node) (x : Pair) (low prefix offset suffix value : ℕ) : Type 0 where
  pub arena_fits : length arena < 2 ^ 28
  pub low_in : low + prefix ≤ length arena
  pub parts_in : offset + suffix + value ≤ length arena
  pub key_is : part arena low prefix ++ part arena offset suffix ≡ x.key
  pub value_is : part arena (offset + suffix) value ≡ x.value
  pub key_length : prefix + suffix ≡ length x.key
  pub value_length : value ≡ length x.value
  pub place_is : offset + suffix ≡ place_of h dir slots arena ns x.key

-- the word of the i-th pair of the leaf of the directory word d
abbrev pub word_at_slot : (fanout : ℕ) (slots : List ℕ) (d i : ℕ) → ℕ
word_at_slot fanout slots d i = get_or slots (first_slot fanout (word_leaf d) + i) 0
