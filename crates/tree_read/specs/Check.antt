-- What the test of W finds out, word by word, with a running end in the arena. That this is W is shown in WCheck.
use Rattle.std.specs.Prelude.{ℕ, ◌+◌, ◌≤◌, ◌<◌, List, [], ◌∷◌, ◌≡◌, length, take, drop, get_or}
use Rattle.std.proofs.Math.Option.{Option, none, some}
use Rattle.order.specs.Bytes.{Bytes, ◌≺◌, ◌≼◌}
use Rattle.words.specs.Words.{word_offset, word_suffix, word_value, word_leaf, word_count}
use Rattle.model.specs.Leaves.{Under, prefix_length}
use Rattle.model.specs.Limits.{key_limit, value_limit, Sizes}
use Rattle.layout.specs.declared.Header.{Header}
use Rattle.layout.specs.Buffers.{Buffers, suffix_at, slot_words, low_word, low_at}
use Rattle.layout.specs.Lays.{buffers}

-- a slot word: its part starts at or after `end` and lies inside the arena, and its lengths are within limits
pub record WordOk (top end prefix w : ℕ) : Type 0 where
  pub after : end ≤ word_offset w
  pub inside : word_offset w + word_suffix w + word_value w ≤ top
  pub key : prefix + word_suffix w ≤ key_limit
  pub value : word_value w ≤ value_limit

abbrev pub word_end : ℕ → ℕ
word_end w = word_offset w + word_suffix w + word_value w

-- slot words behind one whose suffix is prev: each in place, and its suffix above the one before
abbrev pub RunPairs : (arena : List ℕ) (prefix end : ℕ) (prev : Bytes) → List ℕ → Type 0
RunPairs arena prefix end prev [] = Unit {0}
RunPairs arena prefix end prev (w ∷ ws) =
    (WordOk (length arena) end prefix w × (prev ≺ suffix_at arena w)) × RunPairs arena prefix (word_end w) (suffix_at arena w) ws

abbrev pub last_suffix : (arena : List ℕ) → Bytes → List ℕ → Bytes
last_suffix arena prev [] = prev
last_suffix arena prev (w ∷ ws) = last_suffix arena (suffix_at arena w) ws

-- a leaf's slot words, between its low key and its upper key, each from the prefix length on
abbrev pub PairsOk : (arena : List ℕ) (prefix end : ℕ) (low : Bytes) (upper : Option Bytes) → List ℕ → Type 0
PairsOk arena prefix end low upper [] = Unit {0}
PairsOk arena prefix end low upper (w ∷ ws) =
    (WordOk (length arena) end prefix w × (low ≼ suffix_at arena w))
    × (RunPairs arena prefix (word_end w) (suffix_at arena w) ws × Under upper (last_suffix arena (suffix_at arena w) ws))

abbrev pub end_after : ℕ → List ℕ → ℕ
end_after end [] = end
end_after end (w ∷ ws) = end_after (word_end w) ws

-- a directory word: its leaf is in the pool, and its low key can be read
pub record LowOk (b : Buffers) (pool d : ℕ) : Type 0 where
  pub in_pool : word_leaf d < pool
  pub no_value : word_value (low_word b d) ≡ 0
  pub short : word_suffix (low_word b d) ≤ key_limit
  pub inside : word_offset (low_word b d) + word_suffix (low_word b d) ≤ length b.arena

abbrev pub low_end : Buffers → ℕ → ℕ
low_end b d = word_offset (low_word b d) + word_suffix (low_word b d)

-- the upper key of a leaf, from the directory words behind it
abbrev pub upper_of : Buffers → List ℕ → Option Bytes
upper_of b [] = none
upper_of b (d ∷ ds) = some (low_at b d)

abbrev pub behind : ℕ → Option Bytes → Option Bytes
behind prefix none = none
behind prefix (some u) = some (drop prefix u)

-- a leaf that is not the last has a pair
abbrev pub NotEmpty : Option Bytes → ℕ → Type 0
NotEmpty none count = Unit {0}
NotEmpty (some u) count = 0 < count

-- a leaf, its parts from `end` on
pub record LeafOk (b : Buffers) (pool end d : ℕ) (upper : Option Bytes) : Type 0 where
  pub low : LowOk b pool d
  pub after : end ≤ word_offset (low_word b d)
  pub under : Under upper (low_at b d)
  pub count : word_count d < b.fanout
  pub not_empty : NotEmpty upper (word_count d)
  pub pairs : PairsOk b.arena (prefix_length (low_at b d) upper) (low_end b d) (drop (prefix_length (low_at b d) upper) (low_at b d)) (behind (prefix_length (low_at b d) upper) upper) (slot_words b d)

abbrev pub leaf_end : Buffers → ℕ → ℕ
leaf_end b d = end_after (low_end b d) (slot_words b d)

-- the leaves of some directory words, their parts from `end` on
abbrev pub RunLeaves : Buffers → (pool end : ℕ) → List ℕ → Type 0
RunLeaves b pool end [] = Unit {0}
RunLeaves b pool end (d ∷ ds) = LeafOk b pool end d (upper_of b ds) × RunLeaves b pool (leaf_end b d) ds

-- what they add up to: pairs, and charge (L9)

abbrev pub count_of : List ℕ → ℕ
count_of [] = 0
count_of (d ∷ ds) = word_count d + count_of ds

abbrev pub words_charge : (prefix : ℕ) → List ℕ → ℕ
words_charge prefix [] = 0
words_charge prefix (w ∷ ws) = prefix + word_suffix w + word_value w + words_charge prefix ws

abbrev pub leaf_charge : Buffers → ℕ → Option Bytes → ℕ
leaf_charge b d upper = word_suffix (low_word b d) + words_charge (prefix_length (low_at b d) upper) (slot_words b d)

abbrev pub charge_of : Buffers → List ℕ → ℕ
charge_of b [] = 0
charge_of b (d ∷ ds) = leaf_charge b d (upper_of b ds) + charge_of b ds

-- all of it
pub record Passes (h : Header) (dir slots arena : List ℕ) : Type 0 where
  pub sizes : Sizes h.fanout (length dir) (length slots) (length arena)
  pub some_leaf : 1 ≤ h.leaves
  pub in_directory : h.leaves ≤ length dir
  pub first_low : word_suffix (low_word (buffers h slots arena) (get_or dir 0 0)) ≡ 0
  pub leaves : RunLeaves (buffers h slots arena) (length dir) 0 (take h.leaves dir)
  pub pairs_are : h.pairs ≡ count_of (take h.leaves dir)
  pub charge_is : h.charge ≡ charge_of (buffers h slots arena) (take h.leaves dir)
  pub charge_fits : h.charge ≤ length arena
