-- What the words of the slot buffer and the directory stand for: bytes of the arena, pairs, low keys.
use Rattle.std.specs.Prelude.{ℕ, ◌+◌, List, ◌++◌, get_or}
use Rattle.lists.specs.Part.{part}
use Rattle.order.specs.Bytes.{Bytes}
use Rattle.words.specs.Words.{word_offset, word_suffix, word_value, word_leaf, word_count, first_slot, low_key_slot}
use Rattle.model.specs.Map.{Pair, pair}

-- the fanout, and the contents of slot buffer and arena
pub record Buffers : Type 0 where
  pub fanout : ℕ
  pub slots : List ℕ
  pub arena : List ℕ

-- a slot word: its suffix, and its value right behind
unfoldable pub suffix_at : (arena : List ℕ) → ℕ → Bytes
suffix_at arena w = part arena (word_offset w) (word_suffix w)

abbrev pub value_place : ℕ → ℕ
value_place w = word_offset w + word_suffix w

unfoldable pub value_at : (arena : List ℕ) → ℕ → Bytes
value_at arena w = part arena (value_place w) (word_value w)

-- the pair of a slot word, its key behind the leaf's prefix
unfoldable pub pair_at : (arena : List ℕ) (prefix : Bytes) → ℕ → Pair
pair_at arena prefix w = pair (prefix ++ suffix_at arena w) (value_at arena w)

-- a directory word d: its leaf's slot words, its low-key word and its low key
unfoldable pub slot_words : Buffers → ℕ → List ℕ
slot_words b d = part b.slots (first_slot b.fanout (word_leaf d)) (word_count d)

unfoldable pub low_word : Buffers → ℕ → ℕ
low_word b d = get_or b.slots (low_key_slot b.fanout (word_leaf d)) 0

unfoldable pub low_at : Buffers → ℕ → Bytes
low_at b d = suffix_at b.arena (low_word b d)
