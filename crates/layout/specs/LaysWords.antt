-- A slot word as W has it.
use Rattle.std.specs.Prelude.{◌+◌, ◌<◌, ◌≤◌, ℕ, ◌≡◌, length}
use Rattle.layout.specs.Buffers.{Buffers, slot_words}
use Rattle.words.specs.Words.{first_slot, low_key_slot, word_count, word_leaf}

pub record WordGood (b : Buffers) (pool d : ℕ) : Type 0 where
  pub leaf_in : word_leaf d < pool
  pub count_in : word_count d < b.fanout
  pub slots_in : first_slot b.fanout (word_leaf d) + word_count d ≤ length b.slots
  pub low_in : low_key_slot b.fanout (word_leaf d) < length b.slots
  pub words_are : length (slot_words b d) ≡ word_count d
