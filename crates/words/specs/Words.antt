-- The packed words of document 01, "Sizes", most significant field first. A slot word: arena offset 28 bits, suffix length 12, value
-- length 24. A leaf's low-key word: the same, with the low key's length for the suffix's and no value. A directory word: leaf number 12
-- bits, pair count 20.
use Rattle.std.specs.Prelude.{◌≡◌, ℕ, ◌+◌, ◌*◌, ◌/◌, ◌%◌, ◌^◌, ◌-◌, ◌<◌}
use Rattle.words.specs.declared.Slot.{Slot}
use Rattle.words.specs.declared.LowKey.{LowKey}

-- the fields of a slot word

abbrev pub word_offset : ℕ → ℕ
word_offset w = w / 2 ^ 36

abbrev pub word_suffix : ℕ → ℕ
word_suffix w = w / 2 ^ 24 % 2 ^ 12

abbrev pub word_value : ℕ → ℕ
word_value w = w % 2 ^ 24

abbrev pub slot_word : (offset suffix value : ℕ) → ℕ
slot_word offset suffix value = offset * 2 ^ 36 + suffix * 2 ^ 24 + value

-- each number fits its field
pub record SlotFits (s : Slot) : Type 0 where
  pub offset_fits : s.offset.0 < 2 ^ 28
  pub suffix_fits : s.suffix < 2 ^ 12
  pub value_fits : s.value < 2 ^ 24

-- s is what the slot word w holds
pub record Unpacked (w : ℕ) (s : Slot) : Type 0 where
  pub offset_is : s.offset.0 ≡ word_offset w
  pub suffix_is : s.suffix ≡ word_suffix w
  pub value_is : s.value ≡ word_value w
  pub fits : SlotFits s

-- the low-key word

abbrev pub low_key_word : (offset length : ℕ) → ℕ
low_key_word offset length = slot_word offset length 0

pub record LowKeyFits (k : LowKey) : Type 0 where
  pub offset_fits : k.offset.0 < 2 ^ 28
  pub length_fits : k.length < 2 ^ 12

-- k is the place and length that the low-key word w holds
pub record LowKeyUnpacked (w : ℕ) (k : LowKey) : Type 0 where
  pub offset_is : k.offset.0 ≡ word_offset w
  pub length_is : k.length ≡ word_suffix w
  pub fits : LowKeyFits k

-- the directory word

abbrev pub word_leaf : ℕ → ℕ
word_leaf w = w / 2 ^ 20

abbrev pub word_count : ℕ → ℕ
word_count w = w % 2 ^ 20

abbrev pub directory_word : (leaf count : ℕ) → ℕ
directory_word leaf count = leaf * 2 ^ 20 + count

-- where a leaf's words stand in the slot buffer: its slots from the first on, its low-key word last

abbrev pub first_slot : (fanout leaf : ℕ) → ℕ
first_slot fanout leaf = leaf * fanout

abbrev pub low_key_slot : (fanout leaf : ℕ) → ℕ
low_key_slot fanout leaf = leaf * fanout + (fanout - 1)
