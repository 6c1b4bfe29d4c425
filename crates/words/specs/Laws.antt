-- Packing and unpacking undo one another, for every u64 and u32 and for all numbers that fit their fields.
-- Assumes nothing.
use Rattle.std.specs.Prelude.{◌≡◌, ℕ, ◌^◌, ◌<◌}
use Rattle.std.proofs.Common.{◌∙◌, arith}
use Rattle.words.specs.declared.Slot.{Slot}
use Rattle.words.specs.declared.LowKey.{LowKey}
use Rattle.words.specs.Words.{word_offset, word_suffix, word_value, slot_word, SlotFits, Unpacked, low_key_word, LowKeyFits, LowKeyUnpacked, word_leaf, word_count, directory_word}

-- a slot word from its fields

module _ (offset suffix value : ℕ) (hs : suffix < 2 ^ 12) (hv : value < 2 ^ 24) where
  pub offset_of_slot : word_offset (slot_word offset suffix value) ≡ offset
  offset_of_slot = omega arith

  pub suffix_of_slot : word_suffix (slot_word offset suffix value) ≡ suffix
  suffix_of_slot = omega arith

  pub value_of_slot : word_value (slot_word offset suffix value) ≡ value
  value_of_slot = omega arith

  pub slot_small : offset < 2 ^ 28 → slot_word offset suffix value < 2 ^ 64
  slot_small h = omega arith

-- the fields from a slot word

pub slot_of_fields : (w : ℕ) → slot_word (word_offset w) (word_suffix w) (word_value w) ≡ w
slot_of_fields w = omega arith

pub suffix_small : (w : ℕ) → word_suffix w < 2 ^ 12
suffix_small w = omega arith

pub value_small : (w : ℕ) → word_value w < 2 ^ 24
value_small w = omega arith

-- a word without value bits is the low-key word of its other two fields
pub low_key_of_fields : (w : ℕ) → word_value w ≡ 0 → low_key_word (word_offset w) (word_suffix w) ≡ w
low_key_of_fields w e = omega arith

-- a directory word

module _ (leaf count : ℕ) (h : count < 2 ^ 20) where
  pub leaf_of_directory : word_leaf (directory_word leaf count) ≡ leaf
  leaf_of_directory = omega arith

  pub count_of_directory : word_count (directory_word leaf count) ≡ count
  count_of_directory = omega arith

  pub directory_small : leaf < 2 ^ 12 → directory_word leaf count < 2 ^ 32
  directory_small k = omega arith

pub directory_of_fields : (w : ℕ) → directory_word (word_leaf w) (word_count w) ≡ w
directory_of_fields w = omega arith

pub count_small : (w : ℕ) → word_count w < 2 ^ 20
count_small w = omega arith

-- what the code packs, it unpacks again, and the other way round

pub slot_packed : {w : ℕ} {s : Slot} → Unpacked w s → slot_word s.offset.0 s.suffix s.value ≡ w
slot_packed {w} u = rw (u.offset_is, u.suffix_is, u.value_is) (slot_of_fields w)

pub slot_unpacked : (s t : Slot) → SlotFits s → Unpacked (slot_word s.offset.0 s.suffix s.value) t → t ≡ s
slot_unpacked s t f u =
    let o : t.offset.0 ≡ s.offset.0 = u.offset_is ∙ offset_of_slot _ _ _ f.suffix_fits f.value_fits in
    let k : t.suffix ≡ s.suffix = u.suffix_is ∙ suffix_of_slot s.offset.0 _ _ f.suffix_fits f.value_fits in
    let v : t.value ≡ s.value = u.value_is ∙ value_of_slot s.offset.0 _ _ f.suffix_fits f.value_fits in
    λ i. record { offset = record { 0 = o i }; suffix = k i; value = v i }

pub low_key_packed : {w : ℕ} {k : LowKey} → word_value w ≡ 0 → LowKeyUnpacked w k → low_key_word k.offset.0 k.length ≡ w
low_key_packed {w} e u = rw (u.offset_is, u.length_is) (low_key_of_fields w e)

pub low_key_unpacked : (k j : LowKey) → LowKeyFits k → LowKeyUnpacked (low_key_word k.offset.0 k.length) j → j ≡ k
low_key_unpacked k j f u =
    let o : j.offset.0 ≡ k.offset.0 = u.offset_is ∙ offset_of_slot _ _ 0 f.length_fits (omega arith) in
    let n : j.length ≡ k.length = u.length_is ∙ suffix_of_slot k.offset.0 _ 0 f.length_fits (omega arith) in
    λ i. record { offset = record { 0 = o i }; length = n i }
