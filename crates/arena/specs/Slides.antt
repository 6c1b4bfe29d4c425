-- One part slid: what is asked of the buffers and the new place, the whole buffers at exit, and the leaf list they lay out then.
use Rattle.std.specs.Prelude.{ℕ, ◌+◌, ◌^◌, ◌<◌, suc, List, [], ◌∷◌, ◌≡◌, get_or, length}
use Rattle.layout.specs.Around.{LaysAround, words_before, words_behind}
use Rattle.layout.specs.Buffers.{Buffers}
use Rattle.layout.specs.Frames.{WordsIn}
use Rattle.layout.specs.Order.{words_of}
use Rattle.layout.specs.Regions.{Owns}
use Rattle.lists.specs.Part.{part, put}
use Rattle.model.specs.Leaves.{Node}
use Rattle.words.specs.Words.{first_slot, low_key_slot, low_key_word, slot_word, word_count, word_leaf, word_offset, word_suffix, word_value}

abbrev pub lent : (fanout : ℕ) (slots arena : List ℕ) → Buffers
lent fanout slots arena = record { fanout = fanout; slots = slots; arena = arena }

-- the part of the word w may lie at `to`: behind the parts of ws, before those of vs
pub record Between (ws vs : List ℕ) (w to top : ℕ) : Type 0 where
  pub under : WordsIn 0 ws to
  pub over : WordsIn (to + (word_suffix w + word_value w)) vs top

-- the i-th slot word of the leaf of the directory word d, and that leaf's low-key word
abbrev pub slot_word_at : (fanout : ℕ) (slots : List ℕ) (d i : ℕ) → ℕ
slot_word_at fanout slots d i = get_or slots (first_slot fanout (word_leaf d) + i) 0

abbrev pub low_word_at : (fanout : ℕ) (slots : List ℕ) (d : ℕ) → ℕ
low_word_at fanout slots d = get_or slots (low_key_slot fanout (word_leaf d)) 0

-- its part between the parts of the words fs, d and bs of the directory
abbrev pub PairBetween : (fanout : ℕ) (slots arena fs : List ℕ) (d : ℕ) (bs : List ℕ) (i to : ℕ) → Type 0
PairBetween fanout slots arena fs d bs i to =
    Between (words_before (lent fanout slots arena) fs d i) (words_behind (lent fanout slots arena) d bs (suc i)) (slot_word_at fanout slots d i) to (length arena)

abbrev pub LowBetween : (fanout : ℕ) (slots arena fs : List ℕ) (d : ℕ) (bs : List ℕ) (to : ℕ) → Type 0
LowBetween fanout slots arena fs d bs to =
    Between (words_of (lent fanout slots arena) fs) (words_behind (lent fanout slots arena) d bs 0) (low_word_at fanout slots d) to (length arena)

-- a pair's part

pub record CanSlidePair (fanout : ℕ) (slots arena : List ℕ) (d i to : ℕ) : Type 0 where
  pub fs : List ℕ
  pub bs : List ℕ
  pub qs : List ℕ
  pub p : ℕ
  pub rs : List ℕ
  pub l : List Node
  pub n : Node
  pub r : List Node
  pub lays : LaysAround (lent fanout slots arena) fs d bs qs p rs l n r
  pub owns : Owns (lent fanout slots arena) fs d bs
  pub stored : i < word_count d
  pub between : PairBetween fanout slots arena fs d bs i to
  pub fits : to < 2 ^ 28

pub record SlidPair (fanout : ℕ) (slots arena : List ℕ) (d i to : ℕ) (exit_slots exit_arena : List ℕ) : Type 0 where
  pub slots_are :
      exit_slots
      ≡ put slots (first_slot fanout (word_leaf d) + i) (slot_word to (word_suffix (slot_word_at fanout slots d i)) (word_value (slot_word_at fanout slots d i)) ∷ [])
  pub arena_is :
      exit_arena
      ≡ put arena to
      (part arena (word_offset (slot_word_at fanout slots d i)) (word_suffix (slot_word_at fanout slots d i) + word_value (slot_word_at fanout slots d i)))
  -- whatever leaf list was laid out around d, with this place free for the part, is laid out now
  pub kept : {fs bs qs : List ℕ} {p : ℕ} {rs : List ℕ} {l : List Node} {n : Node} {r : List Node} → LaysAround (lent fanout slots arena) fs d bs qs p rs l n r
      → Owns (lent fanout slots arena) fs d bs → i < word_count d → PairBetween fanout slots arena fs d bs i to
      → LaysAround (lent fanout exit_slots exit_arena) fs d bs qs p rs l n r × Owns (lent fanout exit_slots exit_arena) fs d bs

-- a low key

pub record CanSlideLow (fanout : ℕ) (slots arena : List ℕ) (d to : ℕ) : Type 0 where
  pub fs : List ℕ
  pub bs : List ℕ
  pub qs : List ℕ
  pub p : ℕ
  pub rs : List ℕ
  pub l : List Node
  pub n : Node
  pub r : List Node
  pub lays : LaysAround (lent fanout slots arena) fs d bs qs p rs l n r
  pub owns : Owns (lent fanout slots arena) fs d bs
  pub between : LowBetween fanout slots arena fs d bs to
  pub fits : to < 2 ^ 28

pub record SlidLow (fanout : ℕ) (slots arena : List ℕ) (d to : ℕ) (exit_slots exit_arena : List ℕ) : Type 0 where
  pub slots_are : exit_slots ≡ put slots (low_key_slot fanout (word_leaf d)) (low_key_word to (word_suffix (low_word_at fanout slots d)) ∷ [])
  pub arena_is : exit_arena ≡ put arena to (part arena (word_offset (low_word_at fanout slots d)) (word_suffix (low_word_at fanout slots d)))
  pub kept : {fs bs qs : List ℕ} {p : ℕ} {rs : List ℕ} {l : List Node} {n : Node} {r : List Node} → LaysAround (lent fanout slots arena) fs d bs qs p rs l n r
      → Owns (lent fanout slots arena) fs d bs → LowBetween fanout slots arena fs d bs to
      → LaysAround (lent fanout exit_slots exit_arena) fs d bs qs p rs l n r × Owns (lent fanout exit_slots exit_arena) fs d bs
