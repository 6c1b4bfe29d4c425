-- The prefix of a leaf g bytes shorter: each suffix regains the g bytes before it. What is asked of the buffers, the whole buffers at exit, and the leaf
-- list they lay out then.
use Rattle.std.specs.Prelude.{ℕ, ◌+◌, ◌-◌, ◌*◌, ◌^◌, ◌≤◌, ◌<◌, suc, List, [], ◌∷◌, ◌++◌, ◌≡◌, get_or, length}
use Rattle.directory.specs.Used.{lent}
use Rattle.layout.specs.Around.{LaysAround}
use Rattle.layout.specs.Frames.{WordsIn}
use Rattle.layout.specs.Order.{leaf_words, words_of}
use Rattle.layout.specs.Regions.{Owns}
use Rattle.lists.specs.All.{All}
use Rattle.lists.specs.Part.{part, put}
use Rattle.model.specs.Leaves.{Node}
use Rattle.order.specs.Bytes.{Bytes}
use Rattle.words.specs.Words.{first_slot, low_key_slot, slot_word, word_count, word_leaf, word_offset, word_suffix, word_value}

-- the i-th pair's word then: the i pairs before have g bytes more each, and so has its own suffix
abbrev pub regrown_word : (g i w : ℕ) → ℕ
regrown_word g i w = slot_word (word_offset w + i * g) (word_suffix w + g) (word_value w)

-- the words of the pairs from the i-th on
abbrev pub regrown_words : (g i : ℕ) → List ℕ → List ℕ
regrown_words g i [] = []
regrown_words g i (w ∷ ws) = regrown_word g i w ∷ regrown_words g (suc i) ws

-- suffix and value of the word w
abbrev pub part_of : (arena : List ℕ) (w : ℕ) → Bytes
part_of arena w = part arena (word_offset w) (word_suffix w + word_value w)

-- the arena with these pairs written, from the last to the i-th, each behind the regained bytes
abbrev pub regrown_arena : (arena : List ℕ) (bytes : Bytes) (g i : ℕ) → List ℕ → List ℕ
regrown_arena arena bytes g i [] = arena
regrown_arena arena bytes g i (w ∷ ws) = put (regrown_arena arena bytes g (suc i) ws) (word_offset w + i * g) (bytes ++ part_of arena w)

-- one pair

pub record CanRegain (slots arena : List ℕ) (at i g from : ℕ) : Type 0 where
  pub word : at < length slots
  pub ahead : from + g ≤ word_offset (get_or slots at 0)
  pub room : word_offset (get_or slots at 0) + i * g + (g + (word_suffix (get_or slots at 0) + word_value (get_or slots at 0))) ≤ length arena
  pub suffix_fits : word_suffix (get_or slots at 0) + g < 2 ^ 12
  pub arena_fits : length arena < 2 ^ 28

pub record Regained (slots arena : List ℕ) (at i g from : ℕ) (exit_slots exit_arena : List ℕ) : Type 0 where
  pub slots_are : exit_slots ≡ put slots at (regrown_word g i (get_or slots at 0) ∷ [])
  pub arena_is : exit_arena ≡ put arena (word_offset (get_or slots at 0) + i * g) (part arena from g ++ part_of arena (get_or slots at 0))

-- a leaf

-- the slot words of the directory word d's leaf, and its low-key word
abbrev pub words_at : (fanout : ℕ) (slots : List ℕ) (d : ℕ) → List ℕ
words_at fanout slots d = part slots (first_slot fanout (word_leaf d)) (word_count d)

abbrev pub low_word_at : (fanout : ℕ) (slots : List ℕ) (d : ℕ) → ℕ
low_word_at fanout slots d = get_or slots (low_key_slot fanout (word_leaf d)) 0

-- the leaf list seen from the leaf of d, whose prefix has p bytes, the last g of them at `from` in its low key; its last part ends at or before `top`,
-- and behind that is room for g bytes to each pair
pub record Regrows (fanout : ℕ) (slots arena : List ℕ) (d g from top : ℕ) (fs bs qs : List ℕ) (p : ℕ) (rs : List ℕ) (l : List Node) (n : Node) (r : List Node) : Type 0 where
  pub lays : LaysAround (lent fanout slots arena) fs d bs qs p rs l n r
  pub owns : Owns (lent fanout slots arena) fs d bs
  pub shorter : g ≤ p
  pub low_long : p ≤ length n.low
  pub from_is : from ≡ word_offset (low_word_at fanout slots d) + (p - g)
  pub ends : WordsIn 0 (words_of (lent fanout slots arena) fs ++ leaf_words (lent fanout slots arena) d) top
  pub room : WordsIn (top + word_count d * g) (words_of (lent fanout slots arena) bs) (length arena)
  pub arena_fits : length arena < 2 ^ 28
  pub suffixes_fit : All (λ w. word_suffix w + g < 2 ^ 12) (words_at fanout slots d)

pub record CanRegrow (fanout : ℕ) (slots arena : List ℕ) (d g from : ℕ) : Type 0 where
  pub top : ℕ
  pub fs : List ℕ
  pub bs : List ℕ
  pub qs : List ℕ
  pub p : ℕ
  pub rs : List ℕ
  pub l : List Node
  pub n : Node
  pub r : List Node
  pub regrows : Regrows fanout slots arena d g from top fs bs qs p rs l n r

-- the same leaf list, that leaf's prefix g bytes shorter
pub record RegrownList (fanout d g : ℕ) (exit_slots exit_arena fs bs qs : List ℕ) (p : ℕ) (rs : List ℕ) (l : List Node) (n : Node) (r : List Node) : Type 0 where
  pub lays : LaysAround (lent fanout exit_slots exit_arena) fs d bs qs (p - g) rs l n r
  pub owns : Owns (lent fanout exit_slots exit_arena) fs d bs

abbrev pub regrown_slots : (fanout : ℕ) (slots : List ℕ) (d g : ℕ) → List ℕ
regrown_slots fanout slots d g = put slots (first_slot fanout (word_leaf d)) (regrown_words g 0 (words_at fanout slots d))

pub record Regrown (fanout : ℕ) (slots arena : List ℕ) (d g from : ℕ) (exit_slots exit_arena : List ℕ) : Type 0 where
  pub slots_are : exit_slots ≡ regrown_slots fanout slots d g
  pub arena_is : exit_arena ≡ regrown_arena arena (part arena from g) g 0 (words_at fanout slots d)
  pub regrown : {top : ℕ} {fs bs qs : List ℕ} {p : ℕ} {rs : List ℕ} {l : List Node} {n : Node} {r : List Node}
      → Regrows fanout slots arena d g from top fs bs qs p rs l n r → RegrownList fanout d g exit_slots exit_arena fs bs qs p rs l n r
