-- The edits of one leaf's words: what each needs, the buffers it leaves, and what it does to a leaf list that they lay out.
use Rattle.std.specs.Prelude.{ℕ, suc, ◌+◌, ◌-◌, ◌^◌, ◌≤◌, ◌<◌, List, [], ◌∷◌, ◌++◌, map, ◌≡◌, get_or, length, take, drop}
use Rattle.layout.specs.Around.{words_before, words_behind}
use Rattle.layout.specs.Buffers.{Buffers, value_place}
use Rattle.layout.specs.Frames.{WordsIn}
use Rattle.layout.specs.Shifted.{shifted}
use Rattle.lists.specs.All.{All}
use Rattle.lists.specs.Part.{part, put}
use Rattle.model.specs.Leaves.{with_pairs}
use Rattle.model.specs.Map.{Pair, pair}
use Rattle.order.specs.Bytes.{Bytes}
use Rattle.slots.specs.Around.{Around, Becomes, Region, over}
use Rattle.words.specs.Words.{directory_word, first_slot, slot_word, word_count, word_leaf, word_offset, word_suffix, word_value}

-- the i-th slot word of the directory word d's leaf: its place
abbrev pub slot_of : (fanout d i : ℕ) → ℕ
slot_of fanout d i = first_slot fanout (word_leaf d) + i

-- the leaf's slot words
abbrev pub words_at : (fanout : ℕ) (slots : List ℕ) (d : ℕ) → List ℕ
words_at fanout slots d = part slots (first_slot fanout (word_leaf d)) (word_count d)

-- the directory word d with another count
abbrev pub counted : (d count : ℕ) → ℕ
counted d count = directory_word (word_leaf d) count

-- the i-th pair taken out of the leaf at the directory's place j: the words behind it down by one, one less in the count

pub record Takes (fanout : ℕ) (dir slots : List ℕ) (j i : ℕ) : Type 0 where
  pub place : j < length dir
  pub region : Region fanout slots (get_or dir j 0)
  pub slot : i < word_count (get_or dir j 0)

pub record TakenOut (fanout : ℕ) (dir slots : List ℕ) (j i : ℕ) (now_dir now_slots : List ℕ) : Type 0 where
  pub dir_is : now_dir ≡ put dir j (counted (get_or dir j 0) (word_count (get_or dir j 0) - 1) ∷ [])
  pub slots_are : now_slots ≡ put slots (slot_of fanout (get_or dir j 0) i) (part slots (slot_of fanout (get_or dir j 0) i + 1) (word_count (get_or dir j 0) - (i + 1)))
  pub leaves : (arena : List ℕ) (a : Around (over fanout slots arena) (get_or dir j 0))
      → Becomes (over fanout slots arena) (get_or dir j 0) a (over fanout now_slots arena) (counted (get_or dir j 0) (word_count (get_or dir j 0) - 1)) a.prefix
      (with_pairs a.leaf (take i a.leaf.pairs ++ drop (suc i) a.leaf.pairs))

-- L6: the prefix longer by g, so every suffix of the leaf starts g bytes later and is g bytes shorter; no byte moves

pub record Shortens (fanout : ℕ) (slots : List ℕ) (d g : ℕ) : Type 0 where
  pub region : Region fanout slots d
  pub small : g < 2 ^ 28
  pub offsets : All (λ w. word_offset w + g < 2 ^ 28) (words_at fanout slots d)

pub record Shortened (fanout : ℕ) (slots : List ℕ) (d g : ℕ) (now_slots : List ℕ) : Type 0 where
  pub slots_are : now_slots ≡ put slots (first_slot fanout (word_leaf d)) (map (shifted g) (words_at fanout slots d))
  pub leaves : (arena : List ℕ) (a : Around (over fanout slots arena) d) → a.prefix + g ≤ length a.leaf.low
      → All (λ x. take (a.prefix + g) x.key ≡ take (a.prefix + g) a.leaf.low) a.leaf.pairs
      → Becomes (over fanout slots arena) d a (over fanout now_slots arena) d (a.prefix + g) a.leaf

-- the i-th pair's value replaced by one that is not longer, written in its place

-- the slot word w with another value length
abbrev pub valued : (w value : ℕ) → ℕ
valued w value = slot_word (word_offset w) (word_suffix w) value

pub record Replaces (fanout : ℕ) (slots arena : List ℕ) (d i : ℕ) (value : Bytes) : Type 0 where
  pub region : Region fanout slots d
  pub slot : i < word_count d
  pub inside : value_place (get_or slots (slot_of fanout d i) 0) + length value ≤ length arena
  pub not_longer : length value ≤ word_value (get_or slots (slot_of fanout d i) 0)

pub record Replaced (fanout : ℕ) (slots arena : List ℕ) (d i : ℕ) (value : Bytes) (now_slots now_arena : List ℕ) : Type 0 where
  pub slots_are : now_slots ≡ put slots (slot_of fanout d i) (valued (get_or slots (slot_of fanout d i) 0) (length value) ∷ [])
  pub arena_is : now_arena ≡ put arena (value_place (get_or slots (slot_of fanout d i) 0)) value
  pub leaves : (a : Around (over fanout slots arena) d) (x : Pair)
      → Becomes (over fanout slots arena) d a (over fanout now_slots now_arena) d a.prefix
      (with_pairs a.leaf (take i a.leaf.pairs ++ (pair (get_or a.leaf.pairs i x).key value ∷ drop (suc i) a.leaf.pairs)))

-- a pair put in before the i-th of the leaf at the directory's place j: suffix and value written at a place of the arena, the words from the
-- i-th on up by one, one more in the count

pub record Puts (fanout : ℕ) (dir slots arena : List ℕ) (j i at : ℕ) (suffix value : Bytes) : Type 0 where
  pub place : j < length dir
  pub region : Region fanout slots (get_or dir j 0)
  pub slot : i ≤ word_count (get_or dir j 0)
  pub room : word_count (get_or dir j 0) + 1 < fanout
  pub count_fits : word_count (get_or dir j 0) + 1 < 2 ^ 20
  pub inside : at + (length suffix + length value) ≤ length arena
  pub offset_fits : at < 2 ^ 28
  pub suffix_fits : length suffix < 2 ^ 12
  pub value_fits : length value < 2 ^ 24

-- the place lies between the parts of the words before the i-th and of those from it on
pub record Gap (b : Buffers) (ahead : List ℕ) (d : ℕ) (behind : List ℕ) (i at size : ℕ) : Type 0 where
  pub after : WordsIn 0 (words_before b ahead d i) at
  pub before : WordsIn (at + size) (words_behind b d behind i) (length b.arena)

pub record PutIn (fanout : ℕ) (dir slots arena : List ℕ) (j i at : ℕ) (suffix value : Bytes) (now_dir now_slots now_arena : List ℕ) : Type 0 where
  pub dir_is : now_dir ≡ put dir j (counted (get_or dir j 0) (word_count (get_or dir j 0) + 1) ∷ [])
  pub slots_are : now_slots
      ≡ put slots (slot_of fanout (get_or dir j 0) i) (slot_word at (length suffix) (length value) ∷ part slots (slot_of fanout (get_or dir j 0) i) (word_count (get_or dir j 0) - i))
  pub arena_is : now_arena ≡ put arena at (suffix ++ value)
  pub leaves : (a : Around (over fanout slots arena) (get_or dir j 0))
      → Gap (over fanout slots arena) a.ahead (get_or dir j 0) a.behind i at (length suffix + length value)
      → Becomes (over fanout slots arena) (get_or dir j 0) a (over fanout now_slots now_arena) (counted (get_or dir j 0) (word_count (get_or dir j 0) + 1)) a.prefix
      (with_pairs a.leaf (take i a.leaf.pairs ++ (pair (take a.prefix a.leaf.low ++ suffix) value ∷ drop i a.leaf.pairs)))
