-- The parts of one leaf, counted from its low key on: where a part's word stands, parts that lie tight, one part slid.
use Rattle.std.specs.Prelude.{ℕ, zero, suc, ◌+◌, ◌^◌, ◌≤◌, ◌<◌, List, ◌∷◌, ◌++◌, map, ◌≡◌, drop, get_or, length, take}
use Rattle.arena.specs.Slides.{Between, lent}
use Rattle.layout.specs.Around.{LaysAround}
use Rattle.layout.specs.Buffers.{Buffers}
use Rattle.layout.specs.Frames.{SameWords, WordsIn}
use Rattle.layout.specs.Order.{leaf_words, word_extent, words_of, total}
use Rattle.layout.specs.Regions.{Owns}
use Rattle.lists.specs.All.{All}
use Rattle.model.specs.Leaves.{Node}
use Rattle.words.specs.Words.{first_slot, low_key_slot, slot_word, word_count, word_leaf, word_offset, word_suffix, word_value}

-- where the word of the k-th part of the directory word d's leaf stands
abbrev pub part_slot : (fanout d k : ℕ) → ℕ
part_slot fanout d zero = low_key_slot fanout (word_leaf d)
part_slot fanout d (suc i) = first_slot fanout (word_leaf d) + i

abbrev pub part_word : (fanout : ℕ) (slots : List ℕ) (d k : ℕ) → ℕ
part_word fanout slots d k = get_or slots (part_slot fanout d k) 0

pub record CanPlacePart (fanout d k : ℕ) : Type 0 where
  pub stored : k ≤ word_count d
  pub count_fits : word_count d < fanout
  pub inside : first_slot fanout (word_leaf d) + fanout < 2 ^ 64

pub record CanSizePart (fanout : ℕ) (slots : List ℕ) (d k : ℕ) : Type 0 where
  pub stored : k ≤ word_count d
  pub count_fits : word_count d < fanout
  pub inside : first_slot fanout (word_leaf d) + fanout ≤ length slots

-- the bytes of a word's part, and of several
abbrev pub size_of : ℕ → ℕ
size_of w = word_suffix w + word_value w

abbrev pub sizes : List ℕ → ℕ
sizes ws = total (map word_extent ws)

-- where a word's part ends
abbrev pub part_end : ℕ → ℕ
part_end w = word_offset w + size_of w

pub record PartSize (fanout : ℕ) (slots : List ℕ) (d k size : ℕ) : Type 0 where
  pub size_is : size ≡ size_of (part_word fanout slots d k)

-- the parts of these words lie in order from a to top, without a gap
pub record Tight (a : ℕ) (ws : List ℕ) (top : ℕ) : Type 0 where
  pub ordered : WordsIn a ws top
  pub full : a + sizes ws ≡ top

-- the words of the parts before the k-th part of the leaf, and of those from it on
abbrev pub parts_before : Buffers → (fs : List ℕ) (d k : ℕ) → List ℕ
parts_before b fs d k = words_of b fs ++ take k (leaf_words b d)

abbrev pub parts_from : Buffers → (d : ℕ) (bs : List ℕ) (k : ℕ) → List ℕ
parts_from b d bs k = drop k (leaf_words b d) ++ words_of b bs

-- a leaf list laid out by the directory words fs, d and bs, in which the leaf of d has its region for itself
pub record Laid (b : Buffers) (fs : List ℕ) (d : ℕ) (bs : List ℕ) : Type 0 where
  pub qs : List ℕ
  pub p : ℕ
  pub rs : List ℕ
  pub l : List Node
  pub n : Node
  pub r : List Node
  pub lays : LaysAround b fs d bs qs p rs l n r
  pub owns : Owns b fs d bs

-- parts of the leaf of d were moved: every leaf list stays, the words of the other leaves too, and all its parts together have the same size
pub record Moved (b c : Buffers) (fs : List ℕ) (d : ℕ) (bs : List ℕ) : Type 0 where
  pub kept : {qs : List ℕ} {p : ℕ} {rs : List ℕ} {l : List Node} {n : Node} {r : List Node} → LaysAround b fs d bs qs p rs l n r → LaysAround c fs d bs qs p rs l n r
  pub owned : Owns c fs d bs
  pub ahead : All (SameWords b c) fs
  pub behind : All (SameWords b c) bs
  pub same_size : sizes (leaf_words c d) ≡ sizes (leaf_words b d)

-- one part slid

-- the word w with its part at `to`
abbrev pub word_to : (w to : ℕ) → ℕ
word_to w to = slot_word to (word_suffix w) (word_value w)

abbrev pub PartBetween : Buffers → (fs : List ℕ) (d : ℕ) (bs : List ℕ) (k to : ℕ) → Type 0
PartBetween b fs d bs k to = Between (parts_before b fs d k) (parts_from b d bs (suc k)) (get_or (leaf_words b d) k 0) to (length b.arena)

pub record CanSlidePart (fanout : ℕ) (slots arena : List ℕ) (d k to : ℕ) : Type 0 where
  pub fs : List ℕ
  pub bs : List ℕ
  pub laid : Laid (lent fanout slots arena) fs d bs
  pub stored : k ≤ word_count d
  pub between : PartBetween (lent fanout slots arena) fs d bs k to
  pub fits : to < 2 ^ 28

pub record PartMoved (b c : Buffers) (fs : List ℕ) (d : ℕ) (bs : List ℕ) (k to : ℕ) : Type 0 where
  pub moved : Moved b c fs d bs
  pub words : leaf_words c d ≡ take k (leaf_words b d) ++ (word_to (get_or (leaf_words b d) k 0) to ∷ drop (suc k) (leaf_words b d))

pub record SlidPart (fanout : ℕ) (slots arena : List ℕ) (d k to : ℕ) (exit_slots exit_arena : List ℕ) : Type 0 where
  pub slid : {fs bs : List ℕ} → Laid (lent fanout slots arena) fs d bs → k ≤ word_count d → PartBetween (lent fanout slots arena) fs d bs k to
      → PartMoved (lent fanout slots arena) (lent fanout exit_slots exit_arena) fs d bs k to
