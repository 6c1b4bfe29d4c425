-- What a write leaves as it was: words in order, and the words and bytes of a leaf.
use Rattle.std.specs.Prelude.{◌<◌, ℕ, ◌+◌, ◌≡◌}
use mathlib.Core.List.{List, map}
use Rattle.layout.specs.Buffers.{Buffers, low_word, slot_words}
use Rattle.layout.specs.Order.{InOrder, leaf_words, word_extent}
use Rattle.lists.specs.All.{All}
use Rattle.lists.specs.Part.{part}
use Rattle.words.specs.Words.{first_slot, word_count, word_leaf, word_offset, word_suffix, word_value}

-- the buffers with other slots and another arena
abbrev pub rewritten : Buffers → (slots arena : List ℕ) → Buffers
rewritten b slots arena = record { fanout = b.fanout; slots = slots; arena = arena }

-- where the words of a directory word's leaf begin
abbrev pub first_of : Buffers → ℕ → ℕ
first_of b d = first_slot b.fanout (word_leaf d)

-- the parts of these words lie in order
abbrev pub WordsIn : ℕ → List ℕ → ℕ → Type 0
WordsIn a ws top = InOrder a (map word_extent ws) top

-- the bytes of a word's part are as they were
abbrev pub SameBytes : (arena now : List ℕ) → ℕ → Type 0
SameBytes arena now w = part now (word_offset w) (word_suffix w + word_value w) ≡ part arena (word_offset w) (word_suffix w + word_value w)

-- the words of a directory word are as they were
pub record SameWords (b c : Buffers) (d : ℕ) : Type 0 where
  pub low_word_eq : low_word c d ≡ low_word b d
  pub words : slot_words c d ≡ slot_words b d

pub record SameLeaf (b c : Buffers) (d : ℕ) : Type 0 where
  pub same : SameWords b c d
  pub bytes : All (SameBytes b.arena c.arena) (leaf_words b d)

-- a directory word of another leaf, with fewer words than the fanout
pub record Elsewhere (fanout leaf d : ℕ) : Type 0 where
  pub other : word_leaf d ≡ leaf → ⊥
  pub fits : word_count d < fanout
